pub mod Bad
pub mod Numbers
pub mod Text

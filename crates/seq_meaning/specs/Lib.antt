pub mod Stored
pub mod Ready
pub mod Going
pub mod Text

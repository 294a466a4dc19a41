pub mod Elements
pub mod Locals

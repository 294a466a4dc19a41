pub mod Chained
pub mod Completion
pub mod Lines
pub mod Subscripts
pub mod Turns

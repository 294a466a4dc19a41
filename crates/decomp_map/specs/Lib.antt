pub mod Counting
pub mod Positions

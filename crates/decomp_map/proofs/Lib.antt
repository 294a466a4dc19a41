pub mod Counting
pub mod Dealing
pub mod Elements
pub mod Regular

pub mod Alternating
pub mod Balance
pub mod Exchanging
pub mod Counting
pub mod Lawful
pub mod Few
pub mod Printing

pub mod Layout
pub mod Uses
pub mod Blocks
pub mod Told
pub mod Jobs

pub mod Local
pub mod NeedsRead
pub mod Owned
pub mod Parts
pub mod Reached
pub mod Seen
pub mod Sizes

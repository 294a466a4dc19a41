pub mod Entries
pub mod Kept
pub mod Marks
pub mod Pools
pub mod Queues
pub mod Slots

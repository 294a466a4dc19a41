pub mod Boxes
pub mod Marks
pub mod Pools
pub mod Queues

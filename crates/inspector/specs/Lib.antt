pub mod Placed
pub mod Readers
pub mod Walks

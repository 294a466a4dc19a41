pub mod Memories
pub mod Acts
pub mod Standings

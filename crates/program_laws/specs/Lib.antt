pub mod Accepted
pub mod Indexing
pub mod Maps
pub mod Named
pub mod Own
pub mod Plans
pub mod Steps

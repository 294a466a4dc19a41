pub mod Structure
pub mod Rows
pub mod Edges
pub mod Chained

pub mod Verdicts
pub mod Marks
pub mod Walks
pub mod Edges
pub mod Columns
pub mod Trails

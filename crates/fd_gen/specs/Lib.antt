pub mod Draws
pub mod Mesh

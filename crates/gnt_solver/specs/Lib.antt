pub mod Equations
pub mod Columns
pub mod Passes
pub mod Arrived
pub mod Placed
pub mod Same

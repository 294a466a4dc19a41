pub mod Instructions
pub mod Machine
pub mod Traces
pub mod Passing
pub mod Trails
pub mod Sound

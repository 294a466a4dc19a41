pub mod Behaviour
pub mod Boxes
pub mod System
pub mod Facts
pub mod Outcomes
pub mod Follows
pub mod Traces
pub mod Protocol

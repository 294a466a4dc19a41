pub mod KeptNames
pub mod Bounds
pub mod Views
pub mod Ordered
pub mod Noting
pub mod Numbers
pub mod Tables
pub mod Changes

pub mod Numbered
pub mod Walking
pub mod Returning
pub mod Growing
pub mod Trips
pub mod TrailPaths
mod Examples

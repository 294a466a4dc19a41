pub mod Distributions
pub mod Executing
pub mod Installed
pub mod OwnerTable
pub mod Placed

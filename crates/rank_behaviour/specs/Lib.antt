pub mod Exchanged
pub mod Jobs

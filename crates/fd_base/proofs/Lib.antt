pub mod Digits
pub mod Places
pub mod Quotients
pub mod TripCounts

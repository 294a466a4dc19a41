pub mod Names
pub mod Sums
pub mod FormTexts
pub mod Joined
pub mod ItemTexts
pub mod Listings
pub mod Tables
pub mod Readings

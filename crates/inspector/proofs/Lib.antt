pub mod Alike
pub mod Elements
pub mod Members
pub mod Pairs
pub mod SplitPlaces
pub mod SameMembers
pub mod Visits

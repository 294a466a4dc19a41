pub mod Shifts
pub mod Tables
pub mod RankBits
pub mod TableExamples
pub mod ByMap
pub mod Told

pub mod Kept
pub mod Lending
pub mod Sets
pub mod Tables

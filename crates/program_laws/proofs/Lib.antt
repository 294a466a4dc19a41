pub mod ItemsFound
pub mod Small
pub mod WordsStored

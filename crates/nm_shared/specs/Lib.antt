pub mod EntryLaws
pub mod Runs
pub mod Search
pub mod Spot
pub mod Map
pub mod Hashed
pub mod Places
pub mod TextHash

pub mod FoundRecords
pub mod Frame
pub mod Journal
pub mod Moments
pub mod Records
pub mod Staged

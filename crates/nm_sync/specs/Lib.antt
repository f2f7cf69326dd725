pub mod Listed
pub mod Merge
pub mod Noted
pub mod Renamed
pub mod Report

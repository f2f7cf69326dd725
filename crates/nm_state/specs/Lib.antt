pub mod Additions
pub mod Counts
pub mod Messages
pub mod Renumbered
pub mod Snapshot
pub mod Taken

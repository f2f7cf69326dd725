pub mod Batches
pub mod Bodies
pub mod FileReads
pub mod Found
pub mod Listing
pub mod Mail
pub mod Scan
pub mod Walk

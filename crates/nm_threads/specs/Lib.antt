pub mod Same
pub mod Name
pub mod Labels
pub mod Maps
pub mod Fits
pub mod Entries
pub mod Work

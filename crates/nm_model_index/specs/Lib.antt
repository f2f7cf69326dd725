pub mod Fits
pub mod Index
pub mod Valid

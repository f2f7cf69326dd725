pub mod Named
pub mod ReadBack
pub mod Restored
pub mod Tags

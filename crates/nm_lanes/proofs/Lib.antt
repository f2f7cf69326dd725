pub mod Cuts
pub mod LaneLemmas
pub mod PlaceLemmas
pub mod ReaderLemmas
pub mod ZipLemmas

pub mod NameLemmas
pub mod PlaceLemmas
mod ShiftLemmas
pub mod OrderLemmas
pub mod IndexLemmas

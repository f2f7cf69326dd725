pub mod AddLemmas
pub mod HalfLemmas
pub mod HeldLemmas
pub mod ListLemmas
pub mod PruneLemmas
pub mod TagLemmas
pub mod TakeLemmas

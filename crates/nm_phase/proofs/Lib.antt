pub mod BarrierLemmas
pub mod LaneLemmas
pub mod LaneReadLemmas
pub mod LineLemmas
pub mod MarkLemmas
pub mod ObservationLemmas
pub mod PhaseLemmas
pub mod TakenLemmas

pub mod HeadLemmas
pub mod LawLemmas
pub mod ReplayLemmas

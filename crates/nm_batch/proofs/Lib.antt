pub mod BeforeLemmas
pub mod LawLemmas
pub mod LineLemmas

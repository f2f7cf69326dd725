pub mod BlockLemmas
pub mod NumberLemmas
pub mod ReadLemmas
pub mod RunLemmas
pub mod WriterLemmas

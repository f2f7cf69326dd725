pub mod ApartLemmas
pub mod FitLemmas
pub mod FoldLemmas
pub mod KeptLemmas
pub mod MoveLemmas
pub mod NumberLemmas
pub mod TagCommitLemmas
pub mod TagLemmas

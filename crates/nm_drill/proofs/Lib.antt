pub mod DigitLemmas
pub mod GroupLemmas
pub mod LineLemmas
pub mod PathLemmas

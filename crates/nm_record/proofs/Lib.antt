pub mod FoundLemmas
pub mod LenLemmas
pub mod SizeLemmas
pub mod TagLemmas
pub mod WriteLemmas

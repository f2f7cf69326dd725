pub mod CutLemmas
pub mod LineLemmas
pub mod PairLemmas
pub mod PlaceLemmas
pub mod Utf8Lemmas

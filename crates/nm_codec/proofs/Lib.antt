mod HopLemmas
pub mod ItemLemmas
pub mod Utf8Lemmas
pub mod WordsLemmas

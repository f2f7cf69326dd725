pub mod FallbackLemmas
pub mod PlaceLemmas
pub mod PutLemmas

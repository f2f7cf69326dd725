pub mod DecodeLemmas
pub mod LineLemmas
pub mod SpaceLemmas
pub mod TagLemmas

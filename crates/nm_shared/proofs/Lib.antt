pub mod EntryLemmas
pub mod SpotLemmas
pub mod MapLemmas
pub mod PartLemmas
pub mod HashedLemmas
pub mod PlacesLemmas

pub mod FieldLemmas
pub mod LookupLemmas
pub mod WalkLemmas

pub mod EncodingLemmas
pub mod TagPlanLemmas
pub mod WantedTagLemmas

pub mod ListLemmas
pub mod WordLemmas
pub mod FollowLemmas
pub mod LeapLemmas
pub mod EndLemmas
pub mod FoundLemmas
pub mod StartLemmas
pub mod DocumentLemmas

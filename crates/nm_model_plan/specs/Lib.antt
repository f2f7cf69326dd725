pub mod Apart
pub mod Moves
pub mod NameTags
pub mod Numbering
pub mod Plan
pub mod TagCommit

pub mod FlagTags
pub mod Letters
pub mod Renames

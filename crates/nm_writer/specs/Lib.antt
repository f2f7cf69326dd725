pub mod AfterCommit
pub mod Batch
pub mod Durable
pub mod NameTags
pub mod New
pub mod Tagged
pub mod Writer

pub mod Blocks
pub mod Gaps
pub mod Hits
pub mod Numbers
pub mod RunWriter

pub mod MemoryFiles
pub mod MemoryTree
pub mod Names
pub mod Observed
pub mod Order
pub mod Shift
pub mod Still
pub mod Tree

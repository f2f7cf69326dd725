pub mod Memory
pub mod Observed
pub mod WholeInput

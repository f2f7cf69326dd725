pub mod Exclusion
pub mod NamedIds
pub mod Numbers
pub mod Quick

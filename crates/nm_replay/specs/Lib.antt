pub mod Errors
pub mod OpenFaults
pub mod StoredIndex

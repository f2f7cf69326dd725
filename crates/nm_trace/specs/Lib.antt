pub mod ReservedLog
pub mod SpareLaws
pub mod Trace

pub mod Faults
pub mod LineByLine

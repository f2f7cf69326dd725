pub mod Decoding
pub mod Encoding
pub mod Operations
pub mod TagLines

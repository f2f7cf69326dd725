pub mod Lines
pub mod Places
pub mod ReaderState
pub mod Script
pub mod Words

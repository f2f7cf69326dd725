pub mod Base64
pub mod Bytes
pub mod Charsets
pub mod EncodedWords
pub mod GroupSteps
pub mod Laws
pub mod QuotedPrintable
pub mod WordSteps

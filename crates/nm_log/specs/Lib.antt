pub mod Kind
pub mod LineGrammar
pub mod ParsedLine
pub mod Refusals
pub mod Replies

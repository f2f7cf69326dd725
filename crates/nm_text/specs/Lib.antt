pub mod Case
pub mod CutLaws
pub mod Cuts
pub mod Lines
pub mod QuotedStrings
pub mod Utf8Laws
pub mod WhiteSpace

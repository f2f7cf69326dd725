pub mod Cuts
pub mod FlaggedPath
pub mod Names
pub mod Stems

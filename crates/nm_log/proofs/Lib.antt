pub mod GrammarLemmas
pub mod LineLemmas
pub mod Puts
pub mod Printed

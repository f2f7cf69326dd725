pub mod AsciiLemmas
pub mod BreakLemmas
pub mod FoldLemmas
pub mod LineLemmas
pub mod PieceLemmas

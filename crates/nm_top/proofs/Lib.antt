pub mod DrillLemmas
pub mod HistoryLemmas
pub mod ProgramLemmas

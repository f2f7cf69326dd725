pub mod MergeLemmas
pub mod NotedLemmas
pub mod RenameLemmas
pub mod ReportLemmas
pub mod SameLemmas
pub mod ScanLemmas

pub mod FileTableLemmas
pub mod HintLemmas
pub mod IteratorLemmas
pub mod KeptLemmas
pub mod MailRowLemmas
pub mod MeasureLemmas
pub mod OrderLemmas
pub mod SortedLemmas

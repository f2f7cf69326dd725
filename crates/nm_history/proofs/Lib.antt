mod AloneLemmas
mod BankLemmas
mod ClockLemmas
mod CompleteLemmas
mod CrashLemmas
mod EarlierLemmas
mod LaneReadLemmas
mod LawLemmas
mod LineLemmas
mod MachineLemmas
mod PhaseLemmas
mod PrintedLemmas
pub mod SettledLemmas
pub mod TreeLemmas
pub mod UnaskedLemmas

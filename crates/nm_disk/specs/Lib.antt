pub mod Calls
pub mod CrashStateLaws
pub mod CrashStates
pub mod Memory
pub mod MemoryLaws
pub mod Observed

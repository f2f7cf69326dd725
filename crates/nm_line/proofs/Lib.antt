pub mod AnswerLemmas
pub mod ChangeLemmas
pub mod IndexReplyLemmas
pub mod LaneReadLemmas
pub mod NewLemmas
pub mod ShowLemmas
pub mod TagLemmas

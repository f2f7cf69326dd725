pub mod Alone
pub mod Loop
pub mod Phases
pub mod PrintedReplies
pub mod Run
pub mod Session
pub mod TurnLaws
pub mod Turns

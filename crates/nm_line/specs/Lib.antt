pub mod BeforeChange
pub mod Desk
pub mod LaneRead
pub mod Line
pub mod Outcomes
pub mod ShowAnswer

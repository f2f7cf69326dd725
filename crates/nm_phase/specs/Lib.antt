pub mod FirstLane
pub mod LaneLog
pub mod LineLog
pub mod Observations
pub mod Stage
pub mod Taken
pub mod Turns

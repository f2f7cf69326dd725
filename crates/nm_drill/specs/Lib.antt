pub mod Drill
pub mod Laws

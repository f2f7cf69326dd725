pub mod Sets
pub mod Ahead
pub mod Place
pub mod SetLaws

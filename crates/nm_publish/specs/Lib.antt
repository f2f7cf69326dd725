pub mod List
pub mod Published
pub mod Rule

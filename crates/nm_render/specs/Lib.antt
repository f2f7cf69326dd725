pub mod Groups
pub mod Joined
pub mod ReadBack
pub mod Show
pub mod SummaryData

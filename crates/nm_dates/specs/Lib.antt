pub mod Calendar
pub mod Ends
pub mod Numbers
pub mod Seconds

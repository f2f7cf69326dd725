pub mod AgoLemmas
pub mod CalendarLemmas
pub mod DayLemmas
pub mod MonthLemmas
pub mod NumberLemmas
pub mod SecondsLemmas
pub mod TextLemmas

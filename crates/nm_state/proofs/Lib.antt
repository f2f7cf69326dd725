pub mod LoadLemmas
pub mod NumberLemmas
pub mod RenumberLemmas
pub mod RoomLemmas
pub mod TagLemmas
pub mod ThreadLemmas
pub mod ValidLemmas

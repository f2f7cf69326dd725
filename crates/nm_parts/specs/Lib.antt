pub mod ChangeLaws
pub mod Halves
pub mod MailLaws
pub mod Parts
pub mod ThreadLaws

pub mod Many

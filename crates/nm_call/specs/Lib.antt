pub mod PreparedCall

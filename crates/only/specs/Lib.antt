-- What a contract that leaves one result is.
pub mod Only

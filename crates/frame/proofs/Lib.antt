-- The laws that belong to no one function.
pub mod Hex
pub mod Unique

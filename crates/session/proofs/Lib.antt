-- The laws that belong to no one function.
pub mod Sixes
pub mod Laws
pub mod Turns
pub mod Unique

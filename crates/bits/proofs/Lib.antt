-- The laws that belong to no one function.
pub mod Laws
pub mod Update
pub mod Unique

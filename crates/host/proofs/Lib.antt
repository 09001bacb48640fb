-- The laws that belong to no one function.
pub mod Laws
pub mod BothWays
pub mod Lines
pub mod Bursts
pub mod Unique

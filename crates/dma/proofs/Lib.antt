-- The laws that belong to no one function.
pub mod Moves
pub mod Bursts
pub mod Sequences
pub mod Unique
pub mod Cases

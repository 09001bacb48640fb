-- Demand 3: payload can be masked.
pub mod Premises
pub mod Sight
pub mod Masking
pub mod Bursts
pub mod Showings
pub mod SequenceShowings

-- Demand 3 of sessions: inputs that are masked, and their outputs.
pub mod Lines
pub mod Masked
pub mod Showings

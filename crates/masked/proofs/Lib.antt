-- The theorems, and what shows that they say something.
pub mod Readings
pub mod Showings
pub mod Masked

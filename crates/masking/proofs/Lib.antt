-- The theorems, and what shows that they say something.
pub mod Carrying
pub mod Offered
pub mod Masking
pub mod Moved
pub mod Bursts
pub mod Showings
pub mod SequenceShowings

-- The bits of a byte, by their numbers.
pub mod Bits

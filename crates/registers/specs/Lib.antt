-- The four registers that take a byte as it is.
pub mod Own

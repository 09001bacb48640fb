-- A whole input, the calls that take it, and its steps.
pub mod Whole
pub mod Histories
pub mod Refused
pub mod Report

-- The laws that belong to no one function.
pub mod Digits
pub mod Faults
pub mod RoundTrip
pub mod Order
pub mod Refused
pub mod Unfinished
pub mod Cases
pub mod Unique

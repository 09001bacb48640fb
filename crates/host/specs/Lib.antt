-- What a host hands over and gets back.
pub mod Records
pub mod Calls
pub mod Bursts

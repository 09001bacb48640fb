-- A session: its lines one by one, and bytes in pieces.
pub mod Bench
pub mod Ahead
pub mod Feed
pub mod Turns

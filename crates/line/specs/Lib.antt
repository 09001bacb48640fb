-- Document 01, "Frames and a session", and request T-02: a line and its frame, or its first fault.
pub mod Digits
pub mod Readings
pub mod Faults
pub mod Frames
pub mod Refused
pub mod Answers
pub mod Unfinished
pub mod Cases

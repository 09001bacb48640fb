-- The theorems of specs/.
pub mod Lines
pub mod Pieces
pub mod Histories
pub mod Refused
pub mod Report
pub mod Loops

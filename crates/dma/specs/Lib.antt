-- Bursts, as document 02's T-01 reads them: single DMA steps with nothing between them.
pub mod Answers
pub mod Burst
pub mod Sequences
pub mod Promises
pub mod Cases

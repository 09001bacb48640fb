-- What the contracts of the program cite.
pub mod Writes
pub mod Runs
pub mod Lent

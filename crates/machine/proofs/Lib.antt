-- The laws that belong to no one function.
pub mod Table
pub mod Filled
pub mod Cases
pub mod Rules
pub mod Handed
pub mod Tests
pub mod Apart
pub mod Asked
pub mod Valid
pub mod Refused
pub mod Moved
pub mod Unchanged
pub mod Promises
pub mod Unique

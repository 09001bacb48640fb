-- What a transfer leaves.
pub mod Transfers

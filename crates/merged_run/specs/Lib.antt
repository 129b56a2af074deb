pub mod Merged
pub mod Settled

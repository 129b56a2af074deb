pub mod Counts
pub mod Receiving
pub mod Sending

pub mod Addresses
pub mod HostLemmas
pub mod LineLemmas
pub mod Numbers
pub mod Parts
pub mod Redirections
pub mod Splits
mod WorkedValues

pub mod Connections
pub mod Waiting
pub mod Counting
pub mod Places

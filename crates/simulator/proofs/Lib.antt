pub mod Reading
pub mod Requests
mod Simulated
pub mod Splitting
pub mod Steps

pub mod Journal
pub mod Log
pub mod Undelivered

pub mod Clients
pub mod View
pub mod Calls
pub mod Plays
pub mod Asking
pub mod Reached

pub mod Peers
pub mod Stands
pub mod Events

pub mod Pace
pub mod Ports
pub mod Syncs
pub mod Stations

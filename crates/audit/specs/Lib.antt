pub mod Merge
pub mod Law
pub mod Gathered
pub mod Stations

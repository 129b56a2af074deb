pub mod Counting
pub mod Casting
pub mod Steps
pub mod Events
pub mod Worlds

pub mod Slots
pub mod Handing
pub mod Stands

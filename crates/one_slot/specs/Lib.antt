pub mod View
pub mod Slot
pub mod Sent
pub mod Events

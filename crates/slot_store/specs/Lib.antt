pub mod InSlot
pub mod Maps

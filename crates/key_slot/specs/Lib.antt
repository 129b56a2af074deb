pub mod Crc16
pub mod HashTag
pub mod Slot
pub mod SlotRange

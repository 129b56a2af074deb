pub mod Placed
pub mod Changed
pub mod Empty
pub mod SlotEntries
pub mod KeyEntries
pub mod SlotCommit
pub mod Touched
pub mod Cleared

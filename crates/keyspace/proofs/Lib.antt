pub mod Applied
pub mod Locality
pub mod Parts
pub mod Maps
pub mod FirstChange
pub mod Parted
pub mod Removed
pub mod Restored
mod WorkedValues
pub mod Committed
pub mod Rebuilt
pub mod InPlace
pub mod Fitting
pub mod Replayed
pub mod KeysLeft
pub mod RemovedFields

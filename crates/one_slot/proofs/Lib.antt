pub mod ViewLemmas
pub mod KeyLemmas
pub mod Frames
pub mod Beginnings
pub mod Sendings
pub mod Copies
pub mod Endings
pub mod Commands
pub mod Handovers
pub mod Unchanged
mod WorkedRun

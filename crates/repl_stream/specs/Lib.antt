pub mod Bodies
pub mod Faults
pub mod Pages
pub mod Reading
pub mod NodeStream
pub mod Written
pub mod Kept
pub mod Replica

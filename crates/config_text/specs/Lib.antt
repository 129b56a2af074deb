pub mod Form
pub mod Faults
pub mod Reading

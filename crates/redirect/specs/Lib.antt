pub mod Asked
pub mod Decision
pub mod Meaning

mod OrderLemmas
pub mod Obeying
pub mod Positions

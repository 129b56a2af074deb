pub mod Asks
pub mod Cells

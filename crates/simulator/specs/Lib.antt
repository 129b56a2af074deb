pub mod Forms
pub mod Lines
pub mod Playing
pub mod Printing
pub mod Script
pub mod Simulation
pub mod Splitting

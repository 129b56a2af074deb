pub mod Lines
pub mod Entered
pub mod Nodes
pub mod Outputs
pub mod NodeSteps
pub mod Allowed
pub mod Serving

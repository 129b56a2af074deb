mod Changes
mod Losses
pub mod Verdicts
mod WorkedValues

pub mod ArrayLaws
pub mod Arrays
pub mod Each
pub mod Spellings
mod WorkedValues

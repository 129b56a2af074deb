pub mod LastKeys
pub mod Naming
pub mod Copying
pub mod Lost

pub mod Lists
pub mod Nodes
pub mod Owners
pub mod Behind

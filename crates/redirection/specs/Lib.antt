pub mod Address
pub mod ErrorWord
pub mod Law
pub mod Redirection
pub mod Splitting
pub mod Texts

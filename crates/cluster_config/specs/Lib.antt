pub mod Texts
pub mod Config

pub mod Merging
pub mod Settling
pub mod Beginning

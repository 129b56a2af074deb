pub mod Left
pub mod Counting
pub mod Deleting
pub mod Sums

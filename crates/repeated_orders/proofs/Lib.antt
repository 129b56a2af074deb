pub mod Verdicts
pub mod Given
pub mod Orders
pub mod Copies
pub mod Laws

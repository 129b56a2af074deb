pub mod Full
pub mod Law
pub mod Meeting

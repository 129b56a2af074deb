pub mod Reasons
pub mod Moments
pub mod Book
pub mod Law

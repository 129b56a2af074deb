pub mod Written
pub mod Law

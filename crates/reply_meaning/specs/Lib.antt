pub mod Law
pub mod Refusal
pub mod Reasons

pub mod Array
pub mod Law
pub mod Limits
pub mod Line
pub mod Reply
pub mod Request

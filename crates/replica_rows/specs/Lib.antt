pub mod Following
pub mod Adding

pub mod Header
pub mod Reading

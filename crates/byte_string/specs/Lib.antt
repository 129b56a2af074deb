pub mod Block
pub mod Form
pub mod Order
pub mod Short

pub mod Exchange
pub mod Sender
pub mod Wire

pub mod Calls
pub mod Conversation
pub mod InTurns
pub mod Progress
pub mod Streams
pub mod Turns

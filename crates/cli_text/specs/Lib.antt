pub mod Escaping
pub mod Hex
pub mod Quoting
pub mod ReplyText

pub mod Agreeing
pub mod Following
pub mod Laws
pub mod Places

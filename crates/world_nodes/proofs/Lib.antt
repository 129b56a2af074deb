pub mod Going
pub mod Numbering
pub mod Allowing
pub mod Connected
pub mod Runs
pub mod Leaving

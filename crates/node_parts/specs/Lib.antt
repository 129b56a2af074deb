pub mod Becomes
pub mod Begins
pub mod Electing
pub mod Noting
pub mod Succession
pub mod Drafts
pub mod Making
pub mod Telling

pub mod Run
pub mod Executed
pub mod Ballots
pub mod Promotions
pub mod Law

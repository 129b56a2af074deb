pub mod Follower
pub mod Piece
pub mod Reading
pub mod Snapshot
pub mod Stream
pub mod Syncing

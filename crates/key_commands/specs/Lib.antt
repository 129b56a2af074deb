pub mod CommandGroups
pub mod HashChanges
pub mod Planning

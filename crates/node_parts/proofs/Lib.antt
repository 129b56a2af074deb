mod Commits
pub mod ChangeLemmas
pub mod ElectionLemmas
mod MasterLemmas
pub mod ToAll

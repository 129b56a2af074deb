mod FollowingLemmas
mod PieceLemmas
mod AddingLemmas
mod SyncLemmas
mod WriteLemmas

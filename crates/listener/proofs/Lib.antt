pub mod HistoryLemmas
pub mod BatchLemmas
pub mod DeskLemmas
pub mod TalkLemmas
pub mod TurnLemmas
pub mod InTurnsLemmas

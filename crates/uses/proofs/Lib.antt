pub mod FewWords
pub mod KeyLemmas
pub mod NodeLemmas
pub mod OutcomeLemmas
pub mod PongLemmas
pub mod RequestLemmas
pub mod TurnLemmas

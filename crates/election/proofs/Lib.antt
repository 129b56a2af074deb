mod BallotLemmas
mod HistoryLemmas
mod MajorityLemmas
mod RowLemmas
mod WaitingLemmas
mod WorkedValues

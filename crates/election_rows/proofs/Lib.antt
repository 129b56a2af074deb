mod TableLemmas
mod VoteLemmas

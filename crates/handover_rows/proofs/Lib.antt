mod AskingLemmas
mod HandingLemmas
mod NotingLemmas

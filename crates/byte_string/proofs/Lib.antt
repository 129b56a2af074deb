mod OrderLemmas
mod PaddedLemmas

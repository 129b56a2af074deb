mod MarkLemmas

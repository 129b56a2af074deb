pub mod DecisionLemmas
pub mod PlaceLemmas
pub mod ReadLemmas
pub mod RefusalLemmas
pub mod SlotLemmas

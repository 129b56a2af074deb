mod OwnerLemmas
pub mod PlaceLemmas

mod GatheringLemmas
mod ListingLemmas
pub mod PartLemmas

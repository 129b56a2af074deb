pub mod DigitLemmas
pub mod DistinctLemmas
pub mod Foreseen
pub mod HoleLemmas
pub mod KeptLemmas
pub mod PackedLemmas
pub mod PackedPlaces
pub mod PlaceLemmas
pub mod RoomLemmas
pub mod RunLemmas
pub mod ShortLemmas
pub mod SizeLemmas
mod WorkedValues

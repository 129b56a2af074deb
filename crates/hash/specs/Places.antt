-- Where pairs lie in the bytes that they are packed in. No public clause needs it.
use Rattle.std.specs.Prelude.{◌≡◌, ◌≤◌, ◌+◌, ◌-◌, ℕ, List, [], ◌∷◌, ◌++◌, length, take, drop, Option, None, Some}
use Rattle.std.specs.List.{slice_range}
use Rattle.hash.specs.Bytes.{spliced}
use Rattle.hash.specs.Packed.{word_packed, pair_packed, packed, pairs_in, repacked, IsPacking}
use Rattle.hash.specs.Pairs.{Pairs, value_of}
use Rattle.hash.specs.declared.packing.Place.{Place}

-- the bytes begin with a pair whose value begins at the one place, and that ends before the other
pub record BeginsWithPair (bytes : List ℕ) (value end : ℕ) : Type 0 where
  pub field : List ℕ
  pub word : List ℕ
  pub others : Pairs
  pub is : bytes ≡ word_packed field ++ (word_packed word ++ packed others)
  pub starts : value ≡ 1 + length field
  pub ends : end ≡ value + 1 + length word

-- the field is none of those that lie before the place, and none of these changes with it
pub record IsBehind (bytes field : List ℕ) (at : ℕ) : Type 0 where
  pub within : at ≤ length bytes
  pub packing : IsPacking (drop at bytes)
  pub value : value_of (pairs_in bytes) field ≡ value_of (pairs_in (drop at bytes)) field
  pub changed : (value : Option (List ℕ)) → repacked bytes field value ≡ take at bytes ++ repacked (drop at bytes) field value

-- the pair of the field lies there
pub record LiesAt (bytes field : List ℕ) (place : Place) : Type 0 where
  pub before : place.at ≤ place.value
  pub some : place.value + 1 ≤ place.end
  pub within : place.end ≤ length bytes
  pub len : take (place.value + 1) bytes ≡ take place.value bytes ++ (place.end - (place.value + 1)) ∷ []
  pub value : value_of (pairs_in bytes) field ≡ Some (slice_range bytes (place.value + 1) place.end)
  pub set : (value : List ℕ) → repacked bytes field (Some value) ≡ spliced bytes place.value place.end (word_packed value)
  pub removed : repacked bytes field None ≡ take place.at bytes ++ drop place.end bytes

-- no pair is that of the field
pub record IsNowhere (bytes field : List ℕ) : Type 0 where
  pub value : value_of (pairs_in bytes) field ≡ None
  pub set : (value : List ℕ) → repacked bytes field (Some value) ≡ bytes ++ pair_packed field value
  pub removed : repacked bytes field None ≡ bytes

-- What is kept of the pairs of a hash. No public clause needs it.
use Rattle.std.specs.Prelude.{◌≡◌, ◌+◌, ◌≤◌, ◌^◌, ℕ, List, length, Option, None, Some}
use Rattle.std.specs.List.{AllByRecursion}
use Rattle.hash.specs.Pairs.{Pairs, HasDistinctFields}
use Rattle.hash.specs.Size.{size_of}
use Rattle.resp_values.specs.Request.{bulk_spelling}

-- the bytes of a field and its value, where it has one
abbrev pub pair_size : List ℕ → Option (List ℕ) → ℕ
pair_size field None = 0
pair_size field (Some value) = length (bulk_spelling field) + length (bulk_spelling value)

-- the fields that a field and its value are: one where it has a value, or none
abbrev pub count_of : Option (List ℕ) → ℕ
count_of None = 0
count_of (Some _) = 1

-- no pair is longer than two strings in memory, and what stands around them
abbrev pub AreShort : Pairs → Type 0
AreShort pairs = AllByRecursion (λ pair. pair_size pair.0 (Some pair.1) ≤ 2 ^ 64 + 2 ^ 6) pairs

-- no field stands twice, and the size is that of the pairs
pub record IsSized (pairs : Pairs) (size : ℕ) : Type 0 where
  pub distinct : HasDistinctFields pairs
  pub total : size ≡ size_of pairs
  pub short : AreShort pairs

-- What is known of a hash after changes that aren't made. No public clause needs it.
use Rattle.std.specs.Prelude.{◌≡◌, ◌+◌, ◌≤◌, ℕ, List, Option, length, nat_eq}
use Rattle.std.specs.Cmp.Lexicographic.{pointwise}
use Rattle.std.specs.Map.{lookup}
use Rattle.std.specs.Option.{unwrap_or}
use Rattle.hash.specs.Pairs.{Pairs, Changes, value_of, fields_changed, HasDistinctFields}
use Rattle.hash.specs.Size.{size_of}
use Rattle.hash.specs.Sized.{AreShort}
use Rattle.hash.specs.declared.extent.Extent.{Extent}

-- the value of a field of the hash, where changes left these values
abbrev pub value_left : Pairs → Changes → List ℕ → Option (List ℕ)
value_left pairs left field = unwrap_or (lookup (pointwise nat_eq field) left) (value_of pairs field)

-- the values that the changes left, beside the hash, tell each value after them; and the number and the size are those after them
pub record Foresees (pairs : Pairs) (left : Changes) (changes : Changes) (len size : ℕ) : Type 0 where
  pub values : (field : List ℕ) → value_of (fields_changed pairs changes) field ≡ value_left pairs left field
  pub distinct : HasDistinctFields (fields_changed pairs changes)
  pub short : AreShort (fields_changed pairs changes)
  pub counted : len ≡ length (fields_changed pairs changes)
  pub sized : size ≡ size_of (fields_changed pairs changes)
  pub few : length (fields_changed pairs changes) ≤ length pairs + length changes

-- the number and the size are those of the extent
abbrev pub IsForeseen : Pairs → Changes → Changes → Extent → Type 0
IsForeseen pairs left changes extent = Foresees pairs left changes extent.len extent.size

-- What is kept of the pairs of a small hash. No public clause needs it: clauses see the pairs.
use Rattle.std.specs.Prelude.{◌≡◌, ℕ, List, Bool, length}
use Rattle.hash.specs.Block.{Kept}
use Rattle.hash.specs.Packed.{pairs_in, IsPacked}
use Rattle.hash.specs.Pairs.{Pairs, Changes, set_if, changed_if}
use Rattle.hash.specs.Size.{size_of}

-- the bytes are packed pairs, and the numbers beside them are theirs
pub record IsKept (kept : Kept) : Type 0 where
  pub packed : IsPacked kept.bytes
  pub fields : kept.count.fields ≡ length (pairs_in kept.bytes)
  pub size : kept.count.size ≡ size_of (pairs_in kept.bytes)

-- these pairs are kept
pub record Keeps (kept : Kept) (pairs : Pairs) : Type 0 where
  pub is_kept : IsKept kept
  pub same : pairs_in kept.bytes ≡ pairs

-- what was kept is kept with the field set, if that is done
abbrev pub KeepsSet : Kept → Kept → List ℕ → List ℕ → Bool → Type 0
KeepsSet before after field value is_done = Keeps after (set_if is_done (pairs_in before.bytes) field value)

-- what was kept is kept with the changes, if they are made
abbrev pub KeepsChanged : Kept → Kept → Changes → Bool → Type 0
KeepsChanged before after changes is_made = Keeps after (changed_if is_made (pairs_in before.bytes) changes)

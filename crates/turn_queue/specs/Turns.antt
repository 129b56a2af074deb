-- Keys that wait for their turn, each once (ours).
use Rattle.std.specs.Prelude.{◌≡◌, ◌≤◌, ◌++◌, ◌==◌, ◌∷◌, [], ℕ, Bool, true, false, not, if◌then◌else◌, List, All, IsFalse, Some, length, filter, nat_lt, slice_get, slice_set}
use Rattle.std.specs.List.{list_any}

-- keys in the order in which they came, and the number below which each key has room
pub record Turns : Type 0 where
  pub keys : List ℕ
  pub room : ℕ

abbrev pub is_among : ℕ → List ℕ → Bool
is_among key keys = list_any (λ other. other == key) keys

-- the key behind the others, unless it is among them or has no room
abbrev pub added : ℕ → Turns → List ℕ
added key queue =
    if is_among key queue.keys then queue.keys
    else if nat_lt key queue.room then queue.keys ++ key ∷ [] else queue.keys

-- all keys but this one
abbrev pub without : ℕ → List ℕ → List ℕ
without key keys = filter (λ other. not (other == key)) keys

-- each of these keys is marked, once, and no other one
abbrev pub AreMarked : List ℕ → List Bool → Type 0
AreMarked [] marks = All IsFalse marks
AreMarked (key ∷ keys) marks = (slice_get marks key ≡ Some true) × AreMarked keys (slice_set marks key false)

-- and there is room for all that may be marked
pub record IsKept (keys : List ℕ) (marks : List Bool) (capacity : ℕ) : Type 0 where
  pub marked : AreMarked keys marks
  pub room : length marks ≤ capacity

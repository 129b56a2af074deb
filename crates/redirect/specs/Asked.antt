-- What of a command bears on a move of its slot (Redis command reference, "ASKING"; that it may name a move is ours).
use Rattle.std.specs.Prelude.{ℕ, ◌==◌, nat_eq, not, Bool, true, false, List, [], ◌∷◌, map, Option, Some, None}
use Rattle.std.specs.Borrow.{Bor}
use Rattle.std.specs.Cmp.Lexicographic.{pointwise}
use Rattle.std.specs.List.{list_all, list_any}
use Rattle.redirect.specs.declared.asked.Asking.{Asking}
use Rattle.redirect.specs.declared.asked.Asking.TheVariants.{No, Any, Of}

-- a command's keys, whether each is there, the asking of its connection, and whether the node hands its slots over
pub record Asked : Type 0 where
  pub keys : List (List ℕ)
  pub there : List Bool
  pub asking : Asking
  pub paused : Bool

-- the bytes of the keys
abbrev pub bytes_of : List (Bor (List ℕ)) → List (List ℕ)
bytes_of keys = map (λ key. key.now) keys

abbrev pub asked : List (Bor (List ℕ)) → List Bool → Asking → Bool → Asked
asked keys there asking paused = record { keys = bytes_of keys; there = there; asking = asking; paused = paused }

-- the asking is right for an import of this number
-- (a number is its move's alone, or this goes wrong: an ASKING of move 1 is late, and in move 3 the slot comes to node 1 again;
-- node 1 answers GET b with null, while b is still at node 0)
abbrev pub is_right : Asking → ℕ → Bool
is_right No number = false
is_right Any number = true
is_right (Of named) number = named == number

-- two of the keys differ
abbrev pub are_several : List (List ℕ) → Bool
are_several [] = false
are_several (key ∷ others) = list_any (λ other. not (pointwise nat_eq other key)) others

-- the key is one of these
abbrev pub is_one_of : List (List ℕ) → List ℕ → Bool
is_one_of keys key = list_any (λ other. pointwise nat_eq other key) keys

-- one of the keys is in the copy that is outstanding, if there is one
abbrev pub is_frozen : Option (List (List ℕ)) → List (List ℕ) → Bool
is_frozen None keys = false
is_frozen (Some frozen) keys = list_any (λ key. is_one_of frozen key) keys

-- all keys are there
abbrev pub all_there : Asked → Bool
all_there asked = list_all (λ is. is) asked.there

-- no key is there
abbrev pub none_there : Asked → Bool
none_there asked = not (list_any (λ is. is) asked.there)

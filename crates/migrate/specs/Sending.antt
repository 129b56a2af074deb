-- Orders to copy keys (Redis command reference, "MIGRATE"; refusals and their order are ours).
use Rattle.std.specs.Prelude.{ℕ, ◌+◌, ◌==◌, ◌&&◌, ◌^◌, ◌-◌, nat_eq, nat_lt, length, Bool, if◌then◌else◌, List, [], ◌∷◌, Option, Some, None}
use Rattle.std.specs.List.{list_all, list_any}
use Rattle.std.specs.Cmp.Lexicographic.{pointwise}
use Rattle.std.specs.FinMap as map
use Rattle.slot_state.specs.Moves.{Moves, move_of}
use Rattle.slot_state.specs.declared.running.Move.{Move}
use Rattle.slot_state.specs.declared.running.Move.TheVariants.{Leaves, Comes}
use Rattle.migrate.specs.Arriving.{changed_at}
use Rattle.migrate.specs.declared.sending.CopyVerdict.{CopyVerdict}
use Rattle.migrate.specs.declared.sending.CopyVerdict.TheVariants.{CrossSlot, WrongTarget, NoKey, CopyOutstanding, Exhausted, SendAgain, Copies}

-- no copy is outstanding: the next has the next number
abbrev pub next_copy : ℕ → ℕ → ℕ → CopyVerdict
next_copy to number copies = if nat_lt copies (2 ^ 64 - 1) then Copies to number (copies + 1) else Exhausted

-- the keys are just those, in any order; both lists have each key once
abbrev pub is_among : List (List ℕ) → List ℕ → Bool
is_among keys key = list_any (λ other. pointwise nat_eq other key) keys

abbrev pub are_just : List (List ℕ) → List (List ℕ) → Bool
are_just frozen keys = length frozen == length keys && list_all (is_among frozen) keys

-- one is outstanding: of these keys, or of others
abbrev pub beside_copy : ℕ → ℕ → ℕ → List (List ℕ) → List (List ℕ) → CopyVerdict
beside_copy to number copies frozen keys = if are_just frozen keys then SendAgain to number copies else CopyOutstanding

abbrev pub by_frozen : ℕ → ℕ → ℕ → Option (List (List ℕ)) → List (List ℕ) → CopyVerdict
by_frozen to number copies None keys = next_copy to number copies
by_frozen to number copies (Some frozen) keys = beside_copy to number copies frozen keys

-- by the keys that are there: none, or some
abbrev pub by_keys : ℕ → ℕ → ℕ → Option (List (List ℕ)) → List (List ℕ) → CopyVerdict
by_keys to number copies frozen [] = NoKey
by_keys to number copies frozen (key ∷ keys) = by_frozen to number copies frozen (key ∷ keys)

-- the slot leaves to that node
abbrev pub by_target : Move → ℕ → List (List ℕ) → CopyVerdict
by_target (Comes from number last drained) target keys = WrongTarget
by_target (Leaves to number copies frozen) target keys = if to == target then by_keys to number copies frozen keys else WrongTarget

-- the keys are those of the order that are there, each once
abbrev pub copy_verdict : Option Move → Option ℕ → List (List ℕ) → CopyVerdict
copy_verdict None target keys = WrongTarget
copy_verdict (Some move) None keys = WrongTarget
copy_verdict (Some move) (Some target) keys = by_target move target keys

-- the keys are frozen, and one more copy was made
abbrev pub after_copy_order : Moves → ℕ → List (List ℕ) → CopyVerdict → Moves
after_copy_order moves slot keys (Copies to number copy) = record moves { running = map.insert moves.running slot (Leaves to number copy (Some keys)) }
after_copy_order moves slot keys CrossSlot = moves
after_copy_order moves slot keys WrongTarget = moves
after_copy_order moves slot keys NoKey = moves
after_copy_order moves slot keys CopyOutstanding = moves
after_copy_order moves slot keys Exhausted = moves
after_copy_order moves slot keys (SendAgain to number copy) = moves

-- the keys whose copy has that number are frozen, where the slot leaves
abbrev pub with_frozen : ℕ → List (List ℕ) → Move → Move
with_frozen copy keys (Leaves to number copies frozen) = Leaves to number copy (Some keys)
with_frozen copy keys (Comes from number last drained) = Comes from number last drained

abbrev pub frozen : Moves → ℕ → ℕ → List (List ℕ) → Moves
frozen moves slot copy keys = changed_at moves slot (with_frozen copy keys) (move_of moves slot)

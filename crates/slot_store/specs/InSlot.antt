-- The keys of a slot, and a plan that is committed on them (Redis Cluster specification, "Key distribution model").
use Rattle.std.specs.Prelude.{◌≡◌, ℕ, Bool, List, nat_eq}
use Rattle.std.specs.Cmp.Lexicographic.{pointwise}
use Rattle.std.specs.FinMap as map
use Rattle.std.specs.List.{list_all, list_any}
use Rattle.key_slot.specs.Slot.{hash_slot}
use Rattle.keyspace.specs.Keyspace.{Keyspace}
use Rattle.keyspace.specs.Parts.{part, rest}
use Rattle.keyspace.specs.Plan.{committed}
use Rattle.keyspace.specs.declared.plans.Plan.{Plan}

-- the key hashes to the slot
abbrev pub is_in_slot : ℕ → List ℕ → Bool
is_in_slot slot key = nat_eq (hash_slot key) slot

-- what a keyspace has in the slot
abbrev pub in_slot : ℕ → Keyspace → Keyspace
in_slot slot keyspace = part (is_in_slot slot) keyspace

-- what it has in all other slots
abbrev pub outside_slot : ℕ → Keyspace → Keyspace
outside_slot slot keyspace = rest (is_in_slot slot) keyspace

-- each key is in the slot
abbrev pub LiesInSlot : ℕ → Keyspace → Type 0
LiesInSlot slot keyspace = in_slot slot keyspace ≡ keyspace

-- the plan was committed on what is in the slot, and all other slots are as they were
pub record IsCommittedInSlot (slot : ℕ) (plan : Plan) (old new : Keyspace) : Type 0 where
  pub inside : in_slot slot new ≡ committed (in_slot slot old) plan
  pub outside : outside_slot slot new ≡ outside_slot slot old

-- a key is one of these
abbrev pub is_among : List (List ℕ) → List ℕ → Bool
is_among keys key = list_any (λ other. pointwise nat_eq other key) keys

-- a keyspace has no key but these
abbrev pub has_only : List (List ℕ) → Keyspace → Bool
has_only keys keyspace = list_all (is_among keys) (map.keys keyspace)

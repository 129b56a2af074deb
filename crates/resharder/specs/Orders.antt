-- What a run asks (Redis Cluster specification, "Moving hash slots", "Cluster live reconfiguration"; Redis command reference, "CLUSTER
-- SETSLOT", "MIGRATE"; SLOTSTATE and the numbers of moves are ours).
use Rattle.std.specs.Prelude.{ℕ, ◌≤◌, List, [], ◌∷◌, Option, Some, None, codes, decimal, length, ⊤}
use Rattle.command_table.specs.declared.command.SlotOrder.{SlotOrder}
use Rattle.command_table.specs.declared.command.SlotOrder.TheVariants.{Importing, Migrating, Node}
use Rattle.redirection.specs.Address.{Place}

-- which masters there are
abbrev pub slots_words : List (List ℕ)
slots_words = codes "CLUSTER" ∷ codes "SLOTS" ∷ []

-- what a node does with the slot
abbrev pub state_words : ℕ → List (List ℕ)
state_words slot = codes "CLUSTER" ∷ codes "SLOTSTATE" ∷ decimal slot ∷ []

-- the first 16 keys of the slot
abbrev pub keys_words : ℕ → List (List ℕ)
keys_words slot = codes "CLUSTER" ∷ codes "GETKEYSINSLOT" ∷ decimal slot ∷ codes "16" ∷ []

abbrev pub order_word : SlotOrder → List ℕ
order_word Importing = codes "IMPORTING"
order_word Migrating = codes "MIGRATING"
order_word Node = codes "NODE"

-- the number of the move, where there is one
abbrev pub number_words : Option ℕ → List (List ℕ)
number_words None = []
number_words (Some number) = decimal number ∷ []

-- what the node is to do with the slot, and with which other node
abbrev pub set_words : SlotOrder → ℕ → List ℕ → Option ℕ → List (List ℕ)
set_words order slot id number = codes "CLUSTER" ∷ codes "SETSLOT" ∷ decimal slot ∷ order_word order ∷ id ∷ number_words number

-- the keys are to be moved to the node there, into the only database, within 100 ticks. The empty word stands where MIGRATE of one key
-- names it
abbrev pub migrate_words : Place → List (List ℕ) → List (List ℕ)
migrate_words place keys = codes "MIGRATE" ∷ place.host ∷ decimal place.port ∷ [] ∷ codes "0" ∷ codes "100" ∷ codes "KEYS" ∷ keys

-- each word is short
abbrev pub AreShort : List (List ℕ) → Type 0
AreShort [] = ⊤
AreShort (word ∷ words) = (length word ≤ 40) × AreShort words

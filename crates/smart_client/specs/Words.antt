-- The words that a client sends, and where they go (Redis Cluster specification, "Keys distribution model", "ASK redirection").
use Rattle.std.specs.Prelude.{ℕ, List, [], ◌∷◌, Bool, true, false, Option, Some, None, Result, Ok, Err, codes, decimal, option_map, slice_get, slice_index_or, unwrap_or}
use Rattle.key_slot.specs.Slot.{hash_slot}
use Rattle.command_table.specs.Keys.{keys_of}
use Rattle.command_table.specs.Names.{name_of}
use Rattle.command_table.specs.Table.{command_of}
use Rattle.command_table.specs.declared.command.Command.{Command}
use Rattle.command_table.specs.declared.fault.CommandFault.{CommandFault}
use Rattle.command_table.specs.declared.names.Name.{Name}
use Rattle.command_table.specs.declared.names.Name.TheVariants.{Cluster, Asking, Migrate}
use Rattle.smart_client.specs.State.{ClientState}

-- `CLUSTER NUMBERED`: this project's own command, after which ASK names the number of the move
abbrev pub numbered_words : List (List ℕ)
numbered_words = codes "CLUSTER" ∷ codes "NUMBERED" ∷ []

-- `ASKING number`
abbrev pub asking_words : ℕ → List (List ℕ)
asking_words number = codes "ASKING" ∷ decimal number ∷ []

-- such commands are no client's
abbrev pub is_of_cluster : Option Name → Bool
is_of_cluster (Some Cluster) = true
is_of_cluster (Some Asking) = true
is_of_cluster (Some Migrate) = true
is_of_cluster _ = false

-- the command is about data, by its name, or nodes don't know it
abbrev pub is_refused : List (List ℕ) → Bool
is_refused [] = false
is_refused (name ∷ arguments) = is_of_cluster (name_of name)

-- the keys of the words, where they are a command
abbrev pub keys_in : Result Command CommandFault → List (List ℕ)
keys_in (Ok command) = keys_of command
keys_in (Err fault) = []

-- the slot of the first key
abbrev pub first_slot : List (List ℕ) → Option ℕ
first_slot words = option_map hash_slot (slice_get (keys_in (command_of words)) 0)

-- the place of the owner, as far as it is known, or else the place of the node to begin with
abbrev pub place_by : List (Option ℕ) → Option ℕ → ℕ
place_by owners None = 0
place_by owners (Some slot) = unwrap_or (slice_index_or owners slot None) 0

abbrev pub place_for : ClientState → List (List ℕ) → ℕ
place_for client words = place_by client.owners (first_slot words)

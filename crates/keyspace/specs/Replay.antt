-- What the replay of requests leaves (Redis documentation, "Redis persistence": an append-only file holds the writes; rewritten, it holds the requests that make its keys).
use Rattle.std.specs.Prelude.{◌≡◌, ℕ, Bool, false, List, All, filter, map, Result, Ok, Err}
use Rattle.std.specs.FinMap as fin_map
use Rattle.command_table.specs.Keys.{is_write}
use Rattle.command_table.specs.Table.{command_of}
use Rattle.command_table.specs.declared.command.Command.{Command}
use Rattle.command_table.specs.declared.command.Command.TheVariants.{Data}
use Rattle.command_table.specs.declared.command.DataCommand.{DataCommand}
use Rattle.command_table.specs.declared.fault.CommandFault.{CommandFault}
use Rattle.resp_values.specs.Request.{IsRequest}
use Rattle.keyspace.specs.Commands.{replay, replay_from, replies_of, keyspace_after}
use Rattle.keyspace.specs.Keyspace.{Keyspace}
use Rattle.keyspace.specs.Rebuild.{IsStored}
use Rattle.keyspace.specs.Rebuilding.{rebuilding}
use Rattle.keyspace.specs.declared.value.Value.{Value}

-- ---- writes

-- words that are a command that writes
abbrev pub is_write_of : Result Command CommandFault → Bool
is_write_of (Ok command) = is_write command
is_write_of (Err fault) = false

-- the requests that write, in their order
abbrev pub writes_of : List (List (List ℕ)) → List (List (List ℕ))
writes_of requests = filter (λ words. is_write_of (command_of words)) requests

-- requests leave the keyspace that their writes alone leave
abbrev pub WritesLeaveAll : Type 0
WritesLeaveAll = (keyspace : Keyspace) (requests : List (List (List ℕ))) → (replay_from keyspace requests).last ≡ (replay_from keyspace (writes_of requests)).last

-- ---- commands

-- the words of each request are the command at its place
abbrev pub AreRequestsOf : List DataCommand → List (List (List ℕ)) → Type 0
AreRequestsOf commands requests = map command_of requests ≡ map (λ command. Ok (Data command)) commands

-- so the requests of commands are answered and leave the keyspace as the commands do
abbrev pub RequestsExecuteCommands : Type 0
RequestsExecuteCommands =
    (keyspace : Keyspace) (commands : List DataCommand) (requests : List (List (List ℕ))) → AreRequestsOf commands requests
    → replay_from keyspace requests ≡ record { replies = replies_of keyspace commands; last = keyspace_after keyspace commands }

-- ---- keys

-- the request that makes a key with its value
abbrev pub request_of : List ℕ × Value → List (List ℕ)
request_of entry = rebuilding entry.0 entry.1

-- the value is one that keys have, and its request keeps the limits
abbrev pub HasRequest : List ℕ × Value → Type 0
HasRequest entry = IsStored entry.1 × IsRequest (request_of entry)

-- from no keys on, the requests of all keys of a keyspace leave this keyspace
abbrev pub RequestsOfKeysLeaveThem : Type 0
RequestsOfKeysLeaveThem = (keyspace : Keyspace) → All HasRequest (fin_map.entries keyspace) → (replay (map request_of (fin_map.entries keyspace))).last ≡ keyspace

-- A command reads and changes its own keys, and no others (Redis command reference: key specifications).
use Rattle.std.specs.Prelude.{◌≡◌, ℕ, List, All, Contains}
use Rattle.std.specs.FinMap as map
use Rattle.command_table.specs.Keys.{data_keys}
use Rattle.command_table.specs.declared.command.DataCommand.{DataCommand}
use Rattle.keyspace.specs.Commands.{exec}
use Rattle.keyspace.specs.Keyspace.{Keyspace}

-- two keyspaces have the same value at each of the keys, or none
abbrev pub Agree : Keyspace → Keyspace → List (List ℕ) → Type 0
Agree m n keys = All (λ key. map.get m key ≡ map.get n key) keys

-- where two keyspaces agree at the command's keys, its replies are the same, and they agree there after it; any other key stays as it was
pub record IsLocal (command : DataCommand) : Type 0 where
  pub reply : (m n : Keyspace) → Agree m n (data_keys command) → (exec m command).reply ≡ (exec n command).reply
  pub inside : (m n : Keyspace) → Agree m n (data_keys command) → Agree (exec m command).after (exec n command).after (data_keys command)
  pub outside : (m : Keyspace) (key : List ℕ) → ¬ Contains (data_keys command) key → map.get (exec m command).after key ≡ map.get m key

-- this holds of every command
abbrev pub CommandsAreLocal : Type 0
CommandsAreLocal = (command : DataCommand) → IsLocal command

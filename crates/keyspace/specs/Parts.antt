-- A keyspace in two parts: a command whose keys are in one of them executes there as in the whole (ours).
use Rattle.std.specs.Prelude.{◌≡◌, ℕ, Bool, true, not, List, All}
use Rattle.std.specs.FinMap as map
use Rattle.command_table.specs.Keys.{data_keys}
use Rattle.command_table.specs.declared.command.DataCommand.{DataCommand}
use Rattle.keyspace.specs.Commands.{exec}
use Rattle.keyspace.specs.Keyspace.{Keyspace}

-- what the keyspace has at the keys that the test takes
abbrev pub part : (List ℕ → Bool) → Keyspace → Keyspace
part takes keyspace = map.retain_keys keyspace takes

-- what it has at all other keys
abbrev pub rest : (List ℕ → Bool) → Keyspace → Keyspace
rest takes keyspace = part (λ key. not (takes key)) keyspace

-- in the part alone the reply is that of the whole, and so is what is left there; the rest of the whole stays
pub record ExecutesInPart (takes : List ℕ → Bool) (keyspace : Keyspace) (command : DataCommand) : Type 0 where
  pub reply : (exec (part takes keyspace) command).reply ≡ (exec keyspace command).reply
  pub inside : (exec (part takes keyspace) command).after ≡ part takes (exec keyspace command).after
  pub outside : rest takes (exec keyspace command).after ≡ rest takes keyspace

-- this holds of every command whose keys are all in the part
abbrev pub CommandsExecuteInAPart : Type 0
CommandsExecuteInAPart =
    (takes : List ℕ → Bool) (command : DataCommand) → All (λ key. takes key ≡ true) (data_keys command) → (keyspace : Keyspace) → ExecutesInPart takes keyspace command

-- two keyspaces with the same part and the same rest are one
abbrev pub PartsMakeTheKeyspace : Type 0
PartsMakeTheKeyspace = (takes : List ℕ → Bool) (m n : Keyspace) → part takes m ≡ part takes n → rest takes m ≡ rest takes n → m ≡ n

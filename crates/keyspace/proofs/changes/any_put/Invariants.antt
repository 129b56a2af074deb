use Rattle.std.proofs.Common.{◌≡◌}
use Rattle.std.specs.List.{list_any}
use Rattle.std.specs.Map.{keys_of}
use Rattle.std.specs.Option.{option_copied}
use Rattle.keyspace.specs.Leaving.{puts_beside}
use Rattle.keyspace.proofs.changes.any_put.Given as goal

-- no value is put at the keys so far
abbrev pub invariant-loop-key : goal.invariant-loop-key
invariant-loop-key l =
    list_any (puts_beside l.values (option_copied l.gone)) l.key-iterator ≡ list_any (puts_beside l.values (option_copied l.gone)) (keys_of l.changes.entries)

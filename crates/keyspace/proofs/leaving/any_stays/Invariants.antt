use Rattle.std.proofs.Common.{◌≡◌}
use Rattle.std.specs.List.{list_any}
use Rattle.std.specs.Map.{keys_of}
use Rattle.std.specs.Option.{option_copied}
use Rattle.keyspace.specs.Leaving.{stays_beside}
use Rattle.keyspace.proofs.leaving.any_stays.Given as goal

-- none of the keys so far stays
abbrev pub invariant-loop-key : goal.invariant-loop-key
invariant-loop-key l =
    list_any (stays_beside l.values (option_copied l.gone)) l.key-iterator ≡ list_any (stays_beside l.values (option_copied l.gone)) (keys_of l.store.entries)

use Rattle.std.proofs.Common.{◌≡◌, ◌≤◌, take, count_by}
use Rattle.std.specs.Prelude.{is_some}
use Rattle.keyspace.specs.Commands.{values_at}
use Rattle.keyspace.specs.Changes.{applied}
use Rattle.key_commands.proofs.strings.count_there.Given as goal

-- how many of the keys so far are there
abbrev pub invariant-loop-key : goal.invariant-loop-key
invariant-loop-key g l =
    let contents = g.S.Store.contents in
    record {
      counted : l.count ≡ count_by is_some (values_at (applied (contents l.store) l.values) (take l.key-index l.keys));
      small : l.count ≤ l.key-index;
    }

use Rattle.std.proofs.Common.{◌≡◌, ◌≤◌, ◌+◌, drop}
use Rattle.keyspace.specs.Commands.{values_at, with_values}
use Rattle.keyspace.specs.Strings.{all_removed, deleted}
use Rattle.keyspace.specs.Changes.{applied}
use Rattle.key_commands.proofs.strings.delete.Given as goal

-- those removed so far and those that the keys left still remove are all; and removing the keys left leads to the same keyspace
abbrev pub invariant-loop-key : goal.invariant-loop-key
invariant-loop-key g l =
    let contents = g.S.Store.contents in
    let before = applied (contents l.store) l.fn.values in
    let now = applied (contents l.store) l.values in
    let rest = drop l.key-index l.keys in
    record {
      counted : l.count + deleted rest (values_at now rest) ≡ deleted l.keys (values_at before l.keys);
      removed : with_values now rest (all_removed rest) ≡ with_values before l.keys (all_removed l.keys);
      small : l.count ≤ l.key-index;
    }

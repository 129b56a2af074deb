use Rattle.std.proofs.Common.{◌≡◌, take, map}
use Rattle.keyspace.specs.Commands.{values_at}
use Rattle.keyspace.specs.Strings.{bulk_or_null}
use Rattle.keyspace.specs.Changes.{applied}
use Rattle.key_commands.proofs.strings.strings_at.Given as goal

-- the strings at the keys so far
abbrev pub invariant-loop-key : goal.invariant-loop-key
invariant-loop-key g l =
    let contents = g.S.Store.contents in
    l.strings.items ≡ map bulk_or_null (values_at (applied (contents l.store) l.values) (take l.key-index l.keys))

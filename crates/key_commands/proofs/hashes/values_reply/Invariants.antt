use Rattle.std.proofs.Common.{◌≡◌, take, map}
use Rattle.hash.specs.Pairs.{value_of}
use Rattle.std.specs.Option.{option_copied}
use Rattle.keyspace.specs.Hashes.{known, value_reply}
use Rattle.key_commands.proofs.hashes.values_reply.Given as goal

-- the values of the fields so far
abbrev pub invariant-loop-field : goal.invariant-loop-field
invariant-loop-field l = l.replies.items ≡ map (λ field. value_reply (value_of (known (option_copied l.hash)) field)) (take l.field-index l.fields)

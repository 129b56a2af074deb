use Rattle.std.proofs.Common.{◌≡◌, ◌++◌, map}
use Rattle.resp_values.specs.declared.reply.Reply.TheVariants.{Bulk}
use Rattle.key_commands.proofs.hashes.each_field.Given as goal

-- the fields so far, and those that are left
abbrev pub invariant-loop-field : goal.invariant-loop-field
invariant-loop-field l = l.replies.items ++ map Bulk (map (λ pair. pair.0) l.field-iterator) ≡ map Bulk (map (λ pair. pair.0) l.hash)

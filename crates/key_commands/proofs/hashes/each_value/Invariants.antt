use Rattle.std.proofs.Common.{◌≡◌, ◌++◌, map}
use Rattle.resp_values.specs.declared.reply.Reply.TheVariants.{Bulk}
use Rattle.key_commands.proofs.hashes.each_value.Given as goal

-- the values so far, and those that are left
abbrev pub invariant-loop-value : goal.invariant-loop-value
invariant-loop-value l = l.replies.items ++ map Bulk (map (λ pair. pair.1) l.value-iterator) ≡ map Bulk (map (λ pair. pair.1) l.hash)

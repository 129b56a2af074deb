use Rattle.std.proofs.Common.{◌≡◌, ◌++◌, map}
use Rattle.hash.specs.Size.{words_of}
use Rattle.resp_values.specs.declared.reply.Reply.TheVariants.{Bulk}
use Rattle.key_commands.proofs.hashes.each_pair.Given as goal

-- the pairs so far, and those that are left
abbrev pub invariant-loop-field : goal.invariant-loop-field
invariant-loop-field l = l.replies.items ++ map Bulk (words_of l.field-iterator) ≡ map Bulk (words_of l.hash)

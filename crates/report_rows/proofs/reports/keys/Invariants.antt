use Rattle.std.proofs.Common.{◌≡◌, map}
use Rattle.resp_values.specs.declared.reply.Reply.TheVariants.{Bulk}
use Rattle.report_rows.proofs.reports.keys.Given as goal

-- the keys so far are in the reply
abbrev pub invariant-loop-key : goal.invariant-loop-key
invariant-loop-key g l = l.replies.items ≡ map Bulk l.yielded

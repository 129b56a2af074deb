use Rattle.std.proofs.Common.{◌≡◌, take, map}
use Rattle.node_step.specs.Reports.{run_reply}
use Rattle.report_rows.proofs.reports.slots_reply.Given as goal

-- the runs so far have their replies
abbrev pub invariant-loop-run : goal.invariant-loop-run
invariant-loop-run l = l.replies.items ≡ map (run_reply l.config) (take l.run-index l.runs)

use Rattle.std.proofs.Common.{◌≡◌, length, None}
use Rattle.uses.proofs.RequestLemmas.{AreRead}
use Rattle.uses.proofs.whole_requests.all_requests.Given as goal

-- what was handed out stood in front of what is pending
abbrev pub invariant-loop-requests : goal.invariant-loop-requests
invariant-loop-requests l = record {
  are : AreRead l.input l.requests.items l.reader.pending;
  sound : l.reader.fault ≡ None;
}

abbrev pub decreases-loop-requests : goal.decreases-loop-requests
decreases-loop-requests l = length l.reader.pending

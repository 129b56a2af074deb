use Rattle.std.proofs.Common.{◌≡◌, length, None}
use Rattle.keyspace.specs.Plan.{committed}
use Rattle.repl_stream.proofs.ReadingLemmas.{AreRead}
use Rattle.repl_stream.proofs.requests.plan_requests.Given as goal

-- the reader holds the rest of the bytes, in front of which the requests are planned
abbrev pub invariant-requests : goal.invariant-requests
invariant-requests g l = record {
  holds : l.reader ≡ record { pending = l.rest; fault = None };
  read : AreRead (committed (g.S.Store.contents l.store) l.fn.plan) l.bytes (committed (g.S.Store.contents l.store) l.plan) l.rest;
}

abbrev pub decreases-requests : goal.decreases-requests
decreases-requests g l = length l.rest

use Rattle.std.proofs.Common.{◌≡◌, length, None}
use Rattle.resp2.specs.Reader.{PassesOver}
use Rattle.resp2.specs.Progress.{IsProgress, IsCounted, fault_of, pending_of}
use Rattle.resp2.proofs.reader.Reader.next.Given as goal

abbrev pub invariant-requests : goal.invariant-requests
invariant-requests l = record {
  sound : fault_of l.self-inside.progress ≡ None;
  progress : IsProgress l.self-inside.progress;
  counted : IsCounted l.self-inside.consumed l.self-inside.progress l.self-inside.input.items;
  so_far : PassesOver l.fn.self (record { pending = pending_of l.self-inside.progress l.self-inside.input.items; fault = None });
}

abbrev pub decreases-requests : goal.decreases-requests
decreases-requests l = length (pending_of l.self-inside.progress l.self-inside.input.items)

use Rattle.std.proofs.Common.{◌≡◌, ◌+◌, ◌++◌, false, length}
use Rattle.links.proofs.port.Port.send_all.Given as goal

-- messages were sent in order, and the others wait
abbrev pub invariant-loop : goal.invariant-loop
invariant-loop g l =
    record {
      in_order : l.self.sent ++ l.self.waiting ≡ l.fn.self.sent ++ l.fn.self.waiting;
      none : l.has_sent ≡ false → l.self ≡ l.fn.self;
      rest : l.self ≡ record l.fn.self { sent = l.self.sent; waiting = l.self.waiting };
      left : length l.self.waiting + l.counter ≡ l.end;
    }

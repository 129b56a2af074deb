use Rattle.std.proofs.Common.{◌≡◌, ◌+◌, length}
use Rattle.links.specs.Stations.{OnlySends, SendsNothing}
use Rattle.links.proofs.station.Station.sort_step.Given as goal

-- so many messages have come to their ports
abbrev pub invariant-loop : goal.invariant-loop
invariant-loop g l =
    record {
      sends : OnlySends l.fn.self l.self;
      unsent : SendsNothing l.fn.self l.self;
      left : length l.self.unsorted + l.counter ≡ l.end;
    }

use Rattle.links.specs.Stations.{OnlySends, SendsNothing}
use Rattle.links.proofs.station.Station.sort.Given as goal

-- messages have come to their ports
abbrev pub invariant-loop : goal.invariant-loop
invariant-loop g l =
    record {
      sends : OnlySends l.fn.self l.self;
      unsent : SendsNothing l.fn.self l.self;
    }

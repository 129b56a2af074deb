use Rattle.std.proofs.Common.{rules, set, subst}
use Rattle.links.specs.Ports.{HasGiven, HasGivenNone}
use Rattle.links.specs.Stations.{Loses, StationView}
use Rattle.links.proofs.ActionLemmas.{loses_so}
use Rattle.links.proofs.StationLemmas.{with_given, with_none_given}
use Rattle.links.proofs.station.Station.lose.Goals as goal

pub invariant_of-self-2 : goal.invariant_of-self-2
invariant_of-self-2 g c =
    with_given _ _ c.args.from c.in_ok-port.port.now c.try_receive.new.self c.in_ok-posted.posted c.self.invariant (search rules)
    (subst (λ port. HasGiven port c.in_ok-posted.posted c.try_receive.new.self) c.in_ok-port.ensures.value c.in_ok-posted.ensures.given)

pub returns-clause-some : goal.returns-clause-some
returns-clause-some g c =
    let inside : StationView = record { cell = c.self.inside.cell; ports = c.self.inside.ports.items; unsorted = c.self.inside.unsorted } in
    let there = c.in_ok-port.port.now in
    let port = c.try_receive.new.self in
    let message = c.in_ok-posted.posted in
    subst (λ (old : StationView). Loses old c.args.from message (record inside { ports = set inside.ports c.args.from port })) c.self.view_is
    (loses_so inside c.args.from there port message (search rules) c.in_ok-port.ensures.value c.in_ok-posted.ensures.given)

pub invariant_of-self-in_err-posted : goal.invariant_of-self-in_err-posted
invariant_of-self-in_err-posted g c =
    with_none_given _ _ c.args.from c.in_ok-port.port.now c.try_receive.new.self c.self.invariant (search rules)
    (subst (λ port. HasGivenNone port c.try_receive.new.self) c.in_ok-port.ensures.value c.in_err-posted.ensures.none)

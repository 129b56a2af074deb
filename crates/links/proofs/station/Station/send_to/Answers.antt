use Rattle.std.proofs.Common.{rules, ◌∙◌, ap, set, subst}
use Rattle.links.specs.Ports.{HasSent, PortView}
use Rattle.links.specs.Stations.{OnlySends, SendsNothing, StationView}
use Rattle.links.proofs.ActionLemmas.{only_sends_at, sends_nothing_at}
use Rattle.links.proofs.StationLemmas.{with_sent}
use Rattle.links.proofs.station.Station.send_to.Goals as goal

pub invariant_of-self : goal.invariant_of-self
invariant_of-self g c =
    with_sent _ _ c.args.to c.index_mut.result.now _ c.self.invariant (search rules) (subst (λ (port : PortView). HasSent port c.send_all.new.self) c.index_mut.ensures.value c.send_all.ensures.sent)

pub returns-then-to-len-clause-sends : goal.returns-then-to-len-clause-sends
returns-then-to-len-clause-sends g c =
    let inside : StationView = record { cell = c.self.inside.cell; ports = c.self.inside.ports.items; unsorted = c.self.inside.unsorted } in
    let sent = subst (λ (port : PortView). HasSent port c.send_all.new.self) c.index_mut.ensures.value c.send_all.ensures.sent in
    subst (λ (old : StationView). OnlySends old (record inside { ports = set inside.ports c.args.to c.send_all.new.self })) c.self.view_is
    (only_sends_at inside c.args.to c.index_mut.result.now c.send_all.new.self inside.unsorted (ap (λ (port : PortView). port.received) sent.rest) (ap (λ (port : PortView). port.given) sent.rest))

pub returns-then-to-len-clause-none : goal.returns-then-to-len-clause-none
returns-then-to-len-clause-none g c none =
    let inside : StationView = record { cell = c.self.inside.cell; ports = c.self.inside.ports.items; unsorted = c.self.inside.unsorted } in
    let same = c.send_all.ensures.none none ∙ c.index_mut.ensures.value in
    subst (λ (old : StationView). SendsNothing old (record inside { ports = set inside.ports c.args.to c.send_all.new.self })) c.self.view_is
    (sends_nothing_at inside c.args.to c.index_mut.result.now c.send_all.new.self inside.unsorted (ap (λ (port : PortView). port.sent) same))

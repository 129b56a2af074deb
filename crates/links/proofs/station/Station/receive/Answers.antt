use Rattle.std.proofs.Common.{rules, sym, set, subst}
use Rattle.links.specs.Ports.{HasGiven, HasGivenNone, PortView}
use Rattle.links.specs.Stations.{Loses, Receives, StationView}
use Rattle.links.proofs.ActionLemmas.{arrives_as, loses_so, receives_so}
use Rattle.links.proofs.StationLemmas.{after_delivery, with_given, with_none_given}
use Rattle.links.proofs.station.Station.receive.Goals as goal

pub invariant_of-self-then-is_needless : goal.invariant_of-self-then-is_needless
invariant_of-self-then-is_needless g c =
    let gives = subst (λ (port : PortView). HasGiven c.in_ok-port.port.now c.in_ok-posted.posted port) (sym c.is_needless.ensures.port) c.in_ok-posted.ensures.given in
    with_given _ _ c.args.from c.in_ok-port.port.now c.is_needless.new.self c.in_ok-posted.posted c.self.invariant (search rules)
    (subst (λ (port : PortView). HasGiven port c.in_ok-posted.posted c.is_needless.new.self) c.in_ok-port.ensures.value gives)

pub returns-then-is_needless-clause-some : goal.returns-then-is_needless-clause-some
returns-then-is_needless-clause-some g c =
    let inside : StationView = record { cell = c.self.inside.cell; ports = c.self.inside.ports.items; unsorted = c.self.inside.unsorted } in
    let there = c.in_ok-port.port.now in
    let port = c.is_needless.new.self in
    let message = c.in_ok-posted.posted in
    let gives = subst (λ (port : PortView). HasGiven there message port) (sym c.is_needless.ensures.port) c.in_ok-posted.ensures.given in (
      message,
      (
        subst (λ (old : StationView). Loses old c.args.from message (record inside { ports = set inside.ports c.args.from port })) c.self.view_is
            (loses_so inside c.args.from there port message (search rules) c.in_ok-port.ensures.value gives),
        c.is_needless.ensures.sync c.if-is_needless.true,
      ),
    )

pub invariant_of-self-2 : goal.invariant_of-self-2
invariant_of-self-2 g c =
    let gives = subst (λ (port : PortView). HasGiven c.in_ok-port.port.now c.in_ok-posted.posted port) (sym c.is_needless.ensures.port) c.in_ok-posted.ensures.given in
    after_delivery _ _ c.args.from c.in_ok-port.port.now c.is_needless.new.self c.in_ok-posted.posted c.deliver-delivered.result _ c.self.invariant (search rules)
    (subst (λ (port : PortView). HasGiven port c.in_ok-posted.posted c.is_needless.new.self) c.in_ok-port.ensures.value gives)
    c.deliver-delivered.ensures.ok c.deliver-delivered.ensures.err

pub returns-clause-some : goal.returns-clause-some
returns-clause-some g c =
    let inside : StationView = record { cell = c.self.inside.cell; ports = c.self.inside.ports.items; unsorted = c.self.inside.unsorted } in
    let there = c.in_ok-port.port.now in
    let port = c.is_needless.new.self in
    let message = c.in_ok-posted.posted in
    let gives = subst (λ (port : PortView). HasGiven there message port) (sym c.is_needless.ensures.port) c.in_ok-posted.ensures.given in (
      message,
      arrives_as _ c.args.from message c.deliver-delivered.result _ _ c.said_of.ensures (subst (λ (old : StationView). Receives old c.args.from message c.deliver-delivered.result (record inside { cell = c.deliver-delivered.new.self; ports = set inside.ports c.args.from port })) c.self.view_is
          (receives_so inside c.args.from there port message c.deliver-delivered.result c.deliver-delivered.new.self (search rules) c.in_ok-port.ensures.value gives
          c.deliver-delivered.ensures.ok c.deliver-delivered.ensures.err)),
    )

pub invariant_of-self-in_err-posted : goal.invariant_of-self-in_err-posted
invariant_of-self-in_err-posted g c =
    with_none_given _ _ c.args.from c.in_ok-port.port.now c.try_receive.new.self c.self.invariant (search rules)
    (subst (λ (port : PortView). HasGivenNone port c.try_receive.new.self) c.in_ok-port.ensures.value c.in_err-posted.ensures.none)

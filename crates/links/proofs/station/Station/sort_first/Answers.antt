use Rattle.std.proofs.Common.{rules, ◌≡◌, ◌∙◌, ap, arith, drop, set, subst, sym, List}
use Rattle.bus.specs.declared.message.Message.{Message}
use Rattle.links.specs.Ports.{PortView}
use Rattle.links.specs.Stations.{IsStation, OnlySends, SendsNothing, StationView}
use Rattle.links.proofs.ActionLemmas.{only_sends_at, sends_nothing_at, sorted_or_not, the_same_there}
use Rattle.links.proofs.StationLemmas.{with_one_let_go}
use Rattle.links.proofs.station.Station.sort_first.Goals as goal

pub invariant_of-self : goal.invariant_of-self
invariant_of-self g c =
    let inside : StationView = record { cell = c.self.inside.cell; ports = c.self.inside.ports.items; unsorted = c.self.inside.unsorted } in
    let first = c.in-Some.ensures.some in
    sorted_or_not inside c.index-to.result c.index_mut.result.now c.take_from.new.self c.take_from.new.sending g.W.Web.links first.0 first.1 c.take_from.result c.self.invariant
    (search rules) first.2 (search rules) (search rules) (search rules)

pub returns-then-to-len-clause-sends : goal.returns-then-to-len-clause-sends
returns-then-to-len-clause-sends g c =
    let inside : StationView = record { cell = c.self.inside.cell; ports = c.self.inside.ports.items; unsorted = c.self.inside.unsorted } in
    let at = c.index_mut.result.now in
    let same = the_same_there inside c.index-to.result at c.take_from.new.self c.take_from.new.sending c.take_from.result (search rules) (search rules) in
    subst (λ (old : StationView). OnlySends old (record inside { ports = set inside.ports c.index-to.result c.take_from.new.self; unsorted = c.take_from.new.sending })) c.self.view_is
    (only_sends_at inside c.index-to.result at c.take_from.new.self c.take_from.new.sending
    (ap (λ (port : PortView). port.received) same) (ap (λ (port : PortView). port.given) same))

pub returns-then-to-len-clause-unsent : goal.returns-then-to-len-clause-unsent
returns-then-to-len-clause-unsent g c =
    let inside : StationView = record { cell = c.self.inside.cell; ports = c.self.inside.ports.items; unsorted = c.self.inside.unsorted } in
    let at = c.index_mut.result.now in
    subst (λ (old : StationView). SendsNothing old (record inside { ports = set inside.ports c.index-to.result c.take_from.new.self; unsorted = c.take_from.new.sending })) c.self.view_is
    (sends_nothing_at inside c.index-to.result at c.take_from.new.self c.take_from.new.sending
    (ap (λ (port : PortView). port.sent) (the_same_there inside c.index-to.result at c.take_from.new.self c.take_from.new.sending c.take_from.result (search rules) (search rules))))

pub invariant_of-self-2 : goal.invariant_of-self-2
invariant_of-self-2 g c =
    let inside : StationView = record { cell = c.self.inside.cell; ports = c.self.inside.ports.items; unsorted = c.self.inside.unsorted } in
    let first = c.in-Some.ensures.some in
    let rest : first.1 ≡ c.let_go.new.self = sym (c.let_go.ensures ∙ ap (λ (all : List Message). drop 1 all) first.2) in
    subst (λ (unsorted : List Message). IsStation g.W.Web.links (record inside { unsorted = unsorted })) rest
    (with_one_let_go g.W.Web.links inside first.0 first.1 c.self.invariant first.2 (omega arith))

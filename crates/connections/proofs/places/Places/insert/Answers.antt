use Rattle.std.proofs.Common.{arith, ap}
use Rattle.connections.specs.Places.{PlaceTable}
use Rattle.connections.proofs.PlaceLemmas.{fills-free, fills-if_added, fills-new, kept-filled, last-within}
use Rattle.connections.proofs.places.Places.insert.Goals as goal

pub index_mut-requires : goal.index_mut-requires
index_mut-requires c =
    omega (arith, last-within c.self.inside.slots.items c.self.inside.free.items c.pop.new.self.items c.in-Some.key _ c.self.invariant c.in-Some.ensures.items)

pub invariant_of-self-2 : goal.invariant_of-self-2
invariant_of-self-2 c =
    rw c.in-Some.ensures.capacity (kept-filled c.self.inside.slots.items c.self.inside.free.items c.pop.new.self.items c.in-Some.key _ _ c.self.invariant c.in-Some.ensures.items)

pub returns-clause-filled : goal.returns-clause-filled
returns-clause-filled c =
    rw (← ap (λ (table : PlaceTable). table.slots) c.self.view_is)
    (fills-free c.self.inside.slots.items c.self.inside.free.items c.pop.new.self.items c.in-Some.key _ c.args.connection c.self.invariant c.in-Some.ensures.items)

pub returns-in_default-clause-filled : goal.returns-in_default-clause-filled
returns-in_default-clause-filled c =
    let fills = fills-new c.self.inside.slots.items c.self.inside.free.items _ c.args.connection c.self.invariant (omega (arith, c.in_default.ensures.cases.0)) in
    rw (← ap (λ (table : PlaceTable). table.slots) c.self.view_is)
    (fills-if_added c.self.inside.slots.items c.add_place.new.slots.items c.add_place.result _ c.args.connection fills (omega arith) c.add_place.ensures.key c.add_place.ensures.added)

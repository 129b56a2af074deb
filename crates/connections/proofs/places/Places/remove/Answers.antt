use Rattle.std.proofs.Common.{None, arith, get_or, subst, sym}
use Rattle.std.specs.Prelude.{IsSome}
use Rattle.connections.specs.Places.{PlaceTable}
use Rattle.connections.proofs.PlaceLemmas.{kept-removed, room-removed}
use Rattle.connections.proofs.places.Places.remove.Goals as goal

pub push_reserved-requires : goal.push_reserved-requires
push_reserved-requires c =
    let there = subst (λ (table : PlaceTable). IsSome (get_or table.slots c.args.key None)) (sym c.self.view_is) c.requires in
    omega (arith, room-removed c.self.inside.slots.items c.self.inside.free.items c.args.key _ c.self.invariant there)

pub invariant_of-self : goal.invariant_of-self
invariant_of-self c =
    let there = subst (λ (table : PlaceTable). IsSome (get_or table.slots c.args.key None)) (sym c.self.view_is) c.requires in
    rw (c.push_reserved.ensures.items, c.push_reserved.ensures.capacity) (kept-removed c.self.inside.slots.items c.self.inside.free.items c.args.key _ c.self.invariant there)

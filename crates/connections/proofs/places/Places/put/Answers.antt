use Rattle.std.proofs.Common.{None, get_or, subst, sym}
use Rattle.std.specs.Prelude.{IsSome}
use Rattle.connections.specs.Places.{PlaceTable}
use Rattle.connections.proofs.PlaceLemmas.{kept-put}
use Rattle.connections.proofs.places.Places.put.Goals as goal

pub invariant_of-self : goal.invariant_of-self
invariant_of-self c =
    kept-put _ _ _ _ _ c.self.invariant (subst (λ (table : PlaceTable). IsSome (get_or table.slots c.args.key None)) (sym c.self.view_is) c.requires)

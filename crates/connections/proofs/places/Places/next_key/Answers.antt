use Rattle.std.proofs.Common.{◌≡◌, ◌≤◌, None, get_or, length, subst, ap, ◌∙◌, arith}
use Rattle.std.proofs.lemmas.Grind.{common_steps}
use Rattle.connections.specs.Places.{PlaceTable}
use Rattle.connections.proofs.PlaceLemmas.{next-free, next-last, next-within}
use Rattle.connections.proofs.places.Places.next_key.Goals as goal

pub returns-clause-value : goal.returns-clause-value
returns-clause-value c =
    let last = next-last c.self.inside.free.items (length c.self.inside.slots.items) in
    grind (arith, common_steps, last, c.last.ensures.value)

pub returns-clause-free : goal.returns-clause-free
returns-clause-free c =
    ap (λ key. get_or c.args.self.now.slots key None) (returns-clause-value c)
    ∙ subst (λ (table : PlaceTable). get_or table.slots table.next_key None ≡ None) c.self.view_is (next-free _ _ c.self.invariant.keys)

pub returns-clause-next : goal.returns-clause-next
returns-clause-next c =
    let within = subst (λ (table : PlaceTable). table.next_key ≤ length table.slots) c.self.view_is (next-within _ _ c.self.invariant.keys) in
    omega (arith, returns-clause-value c)

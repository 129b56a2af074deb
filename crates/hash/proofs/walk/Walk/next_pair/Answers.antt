use Rattle.std.proofs.Common.{rules, ◌≡◌, ℕ, ◌+◌, List, ◌∷◌, length, sym, ap, ◌∙◌}
use Rattle.std.proofs.lemmas.List.{nil_from_length, take_rest}
use Rattle.std.specs.List.{slice_range}
use Rattle.hash.specs.Packed.{pairs_in}
use Rattle.hash.proofs.PackedLemmas.{nothing_in, others_packing, walks}
use Rattle.hash.proofs.walk.Walk.next_pair.Goals as goal

pub returns-then-is_empty : goal.returns-then-is_empty
returns-then-is_empty c =
    let empty : length c.self.inside.rest.now ≡ 0 = search rules in
    let none = sym c.self.view_is ∙ nothing_in c.self.inside.rest.now (nil_from_length c.self.inside.rest.now empty) in
    (none, none)

pub invariant_of-self : goal.invariant_of-self
invariant_of-self c = rw take_rest (others_packing c.self.inside.rest.now _ _ c.first_pair-first.ensures)

pub returns : goal.returns
returns c =
    sym c.self.view_is ∙ walks c.self.inside.rest.now _ _ c.first_pair-first.ensures
    ∙ ap (λ (left : List ℕ). (slice_range c.self.inside.rest.now 1 c.first_pair-first.result.value, slice_range c.self.inside.rest.now (c.first_pair-first.result.value + 1) c.first_pair-first.result.end) ∷ pairs_in left)
    (sym (take_rest c.self.inside.rest.now c.first_pair-first.result.end))

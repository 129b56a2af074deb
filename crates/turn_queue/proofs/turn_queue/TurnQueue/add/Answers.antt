use Rattle.std.proofs.Common.{◌≡◌, ◌≢◌, ◌∙◌, List, Bool, Some, false, slice_get, sym, ap, subst, arith}
use Rattle.turn_queue.specs.Turns.{Turns, added}
use Rattle.turn_queue.proofs.MarkLemmas.{added-kept, finds-room, is-added, is-as-before}
use Rattle.turn_queue.proofs.turn_queue.TurnQueue.add.Goals as goal

pub push_back_reserved-requires : goal.push_back_reserved-requires
push_back_reserved-requires c =
    omega (
      arith,
      c.self.inside.keys.ok.0,
      finds-room c.self.inside.keys.items c.self.inside.marks.items c.args.key _ c.self.invariant
          (subst (λ (marks : List Bool). slice_get marks c.args.key ≡ Some false) c.as_slice.ensures.value (c.has_mark.ensures.yes c.if-has_mark.true)),
    )

pub invariant_of-self : goal.invariant_of-self
invariant_of-self c =
    added-kept c.self.inside.keys.items _ c.self.inside.marks.items c.args.key _ _ c.self.invariant
    (subst (λ (marks : List Bool). slice_get marks c.args.key ≡ Some false) c.as_slice.ensures.value (c.has_mark.ensures.yes c.if-has_mark.true))
    c.push_back_reserved.ensures.items (omega (arith, c.push_back_reserved.ensures.capacity))

pub returns-then-has_mark-clause-keys : goal.returns-then-has_mark-clause-keys
returns-then-has_mark-clause-keys c =
    c.push_back_reserved.ensures.items
    ∙ is-added c.self.inside.keys.items c.self.inside.marks.items c.args.key c.self.invariant.marked
    (subst (λ (marks : List Bool). slice_get marks c.args.key ≡ Some false) c.as_slice.ensures.value (c.has_mark.ensures.yes c.if-has_mark.true))
    ∙ ap (λ (view : Turns). added c.args.key view) c.self.view_is

pub returns-else-has_mark-clause-keys : goal.returns-else-has_mark-clause-keys
returns-else-has_mark-clause-keys c =
    ap (λ (view : Turns). view.keys) (sym c.self.view_is)
    ∙ is-as-before c.self.inside.keys.items c.self.inside.marks.items c.args.key c.self.invariant.marked
    (subst (λ (marks : List Bool). slice_get marks c.args.key ≢ Some false) c.as_slice.ensures.value (c.has_mark.ensures.no c.if-has_mark.false))
    ∙ ap (λ (view : Turns). added c.args.key view) c.self.view_is

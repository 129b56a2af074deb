use Rattle.std.proofs.Common.{◌≢◌, ◌==◌, ◌∙◌, not, arith, List, Bool, Some, true, slice_get, sym, ap, subst, rules}
use Rattle.std.proofs.lemmas.Fn.{filter_same}
use Rattle.turn_queue.specs.Turns.{Turns, without}
use Rattle.turn_queue.proofs.MarkLemmas.{removed-kept, nothing-removed}
use Rattle.turn_queue.proofs.turn_queue.TurnQueue.remove.Goals as goal

pub invariant_of-self : goal.invariant_of-self
invariant_of-self c =
    removed-kept c.self.inside.keys.items c.retain.new.self.items c.self.inside.marks.items c.args.key _ _ c.self.invariant
    (filter_same _ (λ other. not (other == c.args.key)) _ (λ x b f' k. search rules) _ _ c.retain.ensures.filtered) (omega (arith, c.retain.ensures.capacity))

pub returns-then-has_mark-clause-keys : goal.returns-then-has_mark-clause-keys
returns-then-has_mark-clause-keys c =
    filter_same _ _ _ (λ x b f' k. search rules) _ _ c.retain.ensures.filtered
    ∙ ap (λ (view : Turns). without c.args.key view.keys) c.self.view_is

pub returns-else-has_mark-clause-keys : goal.returns-else-has_mark-clause-keys
returns-else-has_mark-clause-keys c =
    ap (λ (view : Turns). view.keys) (sym c.self.view_is)
    ∙ nothing-removed c.self.inside.keys.items c.self.inside.marks.items c.args.key c.self.invariant.marked
    (subst (λ (marks : List Bool). slice_get marks c.args.key ≢ Some true) c.as_slice.ensures.value (c.has_mark.ensures.no c.if-has_mark.false))
    ∙ ap (λ (view : Turns). without c.args.key view.keys) c.self.view_is

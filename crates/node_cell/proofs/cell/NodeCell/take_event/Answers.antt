use Rattle.std.proofs.Common.{rules, refl, sym, ap, ◌∙◌}
use Rattle.cell_parts.specs.Undelivered.{joined}
use Rattle.cell_parts.specs.declared.entry.Entry.TheVariants.{Skipped}
use Rattle.node_cell.proofs.DeliveryLemmas.{enters_so, is_refused_so}
use Rattle.node_cell.proofs.GivenLemmas.{given_after_skip}
use Rattle.node_cell.proofs.JournalLemmas.{journal_adds}
use Rattle.node_cell.proofs.SentLemmas.{comes_to}
use Rattle.node_cell.proofs.cell.NodeCell.take_event.Goals as goal
use Rattle.node_cell.proofs.cell.NodeCell.take_event.Goals.{in-Ok, in-Err}

pub invariant_of-self : goal.invariant_of-self
invariant_of-self g c =
    (search rules, rw (c.make_room.ensures.log, c.make_room.ensures.undelivered) c.self.invariant.1, search rules, search rules, search rules, search rules)

pub invariant_of-self-in_default : goal.invariant_of-self-in_default
invariant_of-self-in_default g c =
    (search rules, rw (c.make_room.ensures.log, c.make_room.ensures.undelivered) c.self.invariant.1, search rules, search rules, search rules, search rules)

pub invariant_of-self-then-not-comes_in_time : goal.invariant_of-self-then-not-comes_in_time
invariant_of-self-then-not-comes_in_time g c =
    let drew = c.in-Some.ensures.some in (
      rw (c.enter_skip.ensures, c.make_room.ensures.log) (journal_adds _ _ _ _ _ _ (Skipped c.in-Some.ticket) _ c.self.invariant.0 refl refl drew.0 drew.1),
      rw (c.enter_skip.ensures, c.make_room.ensures.log, c.make_room.ensures.undelivered)
          (given_after_skip (g.L.Log.entries c.self.inside.log) c.in-Some.ticket (joined c.self.inside.undelivered.items) c.self.invariant.1),
      search rules,
      search rules,
      search rules,
      search rules,
    )

pub invariant_of-self-2 : goal.invariant_of-self-2
invariant_of-self-2 g c =
    let entered = c.advance.ensures.entered in
    let drew = c.in-Some.ensures.some in (
      rw (entered.entered, c.make_room.ensures.log) (journal_adds _ _ _ _ _ _ _ _ c.self.invariant.0 entered.under entered.leads drew.0 drew.1),
      c.advance.ensures.given (rw (c.make_room.ensures.log, c.make_room.ensures.undelivered) c.self.invariant.1),
      search rules,
      search rules,
      search rules,
      search rules,
    )

pub advance-requires-clause-reachable : goal.advance-requires-clause-reachable
advance-requires-clause-reachable g c =
    rw c.make_room.ensures.log (comes_to _ _ _ _ _ (search rules) (search rules) c.self.invariant.0.history)

pub returns-clause-ok : goal.returns-clause-ok
returns-clause-ok g c = elim c.match-advance.branch [
  | in-Ok w ↦
      rw (w.result-is, sym c.self.view_is)
      (enters_so _ _ c.in-Some.ticket _ _ (rw c.make_room.ensures.log at w.in-Ok.ensures.ok) refl refl
      (rw c.make_room.ensures.undelivered at w.in-Ok.ensures.undelivered) (rw c.make_room.ensures.outbox at w.in-Ok.ensures.outbox))
  | in-Err w ↦ rw w.result-is tt
]

pub returns-clause-err : goal.returns-clause-err
returns-clause-err g c = elim c.match-advance.branch [
  | in-Ok w ↦ rw w.result-is tt
  | in-Err w ↦
      rw (w.result-is, sym c.self.view_is)
      (is_refused_so _ _ c.in-Some.ticket _ _ (rw c.make_room.ensures.log at w.in-Err.ensures.err) refl refl
      (w.in-Err.ensures.rest.0 ∙ ap joined c.make_room.ensures.undelivered) (w.in-Err.ensures.rest.1 ∙ ap joined c.make_room.ensures.outbox))
]

use Rattle.std.proofs.Common.{ap, ◌∙◌}
use Rattle.slot_state.specs.Moves.{move_of, by_slot}
use Rattle.slot_state.proofs.MovesLemmas.{undone}
use Rattle.slot_state.proofs.slot_moves.SlotMoves.begin.Goals as goal

pub returns-in-Err-clause-err : goal.returns-in-Err-clause-err
returns-in-Err-clause-err c =
    c.end.ensures
    ∙ undone (record { running = by_slot c.self.inside.running.entries; last = by_slot c.self.inside.last.entries }) c.args.slot c.args.new _ _
    (ap (λ moves. move_of moves c.args.slot) c.self.view_is ∙ c.requires)
    c.in_ok-put_in.ensures.ok
    c.in-Err.ensures.err
    ∙ c.self.view_is

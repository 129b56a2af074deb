use Rattle.std.proofs.Common.{refl, ap, sym, ◌∙◌}
use Rattle.std.specs.BTreeMap.{BTreeMap}
use Rattle.slot_state.specs.Moves.{by_slot, changed, move_of}
use Rattle.slot_state.specs.declared.running.Move.{Move}
use Rattle.slot_state.proofs.Maps.{by_slot_insert, get_by_slot}
use Rattle.slot_state.proofs.MovesLemmas.{lent, with_running}
use Rattle.slot_state.proofs.slot_moves.SlotMoves.get_mut.Goals as goal

pub returns : goal.returns
returns c =
    let last = by_slot c.self.inside.last.entries in (
      (
        refl,
        λ w. lent _ _ c.get_mut.ensures.value (λ there.
            ap (λ r. with_running r last) (by_slot_insert _ _ _ _ ((c.get_mut.follows.holds w).3 there).0) ∙ ap (λ moves. changed moves c.args.slot w) c.self.view_is),
        ap (λ (m : BTreeMap _ Move). with_running (by_slot m.entries) last) c.get_mut.follows.holds-at-none ∙ c.self.view_is,
      ),
      record {
        lends = tt;
        value = c.get_mut.ensures.value ∙ sym (get_by_slot c.self.inside.running.entries c.args.slot) ∙ ap (λ moves. move_of moves c.args.slot) c.self.view_is;
      },
    )

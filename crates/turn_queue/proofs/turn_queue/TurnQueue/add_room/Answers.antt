use Rattle.std.proofs.Common.{◌++◌, ◌∷◌, [], List, Bool, false, ◌∙◌, ap, arith}
use Rattle.turn_queue.proofs.MarkLemmas.{few, grown-kept}
use Rattle.turn_queue.proofs.turn_queue.TurnQueue.add_room.Goals as goal

pub overflow_sub-missing : goal.overflow_sub-missing
overflow_sub-missing c =
    omega (arith, c.len.ensures, c.len-2.ensures, c.self.inside.keys.ok.0, c.in_ok-reserve.ensures.len, few c.self.inside.keys.items c.self.inside.marks.items c.self.invariant.marked)

pub invariant_of-self-2 : goal.invariant_of-self-2
invariant_of-self-2 c =
    grown-kept c.self.inside.keys.items _ c.self.inside.marks.items _ _ _ c.self.invariant c.in_ok-reserve-2.ensures.items
    (c.push_reserved.ensures.items ∙ ap (λ (marks : List Bool). marks ++ false ∷ []) c.in_ok-reserve.ensures.items)
    (omega (
      arith,
      c.len.ensures,
      c.len-2.ensures,
      c.self.inside.keys.ok.0,
      c.self.inside.marks.ok.0,
      c.in_ok-reserve.ensures.len,
      c.in_ok-reserve-2.ensures.len,
      c.in_ok-reserve-2.ensures.ok,
      few c.self.inside.keys.items c.self.inside.marks.items c.self.invariant.marked,
    ))

use Rattle.std.proofs.Common.{rules, get_or, refl, sym, ap, ◌∙◌, arith}
use Rattle.connections.proofs.Counts.{count-opened}
use Rattle.connections.proofs.connections.Connections.open.Goals as goal

pub invariant_of-self-2 : goal.invariant_of-self-2
invariant_of-self-2 c = record {
  waiting = c.self.invariant.waiting ∙ sym (count-opened _ _ _ _ c.in_ok-key.ensures.filled refl);
  keys = omega (arith, c.self.invariant.keys, c.in_ok-key.ensures.filled.len, c.set_count.ensures.len, c.in_ok-reserve.ensures.len);
}

pub returns-clause-opens : goal.returns-clause-opens
returns-clause-opens c =
    rw (← c.self.view_is) (record {
      free = c.in_ok-key.ensures.filled.free;
      generation = search rules;
      opened = c.in_ok-key.ensures.filled.filled;
      others = c.in_ok-key.ensures.filled.others;
      counted = search rules;
      other_counts = λ key elsewhere. c.set_count.ensures.others key elsewhere ∙ ap (λ counts. get_or counts key 0) c.in_ok-reserve.ensures.items;
      keys = c.in_ok-key.ensures.filled.places;
      counted_keys = omega (arith, c.self.invariant.keys, c.in_ok-key.ensures.filled.len, c.set_count.ensures.len, c.in_ok-reserve.ensures.len);
    })

use Rattle.std.proofs.Common.{◌≡◌, ◌<◌, ◌++◌, map, take, drop, vec_len, vec_capacity}
use Rattle.node_step.specs.Released.{of_others}
use Rattle.cell_parts.proofs.undelivered.forget_replies_to.Given as goal

-- the items so far have those of others alone
abbrev pub invariant-loop-at : goal.invariant-loop-at
invariant-loop-at l = record {
  parts : l.undelivered.items ≡ map (of_others l.conn) (take l.at l.fn.undelivered.items) ++ drop l.at l.fn.undelivered.items;
  room : vec_len l.fn.undelivered < vec_capacity l.fn.undelivered → vec_len l.undelivered < vec_capacity l.undelivered;
}

use Rattle.std.proofs.Common.{◌∙◌}
use Rattle.key_map.proofs.Places.{moved}
use Rattle.key_map.proofs.few.Few.move_into.Goals as goal

pub loop-key-preserved-in_default-insert : goal.loop-key-preserved-in_default-insert
loop-key-preserved-in_default-insert g c = (
  moved c.in-Some.key c.in-Some.value c.loop-key.self.pairs.items c.pop.new.self.items _ _ _ c.requires.rising c.loop-key.invariant.0 c.in-Some.ensures.items c.in_default-insert.ensures.entries,
  c.pop.ensures.capacity ∙ c.loop-key.invariant.1,
)

pub loop-key-preserved-in_default-insert-2 : goal.loop-key-preserved-in_default-insert-2
loop-key-preserved-in_default-insert-2 g c = (
  moved c.in-Some.key c.in-Some.value c.loop-key.self.pairs.items c.pop.new.self.items _ _ _ c.requires.rising c.loop-key.invariant.0 c.in-Some.ensures.items c.in_default-insert.ensures.entries,
  c.pop.ensures.capacity ∙ c.loop-key.invariant.1,
)

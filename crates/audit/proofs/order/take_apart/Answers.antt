use Rattle.std.proofs.Common.{rules, arith}
use Rattle.audit.proofs.Parts.{all_taken, one_missing, one_more_taken, too_many}
use Rattle.audit.proofs.order.take_apart.Goals as goal

pub loop-number-preserved : goal.loop-number-preserved
loop-number-preserved g c =
    one_more_taken _ _ _ _ c.loop-number.number c.loop-number.journals.items _ c.loop-number.seats.items _ c.loop-number.parts.items _ c.in-Some.part c.into_parts-entries.result.0.items c.into_parts-entries.result.1
    c.loop-number.invariant c.in-Some.ensures.node c.in-Some.ensures.some c.into_parts-entries.ensures.entries c.into_parts-entries.ensures.node c.into_parts-entries.ensures.seat.0
    c.into_parts-entries.ensures.seat.1 c.into_parts-entries.ensures.seat.2 (search rules) (search rules)

pub returns-in_default-clause-none : goal.returns-in_default-clause-none
returns-in_default-clause-none g c = one_missing _ _ _ _ c.args.count c.loop-number.number _ _ _ c.loop-number.invariant (omega arith) (search rules)

pub returns-then-not-is_empty-clause-none : goal.returns-then-not-is_empty-clause-none
returns-then-not-is_empty-clause-none g c = too_many _ _ _ _ c.args.count c.loop-number.number _ _ _ c.loop-number.invariant (omega arith) (search rules)

pub returns-clause-some : goal.returns-clause-some
returns-clause-some g c = all_taken _ _ _ _ c.args.count c.loop-number.number _ _ _ c.loop-number.invariant (omega arith) (search rules)

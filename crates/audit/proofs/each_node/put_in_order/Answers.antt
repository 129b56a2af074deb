use Rattle.std.proofs.Common.{rules, ◌∙◌, ap, arith}
use Rattle.std.specs.List.{range_with_len}
use Rattle.audit.proofs.EachNode.{all_ordered, none_ordered, one_missing, one_more_ordered, one_too_many}
use Rattle.audit.proofs.each_node.put_in_order.Goals as goal

pub loop-number-init : goal.loop-number-init
loop-number-init g c = none_ordered g.T.OfNode.node _ _ (search rules)

pub loop-number-preserved : goal.loop-number-preserved
loop-number-preserved g c =
    one_more_ordered g.T.OfNode.node _ c.loop-number.ordered.items _ c.loop-number.all.items _ c.loop-number.number c.in-Some.one c.loop-number.invariant c.in-Some.ensures.node c.in-Some.ensures.some (search rules)

pub returns-in_default-clause-none : goal.returns-in_default-clause-none
returns-in_default-clause-none g c = one_missing g.T.OfNode.node _ _ _ c.args.count c.loop-number.number c.loop-number.invariant (omega arith) (search rules)

pub returns-then-not-is_empty-clause-none : goal.returns-then-not-is_empty-clause-none
returns-then-not-is_empty-clause-none g c = one_too_many g.T.OfNode.node _ _ _ c.args.count c.loop-number.number c.loop-number.invariant (omega arith) (search rules)

pub returns-clause-order : goal.returns-clause-order
returns-clause-order g c = c.loop-number.invariant.order ∙ ap (range_with_len 0) (omega arith)

pub returns-clause-same : goal.returns-clause-same
returns-clause-same g c = all_ordered g.T.OfNode.node _ _ _ c.loop-number.number c.loop-number.invariant (search rules)

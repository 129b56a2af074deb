use Rattle.std.proofs.Common.{◌∙◌, sym, arith}
use Rattle.byte_string.proofs.OrderLemmas.{by_lengths, decided, fewer, one_is}
use Rattle.byte_string.proofs.order.order_few.Goals as goal

pub returns-then-a-i : goal.returns-then-a-i
returns-then-a-i c =
    let a = c.args.a.now in
    let b = c.args.b.now in
    let i = c.loop-i.i in
    c.cmp.ensures
    ∙ sym (decided a b c.type_inv.a c.type_inv.b i 1 _ _ (omega arith) (omega arith) (one_is a i (omega arith)) (one_is b i (omega arith)) c.loop-i.invariant c.if-a-i.true)

pub returns : goal.returns
returns c = c.cmp-2.ensures ∙ sym (by_lengths c.args.a.now c.args.b.now c.args.both c.requires (fewer c.args.both c.loop-i.i _ _ (omega arith) c.loop-i.invariant))

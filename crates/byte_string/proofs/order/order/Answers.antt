use Rattle.std.proofs.Common.{◌+◌, ◌-◌, ◌∙◌, sym, arith}
use Rattle.byte_string.proofs.OrderLemmas.{alike_further, by_lengths, decided, fewer}
use Rattle.byte_string.proofs.order.order.Goals as goal

pub returns-then-x-y : goal.returns-then-x-y
returns-then-x-y c =
    let a = c.args.a.now in
    let b = c.args.b.now in
    c.cmp.ensures
    ∙ sym (decided a b c.type_inv.a c.type_inv.b c.loop-at.at 8 _ _ (omega arith) (omega arith) c.word-x.ensures c.word-y.ensures c.loop-at.invariant c.if-x-y.true)

pub loop-at-preserved : goal.loop-at-preserved
loop-at-preserved c =
    let a = c.args.a.now in
    let b = c.args.b.now in
    alike_further a b c.type_inv.a c.type_inv.b c.loop-at.at 8 _ _ (omega arith) (omega arith) c.word-x.ensures c.word-y.ensures c.loop-at.invariant c.if-x-y.false

pub returns-then-x-y-2 : goal.returns-then-x-y-2
returns-then-x-y-2 c =
    let a = c.args.a.now in
    let b = c.args.b.now in
    let last = c.min-both.result - 8 in
    c.cmp-then-x-y-2.ensures
    ∙ sym (decided a b c.type_inv.a c.type_inv.b last 8 _ _ (omega arith) (omega arith) c.word-x-2.ensures c.word-y-2.ensures (fewer last c.loop-at.at a b (omega arith) c.loop-at.invariant) c.if-x-y-2.true)

pub returns : goal.returns
returns c =
    let a = c.args.a.now in
    let b = c.args.b.now in
    let last = c.min-both.result - 8 in
    c.cmp-2.ensures
    ∙ sym (by_lengths a b (last + 8) (omega arith)
    (alike_further a b c.type_inv.a c.type_inv.b last 8 _ _ (omega arith) (omega arith) c.word-x-2.ensures c.word-y-2.ensures (fewer last c.loop-at.at a b (omega arith) c.loop-at.invariant) c.if-x-y-2.false))

use Rattle.std.proofs.Common.{rules}
use Rattle.same_messages.proofs.Prefixes.{differ_next, one_further}
use Rattle.same_messages.proofs.same.is_same_hash.Goals as goal

pub loop-field-preserved : goal.loop-field-preserved
loop-field-preserved c =
    let i = c.loop-field.invariant in
    one_further c.args.one.now c.args.other.now i.0 c.loop-field.field-iterator c.loop-field.theirs c.next.new.self c.next-in-loop-field.new.self (c.in-Some.field, c.in-Some.value) (c.in-Some-next.name, c.in-Some-next.held) i.1 i.2 (search rules) (search rules) (search rules)

pub returns-then-not-eq-clause-differ : goal.returns-then-not-eq-clause-differ
returns-then-not-eq-clause-differ c _ =
    let i = c.loop-field.invariant in
    differ_next c.args.one.now c.args.other.now i.0 c.loop-field.field-iterator c.loop-field.theirs c.next.new.self c.next-in-loop-field.new.self (c.in-Some.field, c.in-Some.value) (c.in-Some-next.name, c.in-Some-next.held) i.1 i.2 (search rules) (search rules) (search rules)

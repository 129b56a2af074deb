use Rattle.std.proofs.Common.{sym, ◌∙◌}
use Rattle.std.proofs.lemmas.List.{take_rest}
use Rattle.hash.proofs.PackedPlaces.{behind_first_left, lies_first_left, nowhere}
use Rattle.hash.proofs.packing.place_of.Goals as goal

pub returns-then-alike-clause-some : goal.returns-then-alike-clause-some
returns-then-alike-clause-some c =
    lies_first_left c.args.bytes.now c.args.field.now c.loop-at.at _ _ c.loop-at.invariant _ (sym (take_rest c.args.bytes.now c.loop-at.at))
    c.first_pair-first.ensures (sym c.alike.ensures ∙ c.if-alike.true)

pub loop-at-preserved : goal.loop-at-preserved
loop-at-preserved c =
    behind_first_left c.args.bytes.now c.args.field.now c.loop-at.at _ _ c.loop-at.invariant _ (sym (take_rest c.args.bytes.now c.loop-at.at))
    c.first_pair-first.ensures (sym c.alike.ensures ∙ c.if-alike.false)

pub returns-clause-none : goal.returns-clause-none
returns-clause-none c = nowhere c.args.bytes.now c.args.field.now c.loop-at.at c.loop-at.invariant c.loop-at-test.false

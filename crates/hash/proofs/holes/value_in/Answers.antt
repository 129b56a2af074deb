use Rattle.std.proofs.Common.{◌≡◌, true, false, cond, None, sym, ap, ◌∙◌}
use Rattle.hash.proofs.HoleLemmas.{value-left, value_there}
use Rattle.hash.specs.Holed.{is_in}
use Rattle.hash.specs.Pairs.{value_of}
use Rattle.hash.proofs.holes.value_in.Goals as goal

pub returns-then-is_removed : goal.returns-then-is_removed
returns-then-is_removed c =
    let is : is_in c.args.removed.now.keys c.args.field.now ≡ true = sym c.is_removed.ensures ∙ c.if-is_removed.true in
    sym (value-left c.args.field.now c.args.removed.now.keys c.args.map.now.entries ∙ ap (λ b. cond b None (value_of c.args.map.now.entries c.args.field.now)) is)

pub returns : goal.returns
returns c =
    let left : is_in c.args.removed.now.keys c.args.field.now ≡ false = sym c.is_removed.ensures ∙ c.if-is_removed.false in
    c.get.ensures.value ∙ value_there c.args.map.now.entries c.args.removed.now.keys c.args.field.now left

use Rattle.std.proofs.Common.{◌<◌, ◌^◌, length, arith, ap, sym, ◌∙◌}
use Rattle.hash.specs.Pairs.{fields_changed}
use Rattle.hash.specs.Size.{size_of}
use Rattle.hash.proofs.Foreseen.{old_within, size_small, len_after, size_after}
use Rattle.hash.proofs.extent.extent_after.Goals as goal

pub changed-requires-clause-size : goal.changed-requires-clause-size
changed-requires-clause-size c = old_within _ _ _ _ _ c.in_ok-extent.ensures.foreseen c.in-Some.last.now.0 c.in-Some.last.now.1 _ c.value_now.ensures

pub changed-requires-clause-small : goal.changed-requires-clause-small
changed-requires-clause-small c =
    let few : length c.args.hash.now < 2 ^ 63 = omega (arith, c.len.ensures.len, c.len.ensures.small) in
    let some : length c.in-Some.earlier.now < 2 ^ 60 = omega (arith, c.in-Some.ensures.cases.1, c.if-prove.false) in
    size_small _ _ _ _ _ c.in_ok-extent.ensures.foreseen few some

pub returns-clause-len : goal.returns-clause-len
returns-clause-len c =
    len_after _ _ _ _ _ c.in_ok-extent.ensures.foreseen c.in-Some.last.now.0 c.in-Some.last.now.1 _ c.value_now.ensures _ c.as_ref.ensures.value _ _ c.changed.ensures.len c.changed.ensures.size
    ∙ ap (λ changes. length (fields_changed c.args.hash.now changes)) (sym c.in-Some.ensures.cases.0)

pub returns-clause-size : goal.returns-clause-size
returns-clause-size c =
    size_after _ _ _ _ _ c.in_ok-extent.ensures.foreseen c.in-Some.last.now.0 c.in-Some.last.now.1 _ c.value_now.ensures _ c.as_ref.ensures.value _ _ c.changed.ensures.len c.changed.ensures.size
    ∙ ap (λ changes. size_of (fields_changed c.args.hash.now changes)) (sym c.in-Some.ensures.cases.0)

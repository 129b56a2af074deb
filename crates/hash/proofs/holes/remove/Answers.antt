use Rattle.std.proofs.Common.{List, ℕ, [], sym, ap, ◌∙◌}
use Rattle.std.specs.Cmp.Lexicographic.{pointwise}
use Rattle.std.specs.Map.{remove_entry}
use Rattle.std.specs.Prelude.{nat_eq}
use Rattle.hash.proofs.HoleLemmas.{is_left, value_there, left-noted, left-removed, remove-missing}
use Rattle.hash.specs.Holed.{left_of}
use Rattle.hash.specs.Pairs.{Pairs}
use Rattle.hash.proofs.holes.remove.Goals as goal

pub returns-in_err-value_in-clause-pairs : goal.returns-in_err-value_in-clause-pairs
returns-in_err-value_in-clause-pairs c = sym (remove-missing (left_of c.args.map.now.entries c.args.removed.now.keys) c.args.field.now (sym c.in_err-value_in.ensures))

pub take_value-requires : goal.take_value-requires
take_value-requires c = (is_left c.args.map.now.entries c.args.removed.now.keys c.args.field.now c.in_ok-value_in.field-0.now c.in_ok-value_in.ensures).1

pub returns-in-Ok-clause-old : goal.returns-in-Ok-clause-old
returns-in-Ok-clause-old c =
    let there = is_left c.args.map.now.entries c.args.removed.now.keys c.args.field.now c.in_ok-value_in.field-0.now c.in_ok-value_in.ensures in
    c.take_value.ensures.old ∙ value_there c.args.map.now.entries c.args.removed.now.keys c.args.field.now there.0

pub returns-in-Ok-clause-pairs : goal.returns-in-Ok-clause-pairs
returns-in-Ok-clause-pairs c =
    let there = is_left c.args.map.now.entries c.args.removed.now.keys c.args.field.now c.in_ok-value_in.field-0.now c.in_ok-value_in.ensures in
    ap (λ (pairs : Pairs). left_of pairs c.note.new.removed.keys) c.take_value.ensures.pairs
    ∙ left-noted c.args.field.now c.args.removed.now.keys c.note.new.removed.keys c.in-Ok.ensures.others [] there.0 c.in-Ok.ensures.ok c.args.map.now.entries c.take_value.ensures.distinct

pub returns-in-Err-clause-old : goal.returns-in-Err-clause-old
returns-in-Err-clause-old c =
    let there = is_left c.args.map.now.entries c.args.removed.now.keys c.args.field.now c.in_ok-value_in.field-0.now c.in_ok-value_in.ensures in
    c.shift_remove.ensures.value ∙ value_there c.args.map.now.entries c.args.removed.now.keys c.args.field.now there.0

pub returns-in-Err-clause-pairs : goal.returns-in-Err-clause-pairs
returns-in-Err-clause-pairs c =
    let there = is_left c.args.map.now.entries c.args.removed.now.keys c.args.field.now c.in_ok-value_in.field-0.now c.in_ok-value_in.ensures in
    ap (λ (pairs : Pairs). left_of pairs c.note.new.removed.keys) c.shift_remove.ensures.entries
    ∙ ap (λ (removed : List (List ℕ)). left_of (remove_entry (pointwise nat_eq c.args.field.now) c.args.map.now.entries) removed) c.in-Err.ensures.err
    ∙ left-removed c.args.field.now c.args.removed.now.keys there.0 c.args.map.now.entries

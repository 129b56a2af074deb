use Rattle.std.proofs.Common.{◌≡◌, ◌∙◌, ◌++◌, ◌∷◌, [], append-nil, ap, sym, true, length, map, vec_len, arith}
use Rattle.std.proofs.lemmas.List.{nil_from_length}
use Rattle.std.specs.Result.{is_ok}
use Rattle.std.specs.Vec.Iter.{into_iter_items}
use Rattle.audit.specs.Gathered.{part_of}
use Rattle.audit.proofs.Moving.{moved}
use Rattle.audit.proofs.gathering.finish_all.Goals as goal

pub loop-cell-preserved : goal.loop-cell-preserved
loop-cell-preserved g c =
    let pushed : is_ok c.push.result ≡ true = sym c.in_ok-map_err.ensures.variant in
    let grown : c.push.new.self.items ≡ c.loop-cell.parts.items ++ c.of.result ∷ [] = rw pushed at c.push.ensures.items in
    let steps = c.in-Some.ensures.steps in
    record {
      parts = moved part_of _ _ _ c.in-Some.cell _ _ (rw c.of.ensures at grown) steps.0 c.loop-cell.invariant.parts;
      left = omega (arith, steps.1, c.loop-cell.invariant.left, ap length steps.0);
    }

pub returns : goal.returns
returns g c =
    let none : into_iter_items c.loop-cell.cell-iterator ≡ [] = nil_from_length _ (sym c.loop-cell.invariant.left ∙ c.in-None.ensures.steps.0) in
    sym (append-nil c.loop-cell.parts.items) ∙ (rw none at c.loop-cell.invariant.parts)

pub loop-cell-init : goal.loop-cell-init
loop-cell-init g c =
    let gives = c.into_iter-cell-iterator.ensures.into_iter_gives in
    let none = c.in_ok-parts.ensures.items in
    let counted : vec_len c.args.cells ≡ length c.args.cells.items = search (c.args.cells.ok) in
    record {
      parts = rw none (ap (map part_of) gives.0);
      left = gives.1 ∙ counted ∙ ap length (sym gives.0);
    }

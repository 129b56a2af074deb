use Rattle.std.proofs.Common.{rules}
use Rattle.std.proofs.lemmas.Result.{err_from_is_err_and}
use Rattle.resp2.proofs.LeafSteps.{line_is, line_fails, line_waits, line_found}
use Rattle.resp2.proofs.leaf.take_line.Goals as goal

pub returns-in_err-is_whole-clause-takes : goal.returns-in_err-is_whole-clause-takes
returns-in_err-is_whole-clause-takes c =
    let text = c.end_of_text-end.ensures in
    let line = line_is c.as_slice.result.now c.args.input.now.items c.end_of_text-end.result (search rules) text.mark text.within text.text text.stops in
    let fault = err_from_is_err_and c.from_residual.result c.from_residual.ensures.1 in
    rw (fault.1, fault.2) (λ _. line_fails c.as_slice-2.result.now c.args.input.now.items c.end_of_text-end.result _ line (search rules) c.in_err-is_whole.ensures.err)

pub returns-then-not-branch-clause-takes : goal.returns-then-not-branch-clause-takes
returns-then-not-branch-clause-takes c =
    let text = c.end_of_text-end.ensures in
    let line = line_is c.as_slice.result.now c.args.input.now.items c.end_of_text-end.result (search rules) text.mark text.within text.text text.stops in
    line_waits c.as_slice-2.result.now c.args.input.now.items c.end_of_text-end.result c.in_ok-is_whole.field-0 line (search rules) c.if-not-branch.true c.in_ok-is_whole.ensures.unfinished

pub returns-clause-takes : goal.returns-clause-takes
returns-clause-takes c =
    let text = c.end_of_text-end.ensures in
    let line = line_is c.as_slice.result.now c.args.input.now.items c.end_of_text-end.result (search rules) text.mark text.within text.text text.stops in
    line_found c.as_slice-2.result.now c.args.input.now.items _ _ c.end_of_text-end.result c.in_ok-is_whole.field-0 line (search rules) c.if-not-branch.false c.in_ok-is_whole.ensures.whole text.mark
    (search rules) c.advance.ensures.items

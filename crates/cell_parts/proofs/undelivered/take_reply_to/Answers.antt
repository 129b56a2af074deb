use Rattle.std.proofs.Common.{rules, ◌≡◌, ◌<◌, ◌∙◌, List, [], length, ap, sym, None, Some, get_or}
use Rattle.std.specs.Prelude.{position, slice_set}
use Rattle.std.proofs.lemmas.List.{get_or-set_same, length-set}
use Rattle.node_step.specs.declared.outputs.Release.{Release}
use Rattle.node_step.specs.Released.{reply_to, without_reply_to}
use Rattle.cell_parts.specs.Undelivered.{has_for, joined}
use Rattle.cell_parts.proofs.UndeliveredLemmas.{takes_at, no_length, takes_nothing, without_empty}
use Rattle.cell_parts.proofs.undelivered.take_reply_to.Goals as goal

pub returns-in_err-at-clause-reply : goal.returns-in_err-at-clause-reply
returns-in_err-at-clause-reply c =
    let none : position (has_for c.args.conn) c.args.undelivered.now.items ≡ None = search rules in
    let given : c.from_residual.result ≡ None = search rules in
    given ∙ (takes_nothing c.args.conn c.args.undelivered.now.items none).reply

pub returns-in_err-at-clause-left : goal.returns-in_err-at-clause-left
returns-in_err-at-clause-left c =
    let none : position (has_for c.args.conn) c.args.undelivered.now.items ≡ None = search rules in
    (takes_nothing c.args.conn c.args.undelivered.now.items none).left

pub returns-else-is_empty-clause-reply : goal.returns-else-is_empty-clause-reply
returns-else-is_empty-clause-reply c =
    let there : position (has_for c.args.conn) c.args.undelivered.now.items ≡ Some c.in_ok-at.at = search rules in
    let part_is : c.index_mut.result.now ≡ get_or c.args.undelivered.now.items c.in_ok-at.at c.index_mut.result.now = search rules in
    c.take-reply.ensures.reply ∙ ap (reply_to c.args.conn) part_is ∙ sym (takes_at c.args.conn c.args.undelivered.now.items c.in_ok-at.at c.index_mut.result.now there).reply

pub returns-then-is_empty-clause-reply : goal.returns-then-is_empty-clause-reply
returns-then-is_empty-clause-reply c =
    let there : position (has_for c.args.conn) c.args.undelivered.now.items ≡ Some c.in_ok-at.at = search rules in
    let part_is : c.index_mut.result.now ≡ get_or c.args.undelivered.now.items c.in_ok-at.at c.index_mut.result.now = search rules in
    c.take-reply.ensures.reply ∙ ap (reply_to c.args.conn) part_is ∙ sym (takes_at c.args.conn c.args.undelivered.now.items c.in_ok-at.at c.index_mut.result.now there).reply

pub returns-else-is_empty-clause-left : goal.returns-else-is_empty-clause-left
returns-else-is_empty-clause-left c =
    let there : position (has_for c.args.conn) c.args.undelivered.now.items ≡ Some c.in_ok-at.at = search rules in
    let part_is : c.index_mut.result.now ≡ get_or c.args.undelivered.now.items c.in_ok-at.at c.index_mut.result.now = search rules in
    ap (λ part. joined (slice_set c.args.undelivered.now.items c.in_ok-at.at part)) (c.take-reply.ensures.left ∙ ap (without_reply_to c.args.conn) part_is)
    ∙ sym (takes_at c.args.conn c.args.undelivered.now.items c.in_ok-at.at c.index_mut.result.now there).left

pub returns-then-is_empty-clause-left : goal.returns-then-is_empty-clause-left
returns-then-is_empty-clause-left c =
    let there : position (has_for c.args.conn) c.args.undelivered.now.items ≡ Some c.in_ok-at.at = search rules in
    let part_is : c.index_mut.result.now ≡ get_or c.args.undelivered.now.items c.in_ok-at.at c.index_mut.result.now = search rules in
    let within : c.in_ok-at.at < length c.args.undelivered.now.items = search rules in
    let shown : c.as_slice-2.result.now ≡ c.take-reply.new.self = search (rules, get_or-set_same) in
    let none : length c.as_slice-2.result.now ≡ 0 = search rules in
    let gone : c.take-reply.new.self ≡ [] = sym shown ∙ no_length c.as_slice-2.result.now none in
    let changed : List (List Release) = slice_set c.args.undelivered.now.items c.in_ok-at.at c.take-reply.new.self in
    ap joined c.remove-empty.ensures.items
    ∙ without_empty changed c.in_ok-at.at [] (search (rules, length-set)) (get_or-set_same c.args.undelivered.now.items c.in_ok-at.at c.take-reply.new.self [] within ∙ gone)
    ∙ ap (λ part. joined (slice_set c.args.undelivered.now.items c.in_ok-at.at part)) (c.take-reply.ensures.left ∙ ap (without_reply_to c.args.conn) part_is)
    ∙ sym (takes_at c.args.conn c.args.undelivered.now.items c.in_ok-at.at c.index_mut.result.now there).left

use Rattle.std.proofs.Common.{rules, ◌≡◌, ◌<◌, ◌≤◌, ◌==◌, ◌∙◌, length, not, ap, get_or, set}
use Rattle.std.specs.List.{filter}
use Rattle.std.proofs.lemmas.Fn.{filter_same}
use Rattle.node_step.specs.Released.{of_others}
use Rattle.cell_parts.specs.Undelivered.{joined}
use Rattle.cell_parts.proofs.UndeliveredLemmas.{all_done, one_more, others_of_each, without_empty_ones}
use Rattle.cell_parts.proofs.undelivered.forget_replies_to.Goals as goal

pub loop-at-preserved : goal.loop-at-preserved
loop-at-preserved c =
    let part_is : c.index_mut.result.now ≡ get_or c.loop-at.undelivered.items c.loop-at.at c.index_mut.result.now = search rules in
    let within : c.loop-at.at < length c.args.undelivered.now.items = search rules in
    record {
      parts = ap (λ part. set c.loop-at.undelivered.items c.loop-at.at part) (c.forget.ensures ∙ ap (of_others c.args.conn) part_is)
          ∙ one_more (of_others c.args.conn) c.args.undelivered.now.items c.loop-at.undelivered.items c.loop-at.at c.index_mut.result.now c.loop-at.invariant.parts within;
      room = search (rules, c.loop-at.invariant.room);
    }

pub returns-clause-others : goal.returns-clause-others
returns-clause-others c =
    let past : length c.args.undelivered.now.items ≤ c.loop-at.at = search rules in
    let filtered : c.retain.new.self.items ≡ filter (λ part. not (length part == 0)) c.loop-at.undelivered.items =
    filter_same _ _ _ (λ part b f called. search rules) _ _ c.retain.ensures.filtered in
    ap joined filtered ∙ without_empty_ones c.loop-at.undelivered.items ∙ ap joined (c.loop-at.invariant.parts ∙ all_done (of_others c.args.conn) c.args.undelivered.now.items c.loop-at.at past)
    ∙ others_of_each c.args.conn c.args.undelivered.now.items

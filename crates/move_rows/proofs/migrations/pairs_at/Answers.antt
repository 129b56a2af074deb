use Rattle.std.proofs.Common.{◌+◌, ◌++◌, [], ◌∷◌, take, ap, sym, ◌∙◌}
use Rattle.std.proofs.lemmas.List.{take_more}
use Rattle.std.specs.FinMap as fin_map
use Rattle.node_step.specs.State.{NodeState}
use Rattle.move_rows.proofs.NamingLemmas.{pairs_at-more}
use Rattle.move_rows.proofs.migrations.pairs_at.Goals as goal

pub loop-key-preserved : goal.loop-key-preserved
loop-key-preserved g c =
    let keys = c.args.keys.now in
    let i = c.loop-key.key-index in
    let more = take_more keys i c.key-item.result c.loop-key-test.true ∙ ap (λ key. take i keys ++ key ∷ []) (sym c.key-item.is) in
    c.in_ok-add_pair.ensures
    ∙ pairs_at-more c.args.node.now.keyspace (take i keys) (take (i + 1) keys) c.key-item.result _ _ more
    (c.get.ensures ∙ ap (λ (node : NodeState). fin_map.get node.keyspace c.key-item.result) c.node.view_is) c.loop-key.invariant

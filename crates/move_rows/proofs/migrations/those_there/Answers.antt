use Rattle.std.proofs.Common.{◌+◌, ◌++◌, [], ◌∷◌, take, ap, sym, ◌∙◌}
use Rattle.std.proofs.lemmas.List.{take_more}
use Rattle.std.specs.FinMap as fin_map
use Rattle.std.specs.Prelude.{is_some}
use Rattle.node_step.specs.State.{NodeState}
use Rattle.move_rows.proofs.NamingLemmas.{there-copied, those_there-more}
use Rattle.move_rows.proofs.migrations.those_there.Goals as goal

pub loop-key-preserved : goal.loop-key-preserved
loop-key-preserved g c =
    let named = c.args.named.now in
    let i = c.loop-key.key-index in
    let more = take_more named i c.key-item.result c.loop-key-test.true ∙ ap (λ key. take i named ++ key ∷ []) (sym c.key-item.is) in
    c.in_ok-add_named.ensures
    ∙ those_there-more c.args.node.now.keyspace (take i named) (take (i + 1) named) c.key-item.result _ _ more
    (c.is_some-is_there.ensures ∙ there-copied c.get.result ∙ ap is_some (c.get.ensures ∙ ap (λ (node : NodeState). fin_map.get node.keyspace c.key-item.result) c.node.view_is)) c.loop-key.invariant

use Rattle.std.proofs.Common.{rules, arith}
use Rattle.std.specs.Prelude.{IsTrue}
use Rattle.std.proofs.lemmas.List.{map_more}
use Rattle.config_text.specs.Reading.{node_of}
use Rattle.std.proofs.lemmas.List.Elements.{All-push, All-same}
use Rattle.cluster_config.specs.Texts.{is_host}
use Rattle.cluster_config.specs.declared.config.NodeConfig.{NodeConfig}
use Rattle.config_text.proofs.building.nodes_of.Goals as goal

pub loop-draft-preserved : goal.loop-draft-preserved
loop-draft-preserved c =
    let more = map_more (node_of c.args.drafts.now) c.args.drafts.now c.loop-draft.draft-index c.draft-item.result (omega arith) in
    let is_reached = λ (node : NodeConfig). IsTrue (is_host node.host) in
    record {
      nodes = search rules;
      hosts = All-same is_reached _ _ (search rules) (All-push is_reached c.loop-draft.nodes.items (node_of c.args.drafts.now c.draft-item.result) c.loop-draft.invariant.hosts (search rules));
    }

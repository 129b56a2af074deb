use Rattle.std.proofs.Common.{◌≡◌, map, take}
use Rattle.std.specs.Prelude.{All, IsTrue}
use Rattle.config_text.specs.Reading.{node_of}
use Rattle.cluster_config.specs.Texts.{is_host}
use Rattle.cluster_config.specs.declared.config.NodeConfig.{NodeConfig}
use Rattle.config_text.proofs.building.nodes_of.Given as goal

abbrev pub invariant-loop-draft : goal.invariant-loop-draft
invariant-loop-draft l = record {
  nodes : l.nodes.items ≡ map (node_of l.drafts) (take l.draft-index l.drafts);
  hosts : All (λ (node : NodeConfig). IsTrue (is_host node.host)) l.nodes.items;
}

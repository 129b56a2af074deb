-- The owners of the slots, node by node.
use Rattle.std.proofs.Common.{◌≡◌, sym, ◌∙◌, ap, ℕ, ◌+◌, ◌<◌, List, ◌++◌, length, get_or, drop, append_assoc}
use Rattle.std.proofs.lemmas.List.{at_drop_more}
use Rattle.slot_table.specs.declared.runs.Run.{Run}
use Rattle.cluster_config.specs.declared.config.NodeConfig.{NodeConfig}
use Rattle.cluster_config.specs.Config.{runs_of, owners_from}

-- the slots of one more node
pub owners_more : (runs : List (Run ℕ)) (nodes : List NodeConfig) (i : ℕ) (node : NodeConfig) → i < length nodes → node ≡ get_or nodes i node
    → (runs ++ runs_of i node.role) ++ owners_from (i + 1) (drop (i + 1) nodes) ≡ runs ++ owners_from i (drop i nodes)
owners_more runs nodes i node lt is =
    append_assoc runs (runs_of i node.role) (owners_from (i + 1) (drop (i + 1) nodes))
    ∙ ap (λ (n : NodeConfig). runs ++ (runs_of i n.role ++ owners_from (i + 1) (drop (i + 1) nodes))) is
    ∙ ap (λ (rest : List (Run ℕ)). runs ++ rest) (sym (at_drop_more (owners_from i) nodes i node lt))

-- What a text is read as (ours).
use Rattle.std.specs.Prelude.{ℕ, List, map, Option, Some, None, option_and_then, Result, Ok, Err, nat_abs, if◌then◌else◌}
use Rattle.std.specs.List.{filter_map}
use Rattle.std.specs.Str.{is_utf8}
use Rattle.serde_json.specs.Data.{Data}
use Rattle.serde_json.specs.Read as json
use Rattle.cluster_config.specs.Config.{ClusterConfig}
use Rattle.config_text.specs.Faults.{fault_of, number_of, range_from}
use Rattle.config_text.specs.Form.{draft_in}
use Rattle.cluster_config.specs.declared.config.NodeConfig.{NodeConfig}
use Rattle.cluster_config.specs.declared.config.Role.{Role}
use Rattle.cluster_config.specs.declared.config.Role.TheVariants.{Master, Replica}
use Rattle.config_text.specs.declared.fault.ConfigFault.{ConfigFault}
use Rattle.config_text.specs.declared.fault.ConfigFault.TheVariants as fault
use Rattle.config_text.specs.declared.form.Draft.{Draft}
use Rattle.config_text.specs.declared.form.NodeDraft.{NodeDraft}
use Rattle.config_text.specs.declared.form.RoleDraft.{RoleDraft}
use Rattle.config_text.specs.declared.form.RoleDraft.TheVariants.{Slots, ReplicaOf}

-- a master with its slots, or a replica with the number of its master
abbrev pub role_of : List NodeDraft → RoleDraft → Role
role_of nodes (Slots slots) = Master (filter_map range_from slots)
role_of nodes (ReplicaOf id) = Replica (number_of nodes id)

-- a node with its role
abbrev pub node_of : List NodeDraft → NodeDraft → NodeConfig
node_of nodes node = record { id = node.id; host = node.host; port = nat_abs node.port; role = role_of nodes node.role }

-- the cluster that a text without fault describes, with the numbers of those that vote
unfoldable pub config_of : Draft → ClusterConfig
config_of draft = record {
  tick_ms = nat_abs draft.tick_ms;
  node_timeout = nat_abs draft.node_timeout;
  backlog = nat_abs draft.backlog;
  nodes = map (node_of draft.nodes) draft.nodes;
  voters = map (number_of draft.nodes) draft.voters;
}

-- the cluster, unless there is a fault
abbrev pub unless_faulty : Draft → Option ConfigFault → Result ClusterConfig ConfigFault
unless_faulty draft None = Ok (config_of draft)
unless_faulty draft (Some fault) = Err fault

-- what a text of that form describes; any other is no configuration
abbrev pub read_draft : Option Draft → Result ClusterConfig ConfigFault
read_draft None = Err fault.Syntax
read_draft (Some draft) = unless_faulty draft (fault_of draft)

-- the JSON value that a text is
abbrev pub value_of : List ℕ → Option Data
value_of text = if is_utf8 text then json.read text else None

-- the cluster that a text describes, or else the first thing that is wrong with it
abbrev pub read : List ℕ → Result ClusterConfig ConfigFault
read text = read_draft (option_and_then draft_in (value_of text))

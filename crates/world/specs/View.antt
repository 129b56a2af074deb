-- A world of nodes (ours).
use Rattle.std.specs.Prelude.{Bool, false, List, [], All}
use Rattle.cluster_config.specs.Config.{ClusterConfig}
use Rattle.world_nodes.specs.Nodes.{RemembersSent, RunView, first_run}
use Rattle.world.specs.Clients.{ClientView, IsSettled}

-- a cluster's nodes, and its clients by rising number
pub record SceneView : Type 0 where
  pub config : ClusterConfig
  pub run : RunView
  pub clients : List ClientView

-- whether memory was refused
pub record WorldView : Type 0 where
  pub scene : SceneView
  pub refused : Bool

-- ---- the start

abbrev pub first_scene : ClusterConfig → SceneView
first_scene config = record { config = config; run = first_run config; clients = [] }

abbrev pub first_world : ClusterConfig → WorldView
first_world config = record { scene = first_scene config; refused = false }

-- ---- what holds as long as memory wasn't refused

-- the messages are those that the nodes sent, and each client waits for what is under way
pub record IsWhole (scene : SceneView) : Type 0 where
  pub remembers : RemembersSent scene.run
  pub settled : All IsSettled scene.clients

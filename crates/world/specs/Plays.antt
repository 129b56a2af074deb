-- What comes of a step of a world (ours).
use Rattle.std.specs.Prelude.{◌≡◌, ◌++◌, ◌∷◌, ℕ, true, List, [], map, Option, Some, None, MatchBool, slice_get, slice_set}
use Rattle.std.specs.List.{flat_map}
use Rattle.world_nodes.specs.NodeSteps.{Administers, Delivers, Ticks}
use Rattle.world_nodes.specs.Nodes.{RunView, is_up}
use Rattle.world_nodes.specs.declared.output.Output.{Output}
use Rattle.world_nodes.specs.declared.output.Output.TheVariants as output
use Rattle.world.specs.Calls.{Begins, Carries, Cuts, Lingers, Returns}
use Rattle.world.specs.Clients.{ClientView, client_at, lost_at, place_of, stopped_at, with_client}
use Rattle.world.specs.View.{SceneView}
use Rattle.world.specs.declared.step.Step.{Step}
use Rattle.world.specs.declared.step.Step.TheVariants as step

-- ---- there was nothing to do

pub record IsNothing (old : SceneView) (outputs : List Output) (new : SceneView) : Type 0 where
  pub unchanged : new ≡ old
  pub shows : outputs ≡ output.Nothing ∷ []

-- ---- steps of nodes

-- no client has a part in it
pub record IsOfNodes (does : RunView → List Output → RunView → Type 0) (old : SceneView) (outputs : List Output) (new : SceneView) : Type 0 where
  pub run : RunView
  pub steps : does old.run outputs run
  pub is : new ≡ record old { run = run }

-- the node makes no step from then on: its connections break, with what was under way on them
pub record IsStopping (old : SceneView) (node : ℕ) (outputs : List Output) (new : SceneView) : Type 0 where
  pub stops : new ≡ record old {
    run = record old.run { stopped = slice_set old.run.stopped node true };
    clients = map (stopped_at node) old.clients;
  }
  pub shows : outputs ≡ flat_map (lost_at node) old.clients

-- ---- steps of a client

abbrev pub ClientStep : Type 1
ClientStep = RunView → ClientView → List Output → RunView → ClientView → Type 0

-- the client at the place among these has its part in it
pub record IsOfClient (does : ClientStep) (clients : List ClientView) (place : ℕ) (old : SceneView) (outputs : List Output) (new : SceneView) : Type 0 where
  pub client : ClientView
  pub was : slice_get clients place ≡ Some client
  pub run : RunView
  pub after : ClientView
  pub steps : does old.run client outputs run after
  pub is : new ≡ record old { run = run; clients = slice_set clients place after }

-- the client with the number, if it began
abbrev pub IsOfSome : ClientStep → ℕ → Option ClientView → SceneView → List Output → SceneView → Type 0
IsOfSome does number None old outputs new = IsNothing old outputs new
IsOfSome does number (Some client) old outputs new = IsOfClient does old.clients (place_of number old.clients) old outputs new

abbrev pub IsOf : ClientStep → ℕ → SceneView → List Output → SceneView → Type 0
IsOf does number old outputs new = IsOfSome does number (client_at number old.clients) old outputs new

-- ---- steps of a world

-- by the step
abbrev pub Plays : SceneView → Step → List Output → SceneView → Type 0
Plays old (step.Call number words) outputs new =
    IsOfClient (Begins old.config.nodes words) (with_client old.config number old.clients) (place_of number old.clients) old outputs new
Plays old (step.Carry number) outputs new = IsOf Carries number old outputs new
Plays old (step.Return number) outputs new = IsOf (Returns old.config.nodes) number old outputs new
Plays old (step.Cut number) outputs new = IsOf Cuts number old outputs new
Plays old (step.Late number) outputs new = IsOf Lingers number old outputs new
Plays old (step.Admin node words) outputs new =
    IsOfNodes (λ (run : RunView) (shown : List Output) (after : RunView). Administers run node words shown after) old outputs new
Plays old (step.Tick node) outputs new = IsOfNodes (λ (run : RunView) (shown : List Output) (after : RunView). Ticks run node shown after) old outputs new
Plays old (step.Stop node) outputs new = MatchBool (is_up old.run node) (IsStopping old node outputs new) (IsNothing old outputs new)
Plays old (step.Deliver number) outputs new = IsOfNodes (λ (run : RunView) (shown : List Output) (after : RunView). Delivers run number shown after) old outputs new

-- steps one after another, with the outputs of them all
abbrev pub PlaysAll : SceneView → List Step → List Output → SceneView → Type 0
PlaysAll old [] outputs new = (outputs ≡ []) × (new ≡ old)
PlaysAll old (first ∷ steps) outputs new =
    (next : SceneView) × (shown : List Output) × (others : List Output) × Plays old first shown next × PlaysAll next steps others new × (outputs ≡ shown ++ others)

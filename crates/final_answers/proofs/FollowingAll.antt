-- Whatever a world plays, all its clients can follow what they are answered.
use Rattle.std.proofs.Common.{◌≡◌, ◌+◌, ◌∙◌, ◌∷◌, ℕ, zero, suc, Bool, true, false, List, [], Option, None, Some, insert, length, map, refl, sym, ap, subst}
use Rattle.std.proofs.lemmas.List.{length-replicate}
use Rattle.std.specs.List.{AllByRecursion, range_with_len}
use Rattle.std.specs.Prelude.{MatchBool, nat_le, slice_get, slice_set}
use Rattle.cluster_config.proofs.PlaceLemmas.{position-le}
use Rattle.cluster_config.specs.Config.{ClusterConfig, IsCluster}
use Rattle.cluster_config.specs.declared.config.NodeConfig.{NodeConfig}
use Rattle.node_step.specs.State.{first_state}
use Rattle.single_keyspace.proofs.Seen.{no_some, same_some}
use Rattle.world_nodes.specs.Nodes.{RunView, is_up}
use Rattle.world_nodes.specs.declared.output.Output.{Output}
use Rattle.world.proofs.Playing.{of_call_so}
use Rattle.world.specs.Asking.{AllAskWell, AsksWell, KeepsRule}
use Rattle.world.specs.Calls.{Begins}
use Rattle.world.specs.Clients.{ClientView, begun_at, client_at, new_client, place_of, stopped_at, with_client}
use Rattle.world.specs.Plays.{ClientStep, IsNothing, IsOfClient, IsOfNodes, IsOfSome, IsStopping, Plays}
use Rattle.world.specs.View.{SceneView, first_scene}
use Rattle.world.specs.declared.client.Traffic.TheVariants.{Quiet}
use Rattle.world.specs.declared.step.Step.{Step}
use Rattle.world.specs.declared.step.Step.TheVariants as step
use Rattle.final_answers.proofs.Following.{FollowsWell, Goes, begins_well, cuts_well, follows_still, lingers_well, returns_well, stops_well}
use Rattle.final_answers.proofs.Hearing.{carries_well}
use Rattle.final_answers.proofs.Kept.{AllNameable, Keeps, administers_keeps, delivers_keeps, stops_keep, ticks_keeps}
use Rattle.final_answers.proofs.Linked.{first_kept}
use Rattle.final_answers.proofs.MoveNumbers.{HasNameable, first_nameable}
use Rattle.final_answers.proofs.ClientPlaces.{asks_at, inserted_at}

pub record AllFollowWell (scene : SceneView) : Type 0 where
  pub nameable : AllNameable scene.run.nodes
  pub clients : AllByRecursion (FollowsWell scene.config.nodes scene.run) scene.clients

-- ---- clients one by one

abbrev AllSo : List NodeConfig → RunView → List ClientView → Type 0
AllSo nodes run clients = AllByRecursion (FollowsWell nodes run) clients

all_still : (nodes : List NodeConfig) (old new : RunView) → Keeps old new → (clients : List ClientView) → AllSo nodes old clients → AllSo nodes new clients
all_still nodes old new keeps [] all = tt
all_still nodes old new keeps (client ∷ clients) all = (follows_still nodes old new keeps client all.0, all_still nodes old new keeps clients all.1)

pub well_at : (nodes : List NodeConfig) (run : RunView) (clients : List ClientView) (place : ℕ) (client : ClientView) → slice_get clients place ≡ Some client → AllSo nodes run clients → FollowsWell nodes run client
well_at nodes run [] place client is all = absurd (no_some refl is)
well_at nodes run (first ∷ clients) zero client is all = subst (FollowsWell nodes run) (same_some refl is) all.0
well_at nodes run (first ∷ clients) (suc place) client is all = well_at nodes run clients place client is all.1

one_goes : (nodes : List NodeConfig) (old new : RunView) (after : ClientView) → Goes nodes old new after → (clients : List ClientView) (place : ℕ) → AllSo nodes old clients → AllSo nodes new (slice_set clients place after)
one_goes nodes old new after goes [] place all = tt
one_goes nodes old new after goes (first ∷ clients) zero all = (goes.well, all_still nodes old new goes.keeps clients all.1)
one_goes nodes old new after goes (first ∷ clients) (suc place) all = (follows_still nodes old new goes.keeps first all.0, one_goes nodes old new after goes clients place all.1)

-- a client that begins
module _ (config : ClusterConfig) (cluster_is : IsCluster config) (run : RunView) (number : ℕ) where
  pub new_follows : FollowsWell config.nodes run (new_client config number)
  new_follows = record { kept = first_kept config cluster_is run (new_client config number).pool (slice_get config.nodes 0) refl cluster_is.some; led = tt }

  inserted : (clients : List ClientView) (place : ℕ) → AllSo config.nodes run clients → AllSo config.nodes run (insert clients place (new_client config number))
  inserted clients zero all = (new_follows, all)
  inserted [] (suc place) all = (new_follows, tt)
  inserted (client ∷ clients) (suc place) all = (all.0, inserted clients place all.1)

  begun : (clients : List ClientView) → AllSo config.nodes run clients → AllSo config.nodes run (with_client config number clients)
  begun clients all = by_found (client_at number clients)
    where
      by_found : (found : Option ClientView) → AllSo config.nodes run (begun_at config number clients found)
      by_found (Some client) = all
      by_found None = inserted clients (place_of number clients) all

-- ---- all steps

module _ (old : SceneView) (cluster_is : IsCluster old.config) (rule : KeepsRule old) (well : AllFollowWell old) (shown : List Output) (new : SceneView) where
  of_nodes : (does : RunView → List Output → RunView → Type 0) → ((run : RunView) → does old.run shown run → Keeps old.run run) → IsOfNodes does old shown new → AllFollowWell new
  of_nodes does keeps of =
      let kept = keeps of.run of.steps in
      subst AllFollowWell (sym of.is) (record { nameable = kept.nameable well.nameable; clients = all_still old.config.nodes old.run of.run kept old.clients well.clients })

  nothing_to_do : IsNothing old shown new → AllFollowWell new
  nothing_to_do idle = subst AllFollowWell (sym idle.unchanged) well

  of_some : (does : ClientStep) (number : ℕ)
      → ((client : ClientView) (run : RunView) (after : ClientView) → AsksWell old.config.nodes old.run client → FollowsWell old.config.nodes old.run client → does old.run client shown run after → Goes old.config.nodes old.run run after)
      → (found : Option ClientView) → IsOfSome does number found old shown new → AllFollowWell new
  of_some does number goes None idle = nothing_to_do idle
  of_some does number goes (Some client) of =
      let at = place_of number old.clients in
      let done = goes of.client of.run of.after (asks_at old.config.nodes old.run old.clients at of.client of.was rule.clients) (well_at old.config.nodes old.run old.clients at of.client of.was well.clients) of.steps in
      subst AllFollowWell (sym of.is) (record { nameable = done.keeps.nameable well.nameable; clients = one_goes old.config.nodes old.run of.run of.after done old.clients at well.clients })

  -- a call: of a client that has begun, or that begins
  of_call : (number : ℕ) (words : List (List ℕ)) → IsOfClient (Begins old.config.nodes words) (with_client old.config number old.clients) (place_of number old.clients) old shown new → AllFollowWell new
  of_call number words of =
      let all = begun old.config cluster_is old.run number old.clients well.clients in
      let follows : FollowsWell old.config.nodes old.run of.client = well_at old.config.nodes old.run (with_client old.config number old.clients) (place_of number old.clients) of.client of.was all in
      let done = by_found follows (client_at number old.clients) of.was in
      subst AllFollowWell (sym of.is)
      (record { nameable = done.keeps.nameable well.nameable; clients = one_goes old.config.nodes old.run of.run of.after done (with_client old.config number old.clients) (place_of number old.clients) all })
    where
      goes : FollowsWell old.config.nodes old.run of.client → (of.client.traffic ≡ Quiet → of.client.core.call ≡ None) → length of.client.pool ≡ length old.run.nodes → Goes old.config.nodes old.run of.run of.after
      goes follows settled places = begins_well old.config cluster_is old.run of.run of.client of.after shown words follows settled places of.steps

      by_found : FollowsWell old.config.nodes old.run of.client → (found : Option ClientView) → slice_get (begun_at old.config number old.clients found) (place_of number old.clients) ≡ Some of.client
          → Goes old.config.nodes old.run of.run of.after
      by_found follows (Some client) at =
          let asks = asks_at old.config.nodes old.run old.clients (place_of number old.clients) of.client at rule.clients in
          goes follows (λ quiet. of_call_so old.config.nodes old.run of.client Quiet quiet asks of.client.core.call refl) asks.connected.places
      by_found follows None at =
          let within = position-le (λ (client : ClientView). nat_le number client.number) old.clients in
          let same : new_client old.config number ≡ of.client = same_some (inserted_at old.clients (place_of number old.clients) (new_client old.config number) within) at in
          goes follows (λ quiet. ap (λ (c : ClientView). c.core.call) (sym same))
          (ap (λ (c : ClientView). length c.pool) (sym same) ∙ length-replicate (length old.config.nodes) None ∙ sym rule.nodes)

  of_stop : (node : ℕ) (up : Bool) → MatchBool up (IsStopping old node shown new) (IsNothing old shown new) → AllFollowWell new
  of_stop node false idle = nothing_to_do idle
  of_stop node true stopping =
      let run : RunView = record old.run { stopped = slice_set old.run.stopped node true } in
      let keeps = stops_keep old.run (slice_set old.run.stopped node true) in
      subst AllFollowWell (sym stopping.stops)
      (record { nameable = keeps.nameable well.nameable; clients = all_still old.config.nodes old.run run keeps (map (stopped_at node) old.clients) (all_stopped old.clients rule.clients well.clients) })
    where
      all_stopped : (clients : List ClientView) → AllAskWell old.config.nodes old.run clients → AllSo old.config.nodes old.run clients → AllSo old.config.nodes old.run (map (stopped_at node) clients)
      all_stopped [] asks all = tt
      all_stopped (client ∷ clients) asks all = (stops_well old.config cluster_is old.run old.run client client shown asks.0 all.0 node, all_stopped clients asks.2 all.1)

  pub plays_followed : (made : Step) → Plays old made shown new → AllFollowWell new
  plays_followed (step.Call number words) plays = of_call number words plays
  plays_followed (step.Carry number) plays =
      of_some _ number (λ client run after asks follows carries. carries_well old.config cluster_is old.run run rule.configs well.nameable client after shown asks follows carries) (client_at number old.clients) plays
  plays_followed (step.Return number) plays =
      of_some _ number (λ client run after asks follows returns. returns_well old.config cluster_is old.run run client after shown asks follows returns) (client_at number old.clients) plays
  plays_followed (step.Cut number) plays =
      of_some _ number (λ client run after asks follows cuts. cuts_well old.config cluster_is old.run run client after shown asks follows cuts) (client_at number old.clients) plays
  plays_followed (step.Late number) plays =
      of_some _ number (λ client run after asks follows lingers. lingers_well old.config cluster_is old.run run client after shown asks follows lingers) (client_at number old.clients) plays
  plays_followed (step.Admin node words) of = of_nodes _ (λ run steps. administers_keeps old.run run node words shown steps) of
  plays_followed (step.Tick node) of = of_nodes _ (λ run steps. ticks_keeps old.run run node shown steps) of
  plays_followed (step.Stop node) plays = of_stop node (is_up old.run node) plays
  plays_followed (step.Deliver number) of = of_nodes _ (λ run steps. delivers_keeps old.run run number shown steps) of

-- ---- the start

all_first : (config : ClusterConfig) (first count : ℕ) → AllNameable (map (first_state config) (range_with_len first count))
all_first config first zero number node is = absurd (no_some refl is)
all_first config first (suc count) zero node is = subst HasNameable (same_some refl is) (first_nameable config first)
all_first config first (suc count) (suc number) node is = all_first config (first + 1) count number node is

pub first_followed : (config : ClusterConfig) → AllFollowWell (first_scene config)
first_followed config = record { nameable = all_first config 0 (length config.nodes); clients = tt }

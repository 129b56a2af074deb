-- In each step of a world, all clients go on asking well.
use Rattle.std.proofs.Common.{◌≡◌, ◌∙◌, ◌+◌, ◌∷◌, ℕ, zero, suc, Bool, true, false, List, [], Option, None, Some, get_or, insert, length, map, replicate, refl, sym, ap, subst, inl, inr}
use Rattle.std.proofs.lemmas.List.{length-replicate}
use Rattle.std.proofs.lemmas.List.FromFn.{length-map-range_with_len}
use Rattle.std.specs.List.{AllByRecursion, range_with_len}
use Rattle.std.specs.Prelude.{◌&&◌, MatchBool, slice_get, slice_set}
use Rattle.bus.specs.declared.message.Message.{Message}
use Rattle.cluster_config.specs.Config.{ClusterConfig, IsCluster}
use Rattle.cluster_config.specs.declared.config.NodeConfig.{NodeConfig}
use Rattle.node_step.specs.State.{NodeState, first_state}
use Rattle.node_step.specs.declared.event.Event.{Event}
use Rattle.node_step.specs.declared.event.Event.TheVariants.{Request, Deliver, Tick}
use Rattle.node_step.specs.declared.outputs.Outputs.{Outputs}
use Rattle.single_keyspace.proofs.Lists.{contains_nothing}
use Rattle.single_keyspace.proofs.Seen.{no_some, same_some}
use Rattle.world_run.specs.Run.Deed.{Made}
use Rattle.world_nodes.specs.Allowed.{IsKnown}
use Rattle.world_nodes.specs.NodeSteps.{Administers, Delivers, IsAdministered, IsAsked, IsDelivered, IsHeard, IsIdle, Reaches, Ticks, Turns, is_admin, message_at, served_conns}
use Rattle.world_nodes.specs.Nodes.{HaveConfig, RunView, is_up}
use Rattle.world_nodes.specs.declared.link.Link.{Link}
use Rattle.world_nodes.specs.declared.output.Output.{Output}
use Rattle.world_nodes.proofs.Leaving.{ChangedBy, Leaves, closes_leaves, enters_leaves, leaves_all, leaves_further, leaves_more, leaves_none, none_changed, opened_is_fresh, opens_leaves, skips_leaves}
use Rattle.world.specs.Asking.{AllReady, AreReady, AllAskWell, AreApart, AsksWell, Holds, KeepsRule, MayBeCarried, MayLinger}
use Rattle.world.specs.Clients.{ClientView, begun_at, client_at, new_client, place_of, stopped_at, with_client}
use Rattle.world.specs.Plays.{ClientStep, IsNothing, IsOfClient, IsOfNodes, IsOfSome, IsStopping, Plays}
use Rattle.world.specs.View.{SceneView, first_scene}
use Rattle.world.specs.declared.step.Step.{Step}
use Rattle.world.specs.declared.step.Step.TheVariants as step
use Rattle.world.proofs.Playing.{PartOf, begins_well_so, carried_if_asked, carries_well, cuts_well, lingers_if_left, lingers_well, returns_well, stops_held, stops_well}
use Rattle.world.proofs.Readying.{Readies, Unknown, administers_readies, delivers_readies, ticks_readies}
use Rattle.world.proofs.ReadyParts.{ReadyPartOf, begins_ready, carries_ready, cuts_ready, lingers_ready, returns_ready, stopped_ready}
use Rattle.world.proofs.Stays.{asks_stays}

-- ---- clients apart from each other

pub known_of : (nodes : List NodeConfig) (run : RunView) (client : ClientView) → AsksWell nodes run client → (link : Link) → Holds client link → IsKnown run link
known_of nodes run client asks link (inl is) = (asks.connected.idle link is).known
known_of nodes run client asks link (inr cut) = subst (IsKnown run) cut.2 (asks.connected.left cut.0 cut.1).known

turned : (client other : ClientView) → AreApart client other → AreApart other client
turned client other apart link one two = apart link two one

module _ (nodes : List NodeConfig) (old new : RunView) (client after : ClientView) (part : PartOf nodes old client new after) where
  -- a client that is apart from this one

  stays : (other : ClientView) → AreApart client other → AsksWell nodes old other → AsksWell nodes new other
  stays other apart asks = asks_stays (Holds client) old new part.leaves nodes other (λ link held is. apart link is held) asks

  apart_then : (other : ClientView) → AreApart client other → AsksWell nodes old other → AreApart after other
  apart_then other apart asks link held too =
      elim (part.holds link held) [
        | inl among ↦ apart link among too
        | inr unknown ↦ unknown (known_of nodes old other asks link too)
      ]

  all_stay : (others : List ClientView) → AllByRecursion (AreApart client) others → AllAskWell nodes old others → AllAskWell nodes new others
  all_stay [] apart all = tt
  all_stay (other ∷ others) apart all = (stays other apart.0 all.0, all.1, all_stay others apart.1 all.2)

  all_apart_then : (others : List ClientView) → AllByRecursion (AreApart client) others → AllAskWell nodes old others → AllByRecursion (AreApart after) others
  all_apart_then [] apart all = tt
  all_apart_then (other ∷ others) apart all = (apart_then other apart.0 all.0, all_apart_then others apart.1 all.2)

  -- one that is apart from all is so from this client
  apart_from_this : (one : ClientView) (others : List ClientView) (place : ℕ) → slice_get others place ≡ Some client → AllByRecursion (AreApart one) others → AreApart one client
  apart_from_this one [] place is apart = absurd (no_some refl is)
  apart_from_this one (other ∷ others) zero is apart = subst (AreApart one) (same_some refl is) apart.0
  apart_from_this one (other ∷ others) (suc place) is apart = apart_from_this one others place is apart.1

  apart_with_this : (one : ClientView) (others : List ClientView) (place : ℕ) → slice_get others place ≡ Some client → AreApart one after → AllByRecursion (AreApart one) others
      → AllByRecursion (AreApart one) (slice_set others place after)
  apart_with_this one [] place is also apart = tt
  apart_with_this one (other ∷ others) zero is also apart = (also, apart.1)
  apart_with_this one (other ∷ others) (suc place) is also apart = (apart.0, apart_with_this one others place is also apart.1)

  pub one_steps : (clients : List ClientView) (place : ℕ) → slice_get clients place ≡ Some client → AllAskWell nodes old clients → AllAskWell nodes new (slice_set clients place after)
  one_steps [] place is all = tt
  one_steps (first ∷ clients) zero is all =
      let apart : AllByRecursion (AreApart client) clients = subst (λ (c : ClientView). AllByRecursion (AreApart c) clients) (same_some refl is) all.1 in
      (part.asks, all_apart_then clients apart all.2, all_stay clients apart all.2)
  one_steps (first ∷ clients) (suc place) is all =
      let apart : AreApart client first = turned first client (apart_from_this first clients place is all.1) in (
        stays first apart all.0,
        apart_with_this first clients place is (turned after first (apart_then first apart all.0)) all.1,
        one_steps clients place is all.2,
      )

-- ---- steps of nodes

-- the connections of clients that are apart from the one that takes part stay ready
module _ (nodes : List NodeConfig) (old new : RunView) (client after : ClientView) (part : ReadyPartOf old client new after) where
  stays_ready : (other : ClientView) → AreApart client other → AsksWell nodes old other → AreReady old other.pool → AreReady new other.pool
  stays_ready other apart asks ready link is =
      elim (part.others link (ready link is)) [
        | inl still ↦ still
        | inr lost ↦
            elim lost [
              | inl among ↦ absurd (apart link among (inl is))
              | inr unknown ↦ absurd (unknown (known_of nodes old other asks link (inl is)))
            ]
      ]

  all_stay_ready : (others : List ClientView) → AllByRecursion (AreApart client) others → AllAskWell nodes old others → AllReady old others → AllReady new others
  all_stay_ready [] apart all ready = tt
  all_stay_ready (other ∷ others) apart all ready = (stays_ready other apart.0 all.0 ready.0, all_stay_ready others apart.1 all.2 ready.1)

  is_apart : (one : ClientView) (others : List ClientView) (place : ℕ) → slice_get others place ≡ Some client → AllByRecursion (AreApart one) others → AreApart one client
  is_apart one [] place is apart = absurd (no_some refl is)
  is_apart one (other ∷ others) zero is apart = subst (AreApart one) (same_some refl is) apart.0
  is_apart one (other ∷ others) (suc place) is apart = is_apart one others place is apart.1

  pub one_steps_ready : (clients : List ClientView) (place : ℕ) → slice_get clients place ≡ Some client → AllAskWell nodes old clients → AllReady old clients → AllReady new (slice_set clients place after)
  one_steps_ready [] place is all ready = tt
  one_steps_ready (first ∷ clients) zero is all ready =
      let apart : AllByRecursion (AreApart client) clients = subst (λ (c : ClientView). AllByRecursion (AreApart c) clients) (same_some refl is) all.1 in
      (part.own, all_stay_ready clients apart all.2 ready.1)
  one_steps_ready (first ∷ clients) (suc place) is all ready =
      let apart : AreApart client first = turned first client (is_apart first clients place is all.1) in
      (stays_ready first apart all.0 ready.0, one_steps_ready clients place is all.2 ready.1)

pub none_steps : (nodes : List NodeConfig) (old new : RunView) → Leaves (Unknown old) old new → (clients : List ClientView) → AllAskWell nodes old clients → AllAskWell nodes new clients
none_steps nodes old new leaves [] all = tt
none_steps nodes old new leaves (client ∷ clients) all = (
  asks_stays (Unknown old) old new leaves nodes client (λ link held unknown. unknown (known_of nodes old client all.0 link held)) all.0,
  all.1,
  none_steps nodes old new leaves clients all.2,
)

none_steps_ready : (nodes : List NodeConfig) (old new : RunView) → Readies (Unknown old) old new → (clients : List ClientView) → AllAskWell nodes old clients → AllReady old clients → AllReady new clients
none_steps_ready nodes old new readies [] all ready = tt
none_steps_ready nodes old new readies (client ∷ clients) all ready = (
  λ link is.
      elim (readies link (ready.0 link is)) [
        | inl still ↦ still
        | inr unknown ↦ absurd (unknown (known_of nodes old client all.0 link (inl is)))
      ],
  none_steps_ready nodes old new readies clients all.2 ready.1,
)

-- a step that isn't made for a request
quiet_turn : (old new : RunView) (node : ℕ) (event : Event) (outputs : List Output) → ((made : Outputs) (link : Link) → ChangedBy node (Made event made) link → ⊥) → Turns old node event outputs new → Leaves none_changed old new
quiet_turn old new node event outputs none turns =
    leaves_further none_changed old turns.after new
    (leaves_more _ none_changed old turns.after (none turns.made) (enters_leaves old turns.after node (Made event turns.made) turns.makes))
    (closes_leaves turns.after new node (served_conns event turns.made) turns.closes)

-- and one that is skipped
quiet_reach : (old new : RunView) (node : ℕ) (event : Event) (outputs : List Output) → ((made : Outputs) (link : Link) → ChangedBy node (Made event made) link → ⊥) → Reaches old node event outputs new → Leaves none_changed old new
quiet_reach old new node event outputs none (inl turns) = quiet_turn old new node event outputs none turns
quiet_reach old new node event outputs none (inr passed) = skips_leaves old new node passed.skips.enters

idle_leaves : (changed : Link → Type 0) (old new : RunView) (outputs : List Output) → IsIdle old outputs new → Leaves changed old new
idle_leaves changed old new outputs idle = subst (Leaves changed old) (sym idle.unchanged) (leaves_all changed old)

ticks_leaves : (old new : RunView) (node : ℕ) (outputs : List Output) → Ticks old node outputs new → Leaves (Unknown old) old new
ticks_leaves old new node outputs = by_up (is_up old node)
  where
    by_up : (up : Bool) → MatchBool up (Reaches old node Tick outputs new) (IsIdle old outputs new) → Leaves (Unknown old) old new
    by_up true reaches = leaves_none (Unknown old) old new (quiet_reach old new node Tick outputs (λ made link asked. asked.1) reaches)
    by_up false idle = idle_leaves (Unknown old) old new outputs idle

delivers_leaves : (old new : RunView) (number : ℕ) (outputs : List Output) → Delivers old number outputs new → Leaves (Unknown old) old new
delivers_leaves old new number outputs = by_message (message_at old.sent number)
  where
    by_up : (message : Message) (up : Bool) → MatchBool up (Reaches old message.to (Deliver message) outputs new) (IsIdle old outputs new) → Leaves (Unknown old) old new
    by_up message true reaches = leaves_none (Unknown old) old new (quiet_reach old new message.to (Deliver message) outputs (λ made link asked. asked.1) reaches)
    by_up message false idle = idle_leaves (Unknown old) old new outputs idle

    by_message : (message : Option Message) → IsDelivered old message outputs new → Leaves (Unknown old) old new
    by_message None idle = idle_leaves (Unknown old) old new outputs idle
    by_message (Some message) delivered = by_up message (is_up old message.to) delivered

-- an administrator's connection is opened for the request
asked_leaves : (old new : RunView) (node : ℕ) (words : List (List ℕ)) (outputs : List Output) → IsAsked old node words outputs new → Leaves (Unknown old) old new
asked_leaves old new node words outputs asked =
    leaves_further (Unknown old) old asked.opened new (leaves_none (Unknown old) old asked.opened (opens_leaves old asked.opened node asked.opening asked.opens)) (heard asked.hears)
  where
    unknown : Unknown old (record { node = node; conn = asked.conn })
    unknown = (opened_is_fresh old asked.opened node asked.conn asked.opening asked.opens asked.named).unknown

    changed_is : (made : Outputs) (other : Link) → ChangedBy node (Made (Request asked.conn words) made) other → Unknown old other
    changed_is made other (same, asks) = subst (Unknown old) (λ i. record { node = sym same i; conn = sym asks.0 i }) unknown

    heard : IsHeard asked.opened node asked.conn words outputs new → Leaves (Unknown old) asked.opened new
    heard (inl turns) =
        leaves_further (Unknown old) asked.opened turns.after new
        (leaves_more _ (Unknown old) asked.opened turns.after (changed_is turns.made) (enters_leaves asked.opened turns.after node (Made (Request asked.conn words) turns.made) turns.makes))
        (leaves_none (Unknown old) turns.after new (closes_leaves turns.after new node (served_conns (Request asked.conn words) turns.made) turns.closes))
    heard (inr refused) =
        leaves_none (Unknown old) asked.opened new
        (leaves_further none_changed asked.opened refused.after new (skips_leaves asked.opened refused.after node refused.skips.enters)
        (closes_leaves refused.after new node (asked.conn ∷ []) refused.closes))

administers_leaves : (old new : RunView) (node : ℕ) (words : List (List ℕ)) (outputs : List Output) → Administers old node words outputs new → Leaves (Unknown old) old new
administers_leaves old new node words outputs = by_may (is_up old node && is_admin words)
  where
    administered : IsAdministered old node words outputs new → Leaves (Unknown old) old new
    administered (inl asked) = asked_leaves old new node words outputs asked
    administered (inr away) = leaves_none (Unknown old) old new (skips_leaves old new node away.skips.enters)

    by_may : (may : Bool) → MatchBool may (IsAdministered old node words outputs new) (IsIdle old outputs new) → Leaves (Unknown old) old new
    by_may true made = administered made
    by_may false idle = idle_leaves (Unknown old) old new outputs idle

-- ---- a client that begins

all_alike : {X : Type 0} (x : X) (count place : ℕ) → get_or (replicate count x) place x ≡ x
all_alike x zero place = refl
all_alike x (suc count) zero = refl
all_alike x (suc count) (suc place) = all_alike x count place

module _ (config : ClusterConfig) (number : ℕ) where
  nothing_held : (link : Link) → Holds (new_client config number) link → ⊥
  nothing_held link (inl is) = no_some (all_alike None (length config.nodes) link.node) is
  nothing_held link (inr cut) = contains_nothing cut.0 cut.1

  new_asks : (run : RunView) → length run.nodes ≡ length config.nodes → AsksWell config.nodes run (new_client config number)
  new_asks run same = record {
    connected = record {
      places = length-replicate (length config.nodes) None ∙ sym same;
      idle = λ link is. absurd (nothing_held link (inl is));
      left = λ request among. absurd (contains_nothing request among);
      apart = λ link is cut. nothing_held link (inl is);
    };
    call = refl;
  }

  apart_from_new : (clients : List ClientView) → AllByRecursion (AreApart (new_client config number)) clients
  apart_from_new [] = tt
  apart_from_new (client ∷ clients) = ((λ link held too. nothing_held link held), apart_from_new clients)

  apart_inserted : (one : ClientView) (clients : List ClientView) (place : ℕ) → AllByRecursion (AreApart one) clients → AllByRecursion (AreApart one) (insert clients place (new_client config number))
  apart_inserted one clients zero apart = ((λ link held too. nothing_held link too), apart)
  apart_inserted one [] (suc place) apart = ((λ link held too. nothing_held link too), tt)
  apart_inserted one (client ∷ clients) (suc place) apart = (apart.0, apart_inserted one clients place apart.1)

  inserted : (run : RunView) → length run.nodes ≡ length config.nodes → (clients : List ClientView) (place : ℕ) → AllAskWell config.nodes run clients
      → AllAskWell config.nodes run (insert clients place (new_client config number))
  inserted run same clients zero all = (new_asks run same, apart_from_new clients, all)
  inserted run same [] (suc place) all = (new_asks run same, tt, tt)
  inserted run same (client ∷ clients) (suc place) all = (all.0, apart_inserted client clients place all.1, inserted run same clients place all.2)

  begun : (run : RunView) → length run.nodes ≡ length config.nodes → (clients : List ClientView) → AllAskWell config.nodes run clients → AllAskWell config.nodes run (with_client config number clients)
  begun run same clients all = by_found (client_at number clients)
    where
      by_found : (found : Option ClientView) → AllAskWell config.nodes run (begun_at config number clients found)
      by_found (Some client) = all
      by_found None = inserted run same clients (place_of number clients) all

  new_ready : (run : RunView) → AreReady run (new_client config number).pool
  new_ready run link is = absurd (nothing_held link (inl is))

  inserted_ready : (run : RunView) (clients : List ClientView) (place : ℕ) → AllReady run clients → AllReady run (insert clients place (new_client config number))
  inserted_ready run clients zero ready = (new_ready run, ready)
  inserted_ready run [] (suc place) ready = (new_ready run, tt)
  inserted_ready run (client ∷ clients) (suc place) ready = (ready.0, inserted_ready run clients place ready.1)

  begun_ready : (run : RunView) (clients : List ClientView) → AllReady run clients → AllReady run (with_client config number clients)
  begun_ready run clients ready = by_found (client_at number clients)
    where
      by_found : (found : Option ClientView) → AllReady run (begun_at config number clients found)
      by_found (Some client) = ready
      by_found None = inserted_ready run clients (place_of number clients) ready

-- ---- a node stops

all_stopped_ready : (run : RunView) (node : ℕ) (clients : List ClientView) → AllReady run clients → AllReady run (map (stopped_at node) clients)
all_stopped_ready run node [] ready = tt
all_stopped_ready run node (client ∷ clients) ready = (stopped_ready run client node ready.0, all_stopped_ready run node clients ready.1)

module _ (nodes : List NodeConfig) (run : RunView) (node : ℕ) where
  apart_stopped : (one : ClientView) (clients : List ClientView) → AllByRecursion (AreApart one) clients → AllByRecursion (AreApart (stopped_at node one)) (map (stopped_at node) clients)
  apart_stopped one [] apart = tt
  apart_stopped one (client ∷ clients) apart = (
    (λ link held too. apart.0 link (stops_held nodes run one node link held) (stops_held nodes run client node link too)),
    apart_stopped one clients apart.1,
  )

  all_stopped : (clients : List ClientView) → AllAskWell nodes run clients → AllAskWell nodes run (map (stopped_at node) clients)
  all_stopped [] all = tt
  all_stopped (client ∷ clients) all = (stops_well nodes run client node all.0, apart_stopped client clients all.1, all_stopped clients all.2)

-- which nodes were stopped changes no connection
stop_leaves : (run : RunView) (stopped : List Bool) → Leaves (Unknown run) run (record run { stopped = stopped })
stop_leaves run stopped =
    record {
      nodes = refl;
      configs = λ config have. have;
      known = λ link known. known;
      calm = λ link. inl (inl refl);
      told = λ words node number told. told;
      entered = λ entry among. among;
      goes = λ config goes. goes;
      further = ([], refl);
    }

-- ---- one of the clients

at_place : (nodes : List NodeConfig) (run : RunView) (clients : List ClientView) (place : ℕ) (client : ClientView) → slice_get clients place ≡ Some client → AllAskWell nodes run clients → AsksWell nodes run client
at_place nodes run [] place client is all = absurd (no_some refl is)
at_place nodes run (first ∷ clients) zero client is all = subst (AsksWell nodes run) (same_some refl is) all.0
at_place nodes run (first ∷ clients) (suc place) client is all = at_place nodes run clients place client is all.2

ready_at : (run : RunView) (clients : List ClientView) (place : ℕ) (client : ClientView) → slice_get clients place ≡ Some client → AllReady run clients → AreReady run client.pool
ready_at run [] place client is ready = absurd (no_some refl is)
ready_at run (first ∷ clients) zero client is ready = subst (λ (c : ClientView). AreReady run c.pool) (same_some refl is) ready.0
ready_at run (first ∷ clients) (suc place) client is ready = ready_at run clients place client is ready.1

-- what it asks may come to the node
pub may_carry : (scene : SceneView) → KeepsRule scene → (place : ℕ) (client : ClientView) → slice_get scene.clients place ≡ Some client → MayBeCarried scene.run client.traffic
may_carry scene rule place client is =
    carried_if_asked scene.config.nodes scene.run client (at_place scene.config.nodes scene.run scene.clients place client is rule.clients) (ready_at scene.run scene.clients place client is rule.ready)

pub may_linger : (scene : SceneView) → KeepsRule scene → (place : ℕ) (client : ClientView) → slice_get scene.clients place ≡ Some client → MayLinger scene.run client.late
may_linger scene rule place client is = lingers_if_left scene.config.nodes scene.run client (at_place scene.config.nodes scene.run scene.clients place client is rule.clients)

-- ---- all steps

module _ (old : SceneView) (cluster_is : IsCluster old.config) (rule : KeepsRule old) where
  of_nodes : (does : RunView → List Output → RunView → Type 0) (outputs : List Output) (new : SceneView) → ((run : RunView) → does old.run outputs run → Leaves (Unknown old.run) old.run run)
      → ((run : RunView) → does old.run outputs run → Readies (Unknown old.run) old.run run) → IsOfNodes does old outputs new → KeepsRule new
  of_nodes does outputs new leaves readies of =
      let left = leaves of.run of.steps in
      subst KeepsRule (sym of.is)
      (record { nodes = left.nodes ∙ rule.nodes; goes = left.goes old.config rule.goes; configs = left.configs old.config rule.configs; clients = none_steps old.config.nodes old.run of.run left old.clients rule.clients; ready = none_steps_ready old.config.nodes old.run of.run (readies of.run of.steps) old.clients rule.clients rule.ready })

  of_client : (does : ClientStep) (clients : List ClientView) (place : ℕ) (outputs : List Output) (new : SceneView) → AllAskWell old.config.nodes old.run clients → AllReady old.run clients
      → ((client : ClientView) (run : RunView) (after : ClientView) → AsksWell old.config.nodes old.run client → does old.run client outputs run after → PartOf old.config.nodes old.run client run after)
      → ((client : ClientView) (run : RunView) (after : ClientView) → AsksWell old.config.nodes old.run client → AreReady old.run client.pool → does old.run client outputs run after → ReadyPartOf old.run client run after)
      → IsOfClient does clients place old outputs new → KeepsRule new
  of_client does clients place outputs new all ready well ready_then of =
      let asks : AsksWell old.config.nodes old.run of.client = at_place old.config.nodes old.run clients place of.client of.was all in
      let part : PartOf old.config.nodes old.run of.client of.run of.after = well of.client of.run of.after asks of.steps in
      let ready_part : ReadyPartOf old.run of.client of.run of.after = ready_then of.client of.run of.after asks (ready_at old.run clients place of.client of.was ready) of.steps in
      subst KeepsRule (sym of.is)
      (record {
        nodes = part.leaves.nodes ∙ rule.nodes;
        goes = part.leaves.goes old.config rule.goes;
        configs = part.leaves.configs old.config rule.configs;
        clients = one_steps old.config.nodes old.run of.run of.client of.after part clients place of.was all;
        ready = one_steps_ready old.config.nodes old.run of.run of.client of.after ready_part clients place of.was all ready;
      })

  nothing_to_do : (outputs : List Output) (new : SceneView) → IsNothing old outputs new → KeepsRule new
  nothing_to_do outputs new idle = subst KeepsRule (sym idle.unchanged) rule

  of_some : (does : ClientStep) (number : ℕ) (outputs : List Output) (new : SceneView)
      → ((client : ClientView) (run : RunView) (after : ClientView) → AsksWell old.config.nodes old.run client → does old.run client outputs run after → PartOf old.config.nodes old.run client run after)
      → ((client : ClientView) (run : RunView) (after : ClientView) → AsksWell old.config.nodes old.run client → AreReady old.run client.pool → does old.run client outputs run after → ReadyPartOf old.run client run after)
      → (found : Option ClientView) → IsOfSome does number found old outputs new → KeepsRule new
  of_some does number outputs new well ready_then None idle = nothing_to_do outputs new idle
  of_some does number outputs new well ready_then (Some client) of = of_client does old.clients (place_of number old.clients) outputs new rule.clients rule.ready well ready_then of

  of_stop : (node : ℕ) (outputs : List Output) (new : SceneView) (up : Bool) → MatchBool up (IsStopping old node outputs new) (IsNothing old outputs new) → KeepsRule new
  of_stop node outputs new false idle = nothing_to_do outputs new idle
  of_stop node outputs new true stopping =
      subst KeepsRule (sym stopping.stops)
      (record {
        nodes = rule.nodes;
        goes = rule.goes;
        configs = rule.configs;
        clients = none_steps old.config.nodes old.run (record old.run { stopped = slice_set old.run.stopped node true }) (stop_leaves old.run (slice_set old.run.stopped node true))
            (map (stopped_at node) old.clients) (all_stopped old.config.nodes old.run node old.clients rule.clients);
        ready = all_stopped_ready old.run node old.clients rule.ready;
      })

  pub plays_well : (made : Step) (outputs : List Output) (new : SceneView) → Plays old made outputs new → KeepsRule new
  plays_well (step.Call number words) outputs new plays =
      of_client _ (with_client old.config number old.clients) (place_of number old.clients) outputs new (begun old.config number old.run rule.nodes old.clients rule.clients) (begun_ready old.config number old.run old.clients rule.ready)
      (λ client run after asks begins. begins_well_so old.config.nodes old.run run client after words outputs asks begins)
      (λ client run after asks ready begins. begins_ready old.config.nodes old.run run client after outputs asks ready words begins) plays
  plays_well (step.Carry number) outputs new plays =
      of_some _ number outputs new (λ client run after asks carries. carries_well old.config cluster_is old.run run rule.configs rule.goes client after outputs asks carries)
      (λ client run after asks ready carries. carries_ready old.config.nodes old.run run client after outputs asks ready carries) (client_at number old.clients) plays
  plays_well (step.Return number) outputs new plays =
      of_some _ number outputs new (λ client run after asks returns. returns_well old.config.nodes old.run run client after outputs asks returns)
      (λ client run after asks ready returns. returns_ready old.config.nodes old.run run client after outputs asks ready returns) (client_at number old.clients) plays
  plays_well (step.Cut number) outputs new plays =
      of_some _ number outputs new (λ client run after asks cuts. cuts_well old.config.nodes old.run run client after outputs asks cuts)
      (λ client run after asks ready cuts. cuts_ready old.config.nodes old.run run client after outputs asks ready cuts) (client_at number old.clients) plays
  plays_well (step.Late number) outputs new plays =
      of_some _ number outputs new (λ client run after asks lingers. lingers_well old.config.nodes old.run run client after outputs asks lingers)
      (λ client run after asks ready lingers. lingers_ready old.config.nodes old.run run client after outputs asks ready lingers) (client_at number old.clients) plays
  plays_well (step.Admin node words) outputs new plays = of_nodes _ outputs new (λ run steps. administers_leaves old.run run node words outputs steps) (λ run steps. administers_readies old.run run node words outputs steps) plays
  plays_well (step.Tick node) outputs new plays = of_nodes _ outputs new (λ run steps. ticks_leaves old.run run node outputs steps) (λ run steps. ticks_readies old.run run node outputs steps) plays
  plays_well (step.Stop node) outputs new plays = of_stop node outputs new (is_up old.run node) plays
  plays_well (step.Deliver number) outputs new plays = of_nodes _ outputs new (λ run steps. delivers_leaves old.run run number outputs steps) (λ run steps. delivers_readies old.run run number outputs steps) plays

-- ---- the start

-- each node begins with the configuration
first_configs : (config : ClusterConfig) (first count : ℕ) → HaveConfig config (map (first_state config) (range_with_len first count))
first_configs config first zero number node is = absurd (no_some refl is)
first_configs config first (suc count) zero node is = ap (λ (s : NodeState). s.config) (sym (same_some refl is))
first_configs config first (suc count) (suc number) node is = first_configs config (first + 1) count number node is

pub first_rule : (config : ClusterConfig) → KeepsRule (first_scene config)
first_rule config = record { nodes = length-map-range_with_len (first_state config) 0 (length config.nodes); goes = refl; configs = first_configs config 0 (length config.nodes); clients = tt; ready = tt }

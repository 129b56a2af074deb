-- Each answer of a client has its reason.
use Rattle.std.proofs.Common.{◌≡◌, ◌<◌, ◌⊎◌, ◌∙◌, ◌++◌, ◌∷◌, ℕ, Bool, true, false, cond, List, [], Contains, Option, None, Some, Err, refl, sym, ap, subst, inl, inr, arith}
use Rattle.std.proofs.lemmas.Option.{slice_get_within, get_or_from_slice_get}
use Rattle.std.specs.List.{flat_map}
use Rattle.std.specs.Prelude.{MatchBool, nat_le, slice_get}
use Rattle.cluster_config.proofs.PlaceLemmas.{position-le}
use Rattle.cluster_config.specs.Config.{ClusterConfig, IsCluster}
use Rattle.connections.specs.declared.conn.Conn.{Conn}
use Rattle.node_step.specs.State.{NodeState}
use Rattle.redirection.specs.Address.{Place}
use Rattle.resp_values.specs.declared.reply.Reply.{Reply}
use Rattle.resp_values.specs.declared.reply.Reply.TheVariants.{Error}
use Rattle.single_keyspace.proofs.Lists.{contains_first, contains_more}
use Rattle.single_keyspace.proofs.Seen.{no_some, same_some}
use Rattle.smart_client.specs.State.{ClientState}
use Rattle.smart_client.specs.Step.{Answer, Steps, answered, next}
use Rattle.smart_client.specs.declared.action.Action.{Action}
use Rattle.smart_client.specs.declared.action.Action.TheVariants as wanted
use Rattle.smart_client.specs.declared.action.Event.{Event}
use Rattle.smart_client.specs.declared.action.Event.TheVariants as happened
use Rattle.smart_client.specs.declared.call.Call.{Call}
use Rattle.smart_client.specs.declared.call.Stage.{Stage}
use Rattle.smart_client.specs.declared.call.Stage.TheVariants as stage
use Rattle.smart_client.specs.declared.fault.ClientFault.TheVariants.{Memory}
use Rattle.world_nodes.specs.Allowed.{IsKnown, opens_in, past_of}
use Rattle.world_nodes.specs.Nodes.{HaveConfig, RunView, is_up}
use Rattle.world_nodes.specs.declared.link.Link.{Link}
use Rattle.world_nodes.specs.declared.output.Output.{Output}
use Rattle.world_nodes.specs.declared.output.Output.TheVariants as output
use Rattle.world.specs.Asking.{AsksWell, ComesFrom, HadNoOffset, IsOfCall, KeepsRule, WasAnswered, WasRefused}
use Rattle.world.specs.Calls.{Acts, Arrives, Begins, Carries, ComesLate, Connects, Cuts, IsBegun, IsCarried, IsConnected, IsCut, IsLate, IsReturned, IsUsed, Lingers, Rests, Returns, Takes, Tells, Uses, link_to, told_of}
use Rattle.world.specs.Clients.{ClientView, begun_at, client_at, connection_to, fault_of, leads_to, lost_at, lost_by, new_client, node_at, place_of, used_by, with_client, with_connection}
use Rattle.world.specs.Plays.{ClientStep, IsNothing, IsOfClient, IsOfSome, IsStopping, Plays}
use Rattle.world.specs.View.{SceneView}
use Rattle.world.specs.declared.client.Late.{Late}
use Rattle.world.specs.declared.client.Traffic.{Traffic}
use Rattle.world.specs.declared.client.Traffic.TheVariants.{Quiet, Asked, Answered}
use Rattle.world.specs.declared.step.Step.{Step}
use Rattle.world.specs.declared.step.Step.TheVariants as step
use Rattle.final_answers.specs.Reasons.{Breaks, Happens, HasNoConnection, HasReason, HaveReasons, IsExhausted, IsHandedOver, IsRefused, IsReturn, IsThere}
use Rattle.final_answers.proofs.Following.{FollowsWell, IsLed}
use Rattle.final_answers.proofs.FollowingAll.{AllFollowWell, well_at}
use Rattle.final_answers.proofs.Leading.{CanFollow}
use Rattle.final_answers.proofs.Peers.{has_room}
use Rattle.final_answers.proofs.ClientPlaces.{asks_at, inserted_at, numbered_at}
use Rattle.final_answers.proofs.Playing.{administers_quiet, delivers_quiet, ticks_quiet}
use Rattle.final_answers.proofs.Stepping.{Silent, of_call_so, served_silent}
use Rattle.final_answers.proofs.Turns.{EndsSo, allowed_ends, begun_ends, connected_ends, ended_so, introduced_ends, replied_ends}
use Rattle.final_answers.proofs.Wanted.{answers_so, calls_so, execution_at}

-- ---- outputs

silent_reasons : (old : SceneView) (made : Step) (shown : List Output) → Silent shown → HaveReasons old made shown
silent_reasons old made [] silent = tt
silent_reasons old made (output.Answer number answer ∷ shown) silent = absurd silent
silent_reasons old made (output.Admin node reply ∷ shown) silent = silent_reasons old made shown silent
silent_reasons old made (output.Sent number message ∷ shown) silent = silent_reasons old made shown silent
silent_reasons old made (output.Promoted node promotion ∷ shown) silent = silent_reasons old made shown silent
silent_reasons old made (output.Nothing ∷ shown) silent = silent_reasons old made shown silent

no_reasons : (old : SceneView) (made : Step) (shown : List Output) → shown ≡ output.Nothing ∷ [] → HaveReasons old made shown
no_reasons old made shown is = subst (HaveReasons old made) (sym is) tt

both_reasons : (old : SceneView) (made : Step) (first rest : List Output) → HaveReasons old made first → HaveReasons old made rest → HaveReasons old made (first ++ rest)
both_reasons old made [] rest one more = more
both_reasons old made (output.Answer number answer ∷ first) rest one more = (one.0, both_reasons old made first rest one.1 more)
both_reasons old made (output.Admin node reply ∷ first) rest one more = both_reasons old made first rest one more
both_reasons old made (output.Sent number message ∷ first) rest one more = both_reasons old made first rest one more
both_reasons old made (output.Promoted node promotion ∷ first) rest one more = both_reasons old made first rest one more
both_reasons old made (output.Nothing ∷ first) rest one more = both_reasons old made first rest one more

-- ---- connections

-- why there is none
none_there : (old new : RunView) (node : ℕ) (before : Option Conn) → IsConnected old node before None new → HasNoConnection old node
none_there old new node before = by_up (is_up old node) refl
  where
    by_before : (before : Option Conn) → IsUsed old node before None new → HasNoConnection old node
    by_before None skips = inr (skips.enters.enters.step.before, skips.enters.enters.step.was, skips.why)
    by_before (Some one) used = absurd (no_some refl used.1)

    by_up : (up : Bool) → is_up old node ≡ up → MatchBool up (IsUsed old node before None new) ((new ≡ old) × (◌≡◌ {A = Option Conn} None None)) → HasNoConnection old node
    by_up true is used = by_before before used
    by_up false is gone = inl is

-- ---- a client's turn

module _ (old : SceneView) (made : Step) (client : ClientView) (there : IsThere old client) (event : Event) (happens : Happens made client event) where
  abbrev Reasoned : Answer → Type 0
  Reasoned answer = HasReason old made client answer

  abbrev to : Place → ℕ
  to address = node_at old.config.nodes address

  refused_memory : Reasoned (Err Memory)
  refused_memory = (event, happens)

  uses_reasons : (acting : ClientView) → acting.number ≡ client.number → (link : Option Link) (action : Action) (outputs : List Output) (run new : RunView) (after : ClientView)
      → ((answer : Answer) (close : Bool) → action ≡ wanted.Done answer close → Reasoned answer) → Uses run acting link action outputs new after → HaveReasons old made outputs
  uses_reasons acting same link (wanted.Connect address) outputs run new after reasons uses = absurd uses
  uses_reasons acting same None (wanted.Send words) outputs run new after reasons uses = absurd uses
  uses_reasons acting same (Some link) (wanted.Send words) outputs run new after reasons uses = subst (HaveReasons old made) (sym uses.2) tt
  uses_reasons acting same link (wanted.Done answer close) outputs run new after reasons uses =
      subst (HaveReasons old made) (sym uses.1) ((client, there, sym same, reasons answer close refl), tt)

  -- the client is told whether there is a connection
  tells_reasons : (acting : ClientView) → acting.number ≡ client.number → (call : Call) → acting.core.call ≡ Some call → (link : Option Link) (told : Event) → EndsSo Reasoned (next (Some call) acting.core told)
      → (outputs : List Output) (run new : RunView) (after : ClientView) → Tells run acting link told outputs new after → HaveReasons old made outputs
  tells_reasons acting same call is link told ends outputs run new after tells =
      uses_reasons (record acting { core = tells.core }) same link tells.action outputs run new after
      (λ answer close over.
      ended_so Reasoned acting.core tells.core told answer close (subst (λ (under : Option Call). EndsSo Reasoned (next under acting.core told)) (sym is) ends) refused_memory
      (subst (λ (action : Action). Steps acting.core told action tells.core) over tells.steps)) tells.uses

  connects_reasons : (acting : ClientView) → acting.number ≡ client.number → (call : Call) → acting.core.call ≡ Some call → (address : Place) → Steps client.core event (wanted.Connect address) acting.core
      → (outputs : List Output) (new : RunView) (after : ClientView) → Connects old.config.nodes old.run acting address outputs new after → HaveReasons old made outputs
  connects_reasons acting same call is address wants outputs new after connects = by_conn connects.conn connects.connected connects.tells
    where
      by_conn : (conn : Option Conn) → IsConnected old.run (to address) (connection_to acting (to address)) conn connects.run
          → Tells connects.run (with_connection acting (to address) conn) (link_to (to address) conn) (told_of (link_to (to address) conn)) outputs new after → HaveReasons old made outputs
      by_conn None connected tells =
          tells_reasons (with_connection acting (to address) None) same call is None happened.NotConnected
          (inr (record {
            event = event;
            happens = happens;
            address = address;
            core = acting.core;
            wants = wants;
            none = none_there old.run connects.run (to address) (connection_to acting (to address)) connected;
          }))
          outputs connects.run new after tells
      by_conn (Some conn) connected tells =
          tells_reasons (with_connection acting (to address) (Some conn)) same call is (Some (record { node = to address; conn = conn })) happened.Connected
          (connected_ends Reasoned (record acting.core { call = None }) call) outputs connects.run new after tells

  -- whatever it wants
  acts_reasons : (acting : ClientView) → acting.number ≡ client.number → (link : Option Link) (action : Action) (outputs : List Output) (new : RunView) (after : ClientView)
      → ((answer : Answer) (close : Bool) → action ≡ wanted.Done answer close → Reasoned answer)
      → ((address : Place) → action ≡ wanted.Connect address → (call : Call) × (acting.core.call ≡ Some call)) → Steps client.core event action acting.core
      → Acts old.config.nodes old.run acting link action outputs new after → HaveReasons old made outputs
  acts_reasons acting same link (wanted.Connect address) outputs new after reasons calls steps acts =
      let called = calls address refl in
      connects_reasons acting same called.0 called.1 address steps outputs new after acts
  acts_reasons acting same link (wanted.Send words) outputs new after reasons calls steps acts = uses_reasons acting same link (wanted.Send words) outputs old.run new after reasons acts
  acts_reasons acting same link (wanted.Done answer close) outputs new after reasons calls steps acts = uses_reasons acting same link (wanted.Done answer close) outputs old.run new after reasons acts

  -- it takes the event
  takes_reasons : (quiet : ClientView) → quiet.number ≡ client.number → quiet.core ≡ client.core → (link : Option Link) (outputs : List Output) (new : RunView) (after : ClientView)
      → EndsSo Reasoned (next client.core.call client.core event)
      → ((core : ClientState) (address : Place) → Steps client.core event (wanted.Connect address) core → (call : Call) × (core.call ≡ Some call))
      → Takes old.config.nodes old.run quiet link event outputs new after → HaveReasons old made outputs
  takes_reasons quiet same core_is link outputs new after ends calls takes =
      let steps : Steps client.core event takes.action takes.core = subst (λ (core : ClientState). Steps core event takes.action takes.core) core_is takes.steps in
      acts_reasons (record quiet { core = takes.core }) same link takes.action outputs new after
      (λ answer close over. ended_so Reasoned client.core takes.core event answer close ends refused_memory (subst (λ (action : Action). Steps client.core event action takes.core) over steps))
      (λ address connects. calls takes.core address (subst (λ (action : Action). Steps client.core event action takes.core) connects steps)) steps takes.acts

-- ---- EXHAUSTED

-- the nodes, of which one is at the other end of the connection, have one configuration
one_config : (old : SceneView) → HaveConfig old.config old.run.nodes → (config : ClusterConfig) → HaveConfig config old.run.nodes → (link : Link) → IsKnown old.run link → config ≡ old.config
one_config old have config also link known = by_there (slice_get old.run.nodes link.node) refl known
  where
    by_there : (there : Option NodeState) → slice_get old.run.nodes link.node ≡ there → link.conn.generation < opens_in there link.conn.key → config ≡ old.config
    by_there None is below = absurd (omega (arith, below))
    by_there (Some node) is below = sym (also link.node node is) ∙ have link.node node is

refused_so : (old : SceneView) → HaveConfig old.config old.run.nodes → (link : Link) → IsKnown old.run link → (words : List (List ℕ)) (reply : Reply) → WasRefused old.run link words reply → IsExhausted old link words reply
refused_so old have link known words reply refused = record {
  had = subst (λ (config : ClusterConfig). HadNoOffset config (past_of old.run) link words) (one_config old have refused.config refused.have link known) refused.had;
  same = refused.same;
}

answered_so : (old : SceneView) → HaveConfig old.config old.run.nodes → (link : Link) → IsKnown old.run link → (words : List (List ℕ)) (reply : Reply)
    → WasAnswered old.config.nodes (past_of old.run) link.node words reply ⊎ WasRefused old.run link words reply
    → WasAnswered old.config.nodes (past_of old.run) link.node words reply ⊎ IsExhausted old link words reply
answered_so old have link known words reply (inl was) = inl was
answered_so old have link known words reply (inr refused) = inr (refused_so old have link known words reply refused)

-- ---- steps of a client

rest_reasons : (old : SceneView) (made : Step) (run new : RunView) (client after : ClientView) (shown : List Output) → Rests run client shown new after → HaveReasons old made shown
rest_reasons old made run new client after shown rests = no_reasons old made shown rests.shows

begins_reasons : (old : SceneView) (number : ℕ) (words : List (List ℕ)) (client : ClientView) → IsThere old client → client.number ≡ number → (client.traffic ≡ Quiet → client.core.call ≡ None)
    → (shown : List Output) (new : RunView) (after : ClientView) → Begins old.config.nodes words old.run client shown new after → HaveReasons old (step.Call number words) shown
begins_reasons old number words client there numbered settled shown new after = by_traffic client.traffic refl
  where
    by_traffic : (traffic : Traffic) → client.traffic ≡ traffic → IsBegun old.config.nodes old.run client traffic words shown new after → HaveReasons old (step.Call number words) shown
    by_traffic (Asked link sent) is rests = rest_reasons old (step.Call number words) old.run new client after shown rests
    by_traffic (Answered link reply) is rests = rest_reasons old (step.Call number words) old.run new client after shown rests
    by_traffic Quiet is takes =
        let begins : Happens (step.Call number words) client (happened.Call words) = (ap (λ (n : ℕ). step.Call n words) (sym numbered), is) in
        let none : client.core.call ≡ None = settled is in
        takes_reasons old (step.Call number words) client there (happened.Call words) begins client refl refl None shown new after
        (subst (λ (under : Option Call). EndsSo (HasReason old (step.Call number words) client) (next under client.core (happened.Call words))) (sym none)
        (begun_ends (HasReason old (step.Call number words) client) client.core words (λ refused. (words, begins, refused))))
        (λ core address steps. let may = calls_so words None client.core core (wanted.Connect address) none refl steps in (may.0.0, may.0.1)) takes

module _ (old : SceneView) (cluster_is : IsCluster old.config) (have : HaveConfig old.config old.run.nodes) (number : ℕ) (client : ClientView) (there : IsThere old client) (numbered : client.number ≡ number) (well : FollowsWell old.config.nodes old.run client) where
  abbrev InReturn : Answer → Type 0
  InReturn answer = HasReason old (step.Return number) client answer

  module _ (link : Link) (reply : Reply) (comes : client.traffic ≡ Answered link reply) (call : Call) (called : client.core.call ≡ Some call) where
    abbrev core : ClientState
    core = record client.core { call = None }

    returned : (other : Reply) → reply ≡ other → IsReturn (step.Return number) client call link other
    returned other is = record { returns = ap (λ (n : ℕ). step.Return n) (sym numbered); under_way = called; comes = comes ∙ ap (Answered link) is }

    refused : (text : List ℕ) → reply ≡ Error text → call.stage ≡ stage.Sent → IsRefused (step.Return number) client call text
    refused text is at = record { link = link; returns = returned (Error text) is; sent = at }

    -- by what was sent last
    by_stage : IsKnown old.run link → (at : Stage) → call.stage ≡ at → ComesFrom old.config.nodes old.run link call at reply → (call.stage ≡ stage.Sent → CanFollow old.config.nodes true reply)
        → EndsSo InReturn (answered at core call reply)
    by_stage known stage.Connecting at from can = absurd from
    by_stage known stage.Introducing at welcome can = introduced_ends InReturn core call reply welcome
    by_stage known stage.Asking at welcome can = allowed_ends InReturn core call reply welcome
    by_stage known stage.Sent at was can =
        replied_ends InReturn old.config.nodes core call reply (record { call = call; link = link; returns = returned reply refl; sent = at; answered = answered_so old have link known call.words reply was })
        (has_room old.config cluster_is client.core.peers well.kept.known) (can at)
        (λ text is kind most. (record { call = call; text = text; refused = refused text is at; kind = kind }, most))
        (λ text is kind most. (record { call = call; text = text; refused = refused text is at; kind = kind }, most))

  takes_reply : AsksWell old.config.nodes old.run client → (link : Link) (reply : Reply) → client.traffic ≡ Answered link reply → (under : Option Call) → client.core.call ≡ under
      → IsOfCall old.config.nodes old.run client.core client.pool (Answered link reply) under → IsLed old.config.nodes old.run (Answered link reply) under → (shown : List Output) (new : RunView) (after : ClientView)
      → Takes old.config.nodes old.run (record client { traffic = Quiet }) (Some link) (happened.Reply reply) shown new after → HaveReasons old (step.Return number) shown
  takes_reply asks link reply is None called of_call led shown new after takes = absurd of_call
  takes_reply asks link reply is (Some call) called of_call led shown new after takes =
      takes_reasons old (step.Return number) client there (happened.Reply reply) (call, link, returned link reply is call called reply refl) (record client { traffic = Quiet }) refl refl (Some link) shown new after
      (subst (λ (under : Option Call). EndsSo InReturn (next under client.core (happened.Reply reply))) (sym called) (by_stage link reply is call called (asks.connected.idle link of_call.0.in_use).known call.stage refl of_call.2 led.1))
      (λ core address steps.
      let may = answers_so call.words (execution_at call.stage reply) client.core core call reply (wanted.Connect address) called refl refl steps in (may.0.0, may.0.1)) takes

  returns_reasons : AsksWell old.config.nodes old.run client → (shown : List Output) (new : RunView) (after : ClientView) → Returns old.config.nodes old.run client shown new after
      → HaveReasons old (step.Return number) shown
  returns_reasons asks shown new after = by_traffic client.traffic refl
    where
      by_traffic : (traffic : Traffic) → client.traffic ≡ traffic → IsReturned old.config.nodes old.run client traffic shown new after → HaveReasons old (step.Return number) shown
      by_traffic Quiet is rests = rest_reasons old (step.Return number) old.run new client after shown rests
      by_traffic (Asked link words) is rests = rest_reasons old (step.Return number) old.run new client after shown rests
      by_traffic (Answered link reply) is takes =
          takes_reply asks link reply is client.core.call refl (of_call_so old.config.nodes old.run client (Answered link reply) is asks client.core.call refl)
          (subst (λ (t : Traffic). IsLed old.config.nodes old.run t client.core.call) is well.led) shown new after takes

-- ---- connections that break

lost_reason : (old : SceneView) (made : Step) (client : ClientView) → Breaks made client → HasReason old made client (Err (fault_of client.core.call))
lost_reason old made client breaks = by_call client.core.call refl
  where
    by_stage : (call : Call) → client.core.call ≡ Some call → (at : Stage) → call.stage ≡ at → HasReason old made client (Err (fault_of (Some (record call { stage = at }))))
    by_stage call is stage.Connecting at = inl breaks
    by_stage call is stage.Introducing at = inl breaks
    by_stage call is stage.Asking at = inl breaks
    by_stage call is stage.Sent at = (breaks, subst (λ (under : Option Call). IsHandedOver under) (sym is) at)

    by_call : (under : Option Call) → client.core.call ≡ under → HasReason old made client (Err (fault_of under))
    by_call None is = inl breaks
    by_call (Some call) is = by_stage call is call.stage refl

loses_reasons : (old : SceneView) (made : Step) (client : ClientView) → IsThere old client → Breaks made client → HaveReasons old made (lost_by client)
loses_reasons old made client there breaks = ((client, there, refl, lost_reason old made client breaks), tt)

cuts_reasons : (old : SceneView) (number : ℕ) (client : ClientView) → IsThere old client → client.number ≡ number → (shown : List Output) (new : RunView) (after : ClientView)
    → Cuts old.run client shown new after → HaveReasons old (step.Cut number) shown
cuts_reasons old number client there numbered shown new after = by_traffic client.traffic
  where
    by_traffic : (traffic : Traffic) → IsCut old.run client traffic shown new after → HaveReasons old (step.Cut number) shown
    by_traffic Quiet rests = rest_reasons old (step.Cut number) old.run new client after shown rests
    by_traffic (Asked link words) cut = subst (HaveReasons old (step.Cut number)) (sym cut.2) (loses_reasons old (step.Cut number) client there numbered)
    by_traffic (Answered link reply) cut = subst (HaveReasons old (step.Cut number)) (sym cut.2) (loses_reasons old (step.Cut number) client there numbered)

-- of these clients
stops_reasons : (old : SceneView) (node : ℕ) (clients : List ClientView) → ((client : ClientView) → Contains clients client → Contains old.clients client)
    → HaveReasons old (step.Stop node) (flat_map (lost_at node) clients)
stops_reasons old node [] among = tt
stops_reasons old node (client ∷ clients) among =
    both_reasons old (step.Stop node) (lost_at node client) (flat_map (lost_at node) clients) (by_leads (leads_to node (used_by client.traffic)) refl)
    (stops_reasons old node clients (λ other is. among other (contains_more client other clients is)))
  where
    by_leads : (leads : Bool) → leads_to node (used_by client.traffic) ≡ leads → HaveReasons old (step.Stop node) (cond leads (lost_by client) [])
    by_leads true is = loses_reasons old (step.Stop node) client (inl (among client (contains_first client clients))) is
    by_leads false is = tt

-- ---- requests that reach their nodes

carries_silent : (old new : RunView) (client after : ClientView) (shown : List Output) → Carries old client shown new after → Silent shown
carries_silent old new client after shown = by_traffic client.traffic
  where
    by_up : (link : Link) (words : List (List ℕ)) (up : Bool) → MatchBool up (Arrives old client link words shown new after) (Rests old client shown new after) → Silent shown
    by_up link words true arrives = served_silent old new link.node link.conn words (Some arrives.reply) shown arrives.serves
    by_up link words false rests = subst Silent (sym rests.shows) tt

    by_traffic : (traffic : Traffic) → IsCarried old client traffic shown new after → Silent shown
    by_traffic (Asked link words) carried = by_up link words (is_up old link.node) carried
    by_traffic Quiet rests = subst Silent (sym rests.shows) tt
    by_traffic (Answered link reply) rests = subst Silent (sym rests.shows) tt

lingers_silent : (old new : RunView) (client after : ClientView) (shown : List Output) → Lingers old client shown new after → Silent shown
lingers_silent old new client after shown = by_late client.late
  where
    by_up : (late : Late) (others : List Late) (up : Bool) → MatchBool up (ComesLate old client late others shown new after) (Rests old client shown new after) → Silent shown
    by_up late others true comes = served_silent old comes.serves.run late.link.node late.link.conn late.words comes.serves.reply shown comes.serves.serves
    by_up late others false rests = subst Silent (sym rests.shows) tt

    by_late : (list : List Late) → IsLate old client list shown new after → Silent shown
    by_late [] rests = subst Silent (sym rests.shows) tt
    by_late (late ∷ others) comes = by_up late others (is_up old late.link.node) comes

-- ---- all steps

is_there : (old : SceneView) (place : ℕ) (client : ClientView) → slice_get old.clients place ≡ Some client → IsThere old client
is_there old place client is = inl (place, slice_get_within old.clients place client is, get_or_from_slice_get old.clients place client client is)

module _ (old : SceneView) (cluster_is : IsCluster old.config) (rule : KeepsRule old) (well : AllFollowWell old) (shown : List Output) (new : SceneView) where
  -- the client that has begun
  some_reasons : (does : ClientStep) (number : ℕ) (made : Step)
      → ((client : ClientView) (run : RunView) (after : ClientView) → IsThere old client → client.number ≡ number → AsksWell old.config.nodes old.run client → FollowsWell old.config.nodes old.run client → does old.run client shown run after
      → HaveReasons old made shown)
      → (found : Option ClientView) → client_at number old.clients ≡ found → IsOfSome does number found old shown new → HaveReasons old made shown
  some_reasons does number made reasons None is idle = no_reasons old made shown idle.shows
  some_reasons does number made reasons (Some client) is of =
      reasons of.client of.run of.after (is_there old (place_of number old.clients) of.client of.was) (numbered_at number old.clients client of.client is of.was)
      (asks_at old.config.nodes old.run old.clients (place_of number old.clients) of.client of.was rule.clients)
      (well_at old.config.nodes old.run old.clients (place_of number old.clients) of.client of.was well.clients) of.steps

  -- a call: of a client that has begun, or that begins
  call_reasons : (number : ℕ) (words : List (List ℕ)) → IsOfClient (Begins old.config.nodes words) (with_client old.config number old.clients) (place_of number old.clients) old shown new
      → HaveReasons old (step.Call number words) shown
  call_reasons number words of = by_found (client_at number old.clients) refl of.was
    where
      by_found : (found : Option ClientView) → client_at number old.clients ≡ found → slice_get (begun_at old.config number old.clients found) (place_of number old.clients) ≡ Some of.client
          → HaveReasons old (step.Call number words) shown
      by_found (Some client) is at =
          let asks = asks_at old.config.nodes old.run old.clients (place_of number old.clients) of.client at rule.clients in
          begins_reasons old number words of.client (is_there old (place_of number old.clients) of.client at) (numbered_at number old.clients client of.client is at)
          (λ quiet. of_call_so old.config.nodes old.run of.client Quiet quiet asks of.client.core.call refl) shown of.run of.after of.steps
      by_found None is at =
          let within = position-le (λ (client : ClientView). nat_le number client.number) old.clients in
          let same : new_client old.config number ≡ of.client = same_some (inserted_at old.clients (place_of number old.clients) (new_client old.config number) within) at in
          let numbered : of.client.number ≡ number = ap (λ (c : ClientView). c.number) (sym same) in
          begins_reasons old number words of.client (inr (sym same ∙ ap (new_client old.config) (sym numbered))) numbered (λ quiet. ap (λ (c : ClientView). c.core.call) (sym same)) shown of.run of.after of.steps

  stop_reasons : (node : ℕ) (up : Bool) → MatchBool up (IsStopping old node shown new) (IsNothing old shown new) → HaveReasons old (step.Stop node) shown
  stop_reasons node true stopping = subst (HaveReasons old (step.Stop node)) (sym stopping.shows) (stops_reasons old node old.clients (λ client among. among))
  stop_reasons node false idle = no_reasons old (step.Stop node) shown idle.shows

  pub have_reasons : (made : Step) → Plays old made shown new → HaveReasons old made shown
  have_reasons (step.Call number words) plays = call_reasons number words plays
  have_reasons (step.Carry number) plays =
      some_reasons _ number (step.Carry number) (λ client run after there is asks follows carries. silent_reasons old (step.Carry number) shown (carries_silent old.run run client after shown carries))
      (client_at number old.clients) refl plays
  have_reasons (step.Return number) plays =
      some_reasons _ number (step.Return number) (λ client run after there is asks follows returns. returns_reasons old cluster_is rule.configs number client there is follows asks shown run after returns) (client_at number old.clients) refl plays
  have_reasons (step.Cut number) plays =
      some_reasons _ number (step.Cut number) (λ client run after there is asks follows cuts. cuts_reasons old number client there is shown run after cuts) (client_at number old.clients) refl plays
  have_reasons (step.Late number) plays =
      some_reasons _ number (step.Late number) (λ client run after there is asks follows lingers. silent_reasons old (step.Late number) shown (lingers_silent old.run run client after shown lingers))
      (client_at number old.clients) refl plays
  have_reasons (step.Admin node words) of = silent_reasons old (step.Admin node words) shown (administers_quiet old.run of.run node words shown of.steps).1
  have_reasons (step.Tick node) of = silent_reasons old (step.Tick node) shown (ticks_quiet old.run of.run node shown of.steps).1
  have_reasons (step.Stop node) plays = stop_reasons node (is_up old.run node) plays
  have_reasons (step.Deliver number) of = silent_reasons old (step.Deliver number) shown (delivers_quiet old.run of.run number shown of.steps).1

-- In each step of a client its connections stay introduced, and it can follow what it is answered.
use Rattle.std.proofs.Common.{◌≡◌, ◌<◌, ◌∙◌, ◌∷◌, ◌++◌, ℕ, Bool, true, false, true≢false, cond, List, [], Option, None, Some, Err, get_or, length, refl, sym, ap, subst, inl, inr, arith}
use Rattle.std.proofs.lemmas.Bool.{and_parts, eqb-true, ltb-true}
use Rattle.std.proofs.lemmas.List.{get_or-set_same}
use Rattle.std.specs.Prelude.{MatchBool, slice_set, ⊤}
use Rattle.cluster_config.specs.Config.{ClusterConfig, IsCluster}
use Rattle.cluster_config.specs.declared.config.NodeConfig.{NodeConfig}
use Rattle.connections.specs.declared.conn.Conn.{Conn}
use Rattle.redirection.specs.Address.{Place}
use Rattle.resp_values.specs.declared.reply.Reply.{Reply}
use Rattle.smart_client.specs.State.{ClientState}
use Rattle.smart_client.specs.Step.{Steps, broken, ended, loses, with_connected, without_call}
use Rattle.smart_client.specs.declared.action.Action.{Action}
use Rattle.smart_client.specs.declared.action.Action.TheVariants as wanted
use Rattle.smart_client.specs.declared.action.Event.TheVariants as happened
use Rattle.smart_client.specs.declared.call.Call.{Call}
use Rattle.smart_client.specs.declared.call.Stage.{Stage}
use Rattle.smart_client.specs.declared.call.Stage.TheVariants as stage
use Rattle.smart_client.specs.declared.fault.ClientFault.TheVariants.{NotConnected}
use Rattle.world_nodes.specs.Nodes.{RunView, is_up}
use Rattle.world_nodes.specs.declared.link.Link.{Link}
use Rattle.world_nodes.specs.declared.output.Output.{Output}
use Rattle.world.proofs.Playing.{of_call_so}
use Rattle.world.specs.Asking.{AsksWell, IsInPool, IsOfCall}
use Rattle.world.specs.Calls.{Acts, Begins, ComesLate, Connects, Cuts, IsBegun, IsConnected, IsCut, IsLate, IsReturned, IsUsed, Lingers, Rests, Returns, Takes, Tells, Uses, link_to, told_of}
use Rattle.world.specs.Clients.{ClientView, broken_off, fault_of, leads_to, node_at, stopped_at, used_by, with_connection, without_late}
use Rattle.world.specs.declared.client.Late.{Late}
use Rattle.world.specs.declared.client.Traffic.{Traffic}
use Rattle.world.specs.declared.client.Traffic.TheVariants.{Quiet, Asked, Answered}
use Rattle.final_answers.proofs.Greeting.{IsGreeted, MayWant, answers_greeted, begins_greeted, connects_greeted}
use Rattle.final_answers.proofs.Kept.{IsIntroduced, Keeps, closes_keeps, connected_keeps, keeps_further, keeps_same, serves_keeps, shut_keeps}
use Rattle.final_answers.proofs.Leading.{CanFollow}
use Rattle.final_answers.proofs.Linked.{AreKept, kept_closed, kept_linked, kept_still, node_of}

in_some : {A : Type 0} {one other : A} → Some one ≡ Some other → one ≡ other
in_some same = cc

-- what is under way: a request on an introduced connection, but for the introduction, or a reply that can be followed
abbrev pub IsLed : List NodeConfig → RunView → Traffic → Option Call → Type 0
IsLed nodes run traffic None = ⊤
IsLed nodes run Quiet (Some call) = ⊤
IsLed nodes run (Asked link words) (Some call) = IsGreeted run (Some link) call.stage
IsLed nodes run (Answered link reply) (Some call) = IsIntroduced run link × (call.stage ≡ stage.Sent → CanFollow nodes true reply)

pub record FollowsWell (nodes : List NodeConfig) (run : RunView) (client : ClientView) : Type 0 where
  pub kept : AreKept nodes run client.pool client.core.peers
  pub led : IsLed nodes run client.traffic client.core.call

-- ---- steps of others

greeted_still : (old new : RunView) → Keeps old new → (link : Link) (at : Stage) → IsGreeted old (Some link) at → IsGreeted new (Some link) at
greeted_still old new keeps link stage.Connecting is = tt
greeted_still old new keeps link stage.Introducing is = tt
greeted_still old new keeps link stage.Asking is = keeps.introduced link is
greeted_still old new keeps link stage.Sent is = keeps.introduced link is

led_still : (nodes : List NodeConfig) (old new : RunView) → Keeps old new → (traffic : Traffic) (under : Option Call) → IsLed nodes old traffic under → IsLed nodes new traffic under
led_still nodes old new keeps traffic None is = tt
led_still nodes old new keeps Quiet (Some call) is = tt
led_still nodes old new keeps (Asked link words) (Some call) is = greeted_still old new keeps link call.stage is
led_still nodes old new keeps (Answered link reply) (Some call) is = (keeps.introduced link is.0, is.1)

pub follows_still : (nodes : List NodeConfig) (old new : RunView) → Keeps old new → (client : ClientView) → FollowsWell nodes old client → FollowsWell nodes new client
follows_still nodes old new keeps client well = record {
  kept = kept_still nodes old new client.pool client.core.peers keeps well.kept;
  led = led_still nodes old new keeps client.traffic client.core.call well.led;
}

-- ---- one client's part

quiet_led : (nodes : List NodeConfig) (run : RunView) (traffic : Traffic) (under : Option Call) → traffic ≡ Quiet → IsLed nodes run traffic under
quiet_led nodes run traffic under is = subst (λ (t : Traffic). IsLed nodes run t under) (sym is) (nothing under)
  where
    nothing : (under : Option Call) → IsLed nodes run Quiet under
    nothing None = tt
    nothing (Some call) = tt

-- the client goes on well, and the others can
pub record Goes (nodes : List NodeConfig) (old new : RunView) (after : ClientView) : Type 0 where
  pub keeps : Keeps old new
  pub well : FollowsWell nodes new after

goes_same : (nodes : List NodeConfig) (old new : RunView) (client after : ClientView) → FollowsWell nodes old client → new ≡ old → after ≡ client → Goes nodes old new after
goes_same nodes old new client after well run same =
    subst (λ (r : RunView). Goes nodes old r after) (sym run) (subst (Goes nodes old old) (sym same) (record { keeps = keeps_same old; well = well }))

goes_behind : (nodes : List NodeConfig) (old mid new : RunView) (after : ClientView) → Keeps old mid → Goes nodes mid new after → Goes nodes old new after
goes_behind nodes old mid new after first goes = record { keeps = keeps_further old mid new first goes.keeps; well = goes.well }

pub rests_well : (nodes : List NodeConfig) (old new : RunView) (client after : ClientView) (outputs : List Output) → FollowsWell nodes old client → Rests old client outputs new after → Goes nodes old new after
rests_well nodes old new client after outputs well rests = goes_same nodes old new client after well rests.run rests.same

module _ (config : ClusterConfig) (cluster_is : IsCluster config) where
  abbrev nodes : List NodeConfig
  nodes = config.nodes

  -- ---- what a client wants is done

  module _ (old new : RunView) (client after : ClientView) (quiet : client.traffic ≡ Quiet) (outputs : List Output) where
    uses_some : (link : Link) (action : Action) → MayWant config cluster_is old client.pool (Some link) client.core action → Uses old client (Some link) action outputs new after → Goes nodes old new after
    uses_some link (wanted.Connect address) may uses = absurd uses
    uses_some link (wanted.Send words) may uses =
        goes_same nodes old new (record client { traffic = Asked link words }) after
        (record { kept = may.3; led = subst (IsLed nodes old (Asked link words)) (sym may.1) may.2 }) uses.0 uses.1
    uses_some link (wanted.Done answer true) may uses =
        let keeps = shut_keeps old new link uses.0.0 in
        subst (Goes nodes old new) (sym uses.0.1)
        (record {
          keeps = keeps;
          well = record {
            kept = kept_still nodes old new (slice_set client.pool link.node None) client.core.peers keeps may;
            led = quiet_led nodes new client.traffic client.core.call quiet;
          };
        })
    uses_some link (wanted.Done answer false) may uses =
        goes_same nodes old new client after (record { kept = may; led = quiet_led nodes old client.traffic client.core.call quiet }) uses.0.0 uses.0.1

    uses_none : (action : Action) → MayWant config cluster_is old client.pool None client.core action → Uses old client None action outputs new after → Goes nodes old new after
    uses_none (wanted.Connect address) may uses = absurd uses
    uses_none (wanted.Send words) may uses = absurd uses
    uses_none (wanted.Done answer close) may uses =
        goes_same nodes old new client after (record { kept = may; led = quiet_led nodes old client.traffic client.core.call quiet }) uses.0.0 uses.0.1

  -- where there is no connection the call is over
  module _ (run : RunView) (pool : List (Option Conn)) (old new : ClientState) (action : Action) (call : Call) (are : AreKept nodes run pool (with_connected old.peers call.to false)) where
    abbrev StepsFrom : Option Call → Type 0
    StepsFrom under = Steps (record old { call = under }) happened.NotConnected action new

    over_then : StepsFrom (Some call) → MayWant config cluster_is run pool None new action
    over_then (inl follows) =
        subst (λ (core : ClientState). MayWant config cluster_is run pool None core action) (sym follows.0)
        (subst (MayWant config cluster_is run pool None (ended (record old { call = Some call }) (Err NotConnected))) (sym follows.1) are)
    over_then (inr refused) = absurd (true≢false (sym refused.0))

    fails_so : old.call ≡ Some call → Steps old happened.NotConnected action new → MayWant config cluster_is run pool None new action
    fails_so is steps = over_then (subst StepsFrom is steps)

  -- a connection that is made is kept
  linked_in_pool : (old new : RunView) (pool : List (Option Conn)) → length pool ≡ length old.nodes → (node : ℕ) (before : Option Conn) (conn : Conn) → IsConnected old node before (Some conn) new
      → IsInPool (slice_set pool node (Some conn)) (record { node = node; conn = conn })
  linked_in_pool old new pool places node before conn = by_up (is_up old node) refl
    where
      by_up : (up : Bool) → is_up old node ≡ up → MatchBool up (IsUsed old node before (Some conn) new) ((new ≡ old) × (◌≡◌ {A = Option Conn} (Some conn) None))
          → IsInPool (slice_set pool node (Some conn)) (record { node = node; conn = conn })
      by_up true up used =
          let below : node < length old.nodes = ltb-true node (length old.nodes) (and_parts _ _ up).0 in
          get_or-set_same pool node (Some conn) None (omega (arith, below, places))
      by_up false down gone = absurd (cc (gone.1))

  module _ (old : RunView) (client : ClientView) (quiet : client.traffic ≡ Quiet) (places : length client.pool ≡ length old.nodes) where
    connects_well : (address : Place) (outputs : List Output) (new : RunView) (after : ClientView) → (link : Option Link) → MayWant config cluster_is old client.pool link client.core (wanted.Connect address)
        → Connects nodes old client address outputs new after → Goes nodes old new after
    connects_well address outputs new after link (call, is, there, are) made = by_conn made.conn made.connected made.tells
      where
        node : ℕ
        node = node_at nodes address

        by_conn : (conn : Option Conn) → IsConnected old node (get_or client.pool node None) conn made.run
            → Tells made.run (with_connection client node conn) (link_to node conn) (told_of (link_to node conn)) outputs new after → Goes nodes old new after
        by_conn None connected tells =
            let keeps = connected_keeps old made.run node (get_or client.pool node None) None connected in
            let left = kept_still nodes old made.run (slice_set client.pool node None) (with_connected client.core.peers call.to false) keeps
            (kept_closed config cluster_is old client.pool client.core.peers are call.to node (ap (node_at nodes) there)) in
            goes_behind nodes old made.run new after keeps
            (uses_none made.run new (record (with_connection client node None) { core = tells.core }) after quiet outputs tells.action
            (fails_so made.run (slice_set client.pool node None) client.core tells.core tells.action call left is tells.steps) tells.uses)
        by_conn (Some one) connected tells =
            let keeps = connected_keeps old made.run node (get_or client.pool node None) (Some one) connected in
            let linked = kept_linked config cluster_is old made.run client.pool client.core.peers are node one connected in
            let in_pool = linked_in_pool old made.run client.pool places node (get_or client.pool node None) one connected in
            goes_behind nodes old made.run new after keeps
            (uses_some made.run new (record (with_connection client node (Some one)) { core = tells.core }) after quiet outputs (record { node = node; conn = one }) tells.action
            (connects_greeted config cluster_is made.run (slice_set client.pool node (Some one)) client.core tells.core tells.action linked call is (record { node = node; conn = one }) (ap (node_at nodes) there) in_pool tells.steps)
            tells.uses)

    acts_some : (link : Link) (action : Action) (outputs : List Output) (new : RunView) (after : ClientView) → MayWant config cluster_is old client.pool (Some link) client.core action
        → Acts nodes old client (Some link) action outputs new after → Goes nodes old new after
    acts_some link (wanted.Connect address) outputs new after may acts = connects_well address outputs new after (Some link) may acts
    acts_some link (wanted.Send words) outputs new after may acts = uses_some old new client after quiet outputs link (wanted.Send words) may acts
    acts_some link (wanted.Done answer close) outputs new after may acts = uses_some old new client after quiet outputs link (wanted.Done answer close) may acts

    acts_none : (action : Action) (outputs : List Output) (new : RunView) (after : ClientView) → MayWant config cluster_is old client.pool None client.core action
        → Acts nodes old client None action outputs new after → Goes nodes old new after
    acts_none (wanted.Connect address) outputs new after may acts = connects_well address outputs new after None may acts
    acts_none (wanted.Send words) outputs new after may acts = uses_none old new client after quiet outputs (wanted.Send words) may acts
    acts_none (wanted.Done answer close) outputs new after may acts = uses_none old new client after quiet outputs (wanted.Done answer close) may acts

  -- ---- steps of a client

  -- a call begins
  pub begins_well : (old new : RunView) (client after : ClientView) (outputs : List Output) (words : List (List ℕ)) → FollowsWell nodes old client → (client.traffic ≡ Quiet → client.core.call ≡ None)
      → length client.pool ≡ length old.nodes → Begins nodes words old client outputs new after → Goes nodes old new after
  begins_well old new client after outputs words well settled places = by_traffic client.traffic refl
    where
      by_traffic : (traffic : Traffic) → client.traffic ≡ traffic → IsBegun nodes old client traffic words outputs new after → Goes nodes old new after
      by_traffic Quiet is takes =
          acts_none old (record client { core = takes.core }) is places takes.action outputs new after
          (begins_greeted config cluster_is old client.pool client.core takes.core takes.action well.kept words (settled is) takes.steps) takes.acts
      by_traffic (Asked link sent) is rests = rests_well nodes old new client after outputs well rests
      by_traffic (Answered link reply) is rests = rests_well nodes old new client after outputs well rests

  module _ (old new : RunView) (client after : ClientView) (outputs : List Output) (asks : AsksWell nodes old client) (well : FollowsWell nodes old client) where
    pub led_so : (traffic : Traffic) → client.traffic ≡ traffic → (under : Option Call) → client.core.call ≡ under → IsLed nodes old traffic under
    led_so traffic is under called = subst (IsLed nodes old traffic) called (subst (λ (t : Traffic). IsLed nodes old t client.core.call) is well.led)

    -- a reply comes
    pub returns_well : Returns nodes old client outputs new after → Goes nodes old new after
    returns_well = by_traffic client.traffic refl
      where
        takes_reply : (link : Link) (reply : Reply) → client.traffic ≡ Answered link reply → (under : Option Call) → client.core.call ≡ under → IsOfCall nodes old client.core client.pool (Answered link reply) under
            → IsLed nodes old (Answered link reply) under → Takes nodes old (record client { traffic = Quiet }) (Some link) (happened.Reply reply) outputs new after → Goes nodes old new after
        takes_reply link reply is None called of_call led takes = absurd of_call
        takes_reply link reply is (Some call) called of_call led takes =
            acts_some old (record client { traffic = Quiet; core = takes.core }) refl asks.connected.places link takes.action outputs new after
            (answers_greeted config cluster_is old client.pool client.core takes.core takes.action well.kept call called link reply of_call.0.there of_call.0.in_use led.0 led.1 takes.steps) takes.acts

        by_traffic : (traffic : Traffic) → client.traffic ≡ traffic → IsReturned nodes old client traffic outputs new after → Goes nodes old new after
        by_traffic (Answered link reply) is takes =
            takes_reply link reply is client.core.call refl (of_call_so nodes old client (Answered link reply) is asks client.core.call refl) (led_so (Answered link reply) is client.core.call refl) takes
        by_traffic Quiet is rests = rests_well nodes old new client after outputs well rests
        by_traffic (Asked link words) is rests = rests_well nodes old new client after outputs well rests

    -- a connection breaks
    loses_so : (at : Stage) → loses (Err (broken at true)) ≡ true
    loses_so stage.Connecting = refl
    loses_so stage.Introducing = refl
    loses_so stage.Asking = refl
    loses_so stage.Sent = refl

    kept_broken : (call : Call) → client.core.call ≡ Some call → (node : ℕ) → node ≡ node_of nodes client.core.peers call.to → AreKept nodes old (slice_set client.pool node None) (broken_off node client).core.peers
    kept_broken call is node there =
        subst (λ (under : Option Call). AreKept nodes old (slice_set client.pool node None) (without_call under client.core (loses (Err (fault_of under)))).peers) (sym is)
        (subst (λ (lost : Bool). AreKept nodes old (slice_set client.pool node None) (without_call (Some call) client.core lost).peers) (sym (loses_so call.stage))
        (kept_closed config cluster_is old client.pool client.core.peers well.kept call.to node there))

    breaks_well : (call : Call) → client.core.call ≡ Some call → (node : ℕ) → node ≡ node_of nodes client.core.peers call.to → (late : List Late) → FollowsWell nodes old (record (broken_off node client) { late = late })
    breaks_well call is node there late =
        record { kept = kept_broken call is node there; led = quiet_led nodes old Quiet (broken_off node client).core.call refl }

    pub cuts_well : Cuts old client outputs new after → Goes nodes old new after
    cuts_well = by_traffic client.traffic refl
      where
        asked_so : (link : Link) (words : List (List ℕ)) (under : Option Call) → client.core.call ≡ under → IsOfCall nodes old client.core client.pool (Asked link words) under → IsCut old client (Asked link words) outputs new after
            → Goes nodes old new after
        asked_so link words None called of_call cut = absurd of_call
        asked_so link words (Some call) called of_call cut =
            let late : List Late = client.late ++ (record { link = link; words = words }) ∷ [] in
            goes_same nodes old new (record (broken_off link.node client) { late = late }) after (breaks_well call called link.node of_call.0.there late) cut.0 cut.1

        answered_so : (link : Link) (reply : Reply) (under : Option Call) → client.core.call ≡ under → IsOfCall nodes old client.core client.pool (Answered link reply) under → IsCut old client (Answered link reply) outputs new after
            → Goes nodes old new after
        answered_so link reply None called of_call cut = absurd of_call
        answered_so link reply (Some call) called of_call cut =
            let keeps = shut_keeps old new link cut.0 in
            subst (Goes nodes old new) (sym cut.1)
            (record { keeps = keeps; well = follows_still nodes old new keeps (broken_off link.node client) (breaks_well call called link.node of_call.0.there client.late) })

        by_traffic : (traffic : Traffic) → client.traffic ≡ traffic → IsCut old client traffic outputs new after → Goes nodes old new after
        by_traffic Quiet is rests = rests_well nodes old new client after outputs well rests
        by_traffic (Asked link words) is cut = asked_so link words client.core.call refl (of_call_so nodes old client (Asked link words) is asks client.core.call refl) cut
        by_traffic (Answered link reply) is cut = answered_so link reply client.core.call refl (of_call_so nodes old client (Answered link reply) is asks client.core.call refl) cut

    pub stops_well : (node : ℕ) → FollowsWell nodes old (stopped_at node client)
    stops_well node = by_leads (leads_to node (used_by client.traffic)) refl
      where
        later : FollowsWell nodes old (without_late node client)
        later = record { kept = well.kept; led = well.led }

        breaks_at : (link : Link) → link.node ≡ node → (traffic : Traffic) → used_by traffic ≡ Some link → (under : Option Call) → client.core.call ≡ under → IsOfCall nodes old client.core client.pool traffic under
            → FollowsWell nodes old (broken_off node (without_late node client))
        breaks_at link same Quiet used under called of_call = absurd (cc (used))
        breaks_at link same (Asked other words) used None called of_call = absurd of_call
        breaks_at link same (Asked other words) used (Some call) called of_call =
            breaks_well call called node (sym same ∙ ap (λ (l : Link). l.node) (sym (in_some used)) ∙ of_call.0.there) (without_late node client).late
        breaks_at link same (Answered other reply) used None called of_call = absurd of_call
        breaks_at link same (Answered other reply) used (Some call) called of_call =
            breaks_well call called node (sym same ∙ ap (λ (l : Link). l.node) (sym (in_some used)) ∙ of_call.0.there) (without_late node client).late

        by_used : (used : Option Link) → used_by client.traffic ≡ used → leads_to node used ≡ true → FollowsWell nodes old (broken_off node (without_late node client))
        by_used None is leads = absurd (true≢false (sym leads))
        by_used (Some link) is leads =
            breaks_at link (eqb-true link.node node leads) client.traffic is client.core.call refl (of_call_so nodes old client client.traffic refl asks client.core.call refl)

        by_leads : (leads : Bool) → leads_to node (used_by client.traffic) ≡ leads → FollowsWell nodes old (cond leads (broken_off node (without_late node client)) (without_late node client))
        by_leads false is = later
        by_leads true is = by_used (used_by client.traffic) refl is

    -- a late request comes
    pub lingers_well : Lingers old client outputs new after → Goes nodes old new after
    lingers_well = by_late client.late
      where
        by_up : (late : Late) (others : List Late) (up : Bool) → MatchBool up (ComesLate old client late others outputs new after) (Rests old client outputs new after) → Goes nodes old new after
        by_up late others false rests = rests_well nodes old new client after outputs well rests
        by_up late others true comes =
            let served = comes.serves in
            let keeps = keeps_further old served.run new (serves_keeps old served.run late.link.node late.link.conn late.words served.reply outputs served.serves)
            (closes_keeps served.run new late.link.node (late.link.conn ∷ []) served.closes) in
            subst (Goes nodes old new) (sym comes.left)
            (record { keeps = keeps; well = follows_still nodes old new keeps (record client { late = others }) (record { kept = well.kept; led = well.led }) })

        by_late : (list : List Late) → IsLate old client list outputs new after → Goes nodes old new after
        by_late [] rests = rests_well nodes old new client after outputs well rests
        by_late (late ∷ others) comes = by_up late others (is_up old late.link.node) comes

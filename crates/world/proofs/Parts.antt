-- A client's part in a step: it goes on asking well, on connections of its own.
use Rattle.std.proofs.Common.{◌≡◌, ◌⊎◌, ◌<◌, ◌∙◌, ℕ, Bool, true, false, true≢false, List, [], ◌∷◌, Option, None, Some, get_or, set, length, refl, sym, ap, subst, inl, inr, arith}
use Rattle.std.proofs.lemmas.Bool.{and_parts, cases_eq, ltb-true}
use Rattle.std.proofs.lemmas.List.{get_or-set_other, get_or-set_same}
use Rattle.std.specs.Prelude.{IfSome, MatchBool, slice_set}
use Rattle.cluster_config.specs.declared.config.NodeConfig.{NodeConfig}
use Rattle.connections.specs.declared.conn.Conn.{Conn}
use Rattle.node_step.specs.declared.event.Event.TheVariants.{Open}
use Rattle.node_step.specs.declared.outputs.Outputs.{Outputs}
use Rattle.node_step.specs.declared.response.Response.TheVariants.{Opened}
use Rattle.redirection.specs.Address.{Place}
use Rattle.redirect.specs.declared.asked.Asking.TheVariants.{No}
use Rattle.smart_client.specs.declared.action.Action.{Action}
use Rattle.smart_client.specs.declared.action.Action.TheVariants as wanted
use Rattle.world_nodes.specs.Allowed.{IsKnown, asking_at, past_of}
use Rattle.world_nodes.specs.NodeSteps.{Closes, Makes}
use Rattle.world_nodes.specs.Nodes.{RunView, is_up}
use Rattle.world_nodes.specs.Serving.{IsOpened}
use Rattle.world_nodes.specs.declared.link.Link.{Link}
use Rattle.world_nodes.specs.declared.output.Output.{Output}
use Rattle.world_nodes.proofs.Leaving.{IsFresh, Leaves, closes_leaves, leaves_all, leaves_further, none_changed, opened_is_fresh, opens_leaves, skips_leaves}
use Rattle.world.specs.Asking.{AreConnected, AsksWell, Holds, IsCutOff, IsInPool, IsOfCall}
use Rattle.world.specs.Calls.{Acts, Connects, GivesUp, IsConnected, IsShut, IsUsed, Tells, Uses, link_to, told_of}
use Rattle.world.specs.Clients.{ClientView, node_at, used_by, with_connection}
use Rattle.world.specs.declared.client.Late.{Late}
use Rattle.world.specs.declared.client.Traffic.{Traffic}
use Rattle.world.specs.declared.client.Traffic.TheVariants.{Quiet, Asked}
use Rattle.world.proofs.Pool.{put_again, put_is}
use Rattle.world.proofs.Stays.{at_rest, called_stays, connected_stays, in_pool_before, in_use, leads_elsewhere, with_new, without}
use Rattle.world.proofs.Told.{IsGoing, IsSending, MayDo, MayRest, connects_well, fails_well}

-- the connections of a client that keeps these and was cut off those
abbrev pub IsAmong : List (Option Conn) → List Late → Link → Type 0
IsAmong pool late link = IsInPool pool link ⊎ IsCutOff late link

-- only connections that changed as said are others than before, or allow more
pub record Part (changed : Link → Type 0) (nodes : List NodeConfig) (old : RunView) (pool : List (Option Conn)) (late : List Late) (new : RunView) (after : ClientView) : Type 0 where
  pub leaves : Leaves changed old new
  pub asks : AsksWell nodes new after
  pub holds : (link : Link) → Holds after link → IsAmong pool late link ⊎ (IsKnown old link → ⊥)

-- a client without a call
pub quiet_asks : (nodes : List NodeConfig) (run : RunView) (client : ClientView) → client.traffic ≡ Quiet → client.core.call ≡ None → AreConnected run client.pool client.late None → AsksWell nodes run client
quiet_asks nodes run client quiet none connected = record {
  connected = subst (λ (traffic : Traffic). AreConnected run client.pool client.late (used_by traffic)) (sym quiet) connected;
  call = subst (λ (traffic : Traffic). IsOfCall nodes run client.core client.pool traffic client.core.call) (sym quiet) none;
}

-- a connection is closed, or that to a node that was stopped is left
shut_leaves : (old new : RunView) (link : Link) → IsShut old link new → Leaves none_changed old new
shut_leaves old new link shut = by_up (is_up old link.node) shut
  where
    by_up : (up : Bool) → MatchBool up (Closes old link.node (link.conn ∷ []) new) (new ≡ old) → Leaves none_changed old new
    by_up true closes = closes_leaves old new link.node (link.conn ∷ []) closes
    by_up false same = subst (Leaves none_changed old) (sym same) (leaves_all none_changed old)

-- as long as nothing is changed
pub connected_on : (old new : RunView) (pool : List (Option Conn)) (late : List Late) (used : Option Link) → Leaves none_changed old new → AreConnected old pool late used → AreConnected new pool late used
connected_on old new pool late used leaves = connected_stays none_changed old new leaves pool late used (λ link is unused none. none) (λ request among none. none)

-- the connection in use is given up
pub given_up : (old new : RunView) (pool : List (Option Conn)) (late : List Late) (link : Link) → IsShut old link new → AreConnected old pool late (Some link)
    → Leaves none_changed old new × AreConnected new (slice_set pool link.node None) late None
given_up old new pool late link shut connected =
    let leaves = shut_leaves old new link shut in (
      leaves,
      connected_on old new (slice_set pool link.node None) late None leaves
          (without old pool late (Some link) link.node (λ other apart. leads_elsewhere other link apart) connected),
    )

-- what is kept and left is nothing more than before
pub still_held : (pool : List (Option Conn)) (late : List Late) (node : ℕ) (run : RunView) (link : Link) → IsAmong (slice_set pool node None) late link → IsAmong pool late link
still_held pool late node run link (inl is) = inl (in_pool_before run pool late node link is).1
still_held pool late node run link (inr cut) = inr cut

module _ (nodes : List NodeConfig) (old : RunView) (client : ClientView) (quiet : client.traffic ≡ Quiet) where
  -- ---- with the connection in use

  ends : (link : Link) (close : Bool) (new : RunView) (after : ClientView) → AreConnected old client.pool client.late (Some link) → IsInPool client.pool link
      → client.core.call ≡ None → MayRest (asking_at old link) close → GivesUp old client (Some link) close new after → Part none_changed nodes old client.pool client.late new after
  ends link true new after connected there over may gives =
      let left = given_up old new client.pool client.late link gives.0 connected in
      subst (Part none_changed nodes old client.pool client.late new) (sym gives.1)
      (record {
        leaves = left.0;
        asks = quiet_asks nodes new (with_connection client link.node None) quiet over left.1;
        holds = λ other held. inl (still_held client.pool client.late link.node old other held);
      })
  ends link false new after connected there over (inr closed) gives = absurd (true≢false (sym closed))
  ends link false new after connected there over (inl nothing) gives =
      subst (λ (run : RunView). Part none_changed nodes old client.pool client.late run after) (sym gives.0)
      (subst (Part none_changed nodes old client.pool client.late old) (sym gives.1)
      (record {
        leaves = leaves_all none_changed old;
        asks = quiet_asks nodes old client quiet over (at_rest old client.pool client.late link there nothing connected);
        holds = λ other held. inl held;
      }))

  sends : (link : Link) (words : List (List ℕ)) (outputs : List Output) (new : RunView) (after : ClientView) → AreConnected old client.pool client.late (Some link) → IsInPool client.pool link
      → IsSending nodes (past_of old) link.node (asking_at old link) client.core words → Uses old client (Some link) (wanted.Send words) outputs new after
      → Part none_changed nodes old client.pool client.late new after
  sends link words outputs new after connected there sending uses =
      let asked : IsOfCall nodes old client.core client.pool (Asked link words) client.core.call =
      subst (IsOfCall nodes old client.core client.pool (Asked link words)) (sym sending.is)
      (record { called = sending.called; there = sending.there; in_use = there }, sending.sent) in
      subst (λ (run : RunView). Part none_changed nodes old client.pool client.late run after) (sym uses.0)
      (subst (Part none_changed nodes old client.pool client.late old) (sym uses.1)
      (record { leaves = leaves_all none_changed old; asks = record { connected = connected; call = asked }; holds = λ other held. inl held }))

  pub uses_some : (link : Link) (action : Action) (outputs : List Output) (new : RunView) (after : ClientView) → AreConnected old client.pool client.late (Some link) → IsInPool client.pool link
      → MayDo nodes (past_of old) link.node (asking_at old link) client.core action → Uses old client (Some link) action outputs new after → Part none_changed nodes old client.pool client.late new after
  uses_some link (wanted.Connect address) outputs new after connected there may uses = absurd uses
  uses_some link (wanted.Send words) outputs new after connected there may uses = sends link words outputs new after connected there may uses
  uses_some link (wanted.Done answer close) outputs new after connected there may uses = ends link close new after connected there may.0 may.1 uses.0

  pub uses_none : (node : ℕ) (action : Action) (outputs : List Output) (new : RunView) (after : ClientView) → AreConnected old client.pool client.late None
      → MayDo nodes (past_of old) node No client.core action → Uses old client None action outputs new after
      → Part none_changed nodes old client.pool client.late new after
  uses_none node (wanted.Connect address) outputs new after connected may uses = absurd uses
  uses_none node (wanted.Send words) outputs new after connected may uses = absurd uses
  uses_none node (wanted.Done answer close) outputs new after connected may uses =
      subst (λ (run : RunView). Part none_changed nodes old client.pool client.late run after) (sym uses.0.0)
      (subst (Part none_changed nodes old client.pool client.late old) (sym uses.0.1)
      (record { leaves = leaves_all none_changed old; asks = quiet_asks nodes old client quiet may.0 connected; holds = λ other held. inl held }))

-- ---- a connection that is wanted

-- a connection to the node is kept then, if there is one
pub record IsLinked (old : RunView) (pool : List (Option Conn)) (late : List Late) (node : ℕ) (conn : Option Conn) (new : RunView) : Type 0 where
  pub leaves : Leaves none_changed old new
  pub connected : AreConnected new (slice_set pool node conn) late None
  pub there : IfSome conn (λ one. IsInPool (slice_set pool node conn) (record { node = node; conn = one }) × (asking_at new (record { node = node; conn = one }) ≡ No))
  pub holds : (link : Link) → IsInPool (slice_set pool node conn) link → IsInPool pool link ⊎ (IsKnown old link → ⊥)

module _ (old : RunView) (pool : List (Option Conn)) (late : List Late) (connected : AreConnected old pool late None) (node : ℕ) where
  -- nothing was kept there, and nothing is
  unlinked : (new : RunView) → Leaves none_changed old new → IsLinked old pool late node None new
  unlinked new leaves = record {
    leaves = leaves;
    connected = connected_on old new (slice_set pool node None) late None leaves (without old pool late None node (λ link apart. refl) connected);
    there = tt;
    holds = λ link is. inl (in_pool_before old pool late node link is).1;
  }

  -- what was kept there is
  linked_still : (one : Conn) → get_or pool node None ≡ Some one → IsLinked old pool late node (Some one) old
  linked_still one is =
      let again : slice_set pool node (Some one) ≡ pool = put_again pool node (Some one) is in
      let link : Link = record { node = node; conn = one } in
      record {
        leaves = leaves_all none_changed old;
        connected = subst (λ (list : List (Option Conn)). AreConnected old list late None) (sym again) connected;
        there = (subst (λ (list : List (Option Conn)). IsInPool list link) (sym again) is, (connected.idle link is).calm refl);
        holds = λ other held. inl (subst (λ (list : List (Option Conn)). IsInPool list other) again held);
      }

  -- a new one is
  newly_linked : (one : Conn) (outputs : Outputs) (new : RunView) → node < length pool → Makes old node Open outputs new → outputs.response ≡ Opened one → IsLinked old pool late node (Some one) new
  newly_linked one outputs new within makes names =
      let link : Link = record { node = node; conn = one } in
      let leaves = opens_leaves old new node outputs makes in
      let fresh : IsFresh old new link = opened_is_fresh old new node one outputs makes names in
      let none_cut : IsCutOff late link → ⊥ = λ cut. fresh.unknown (subst (IsKnown old) cut.2 (connected.left cut.0 cut.1).known) in
      record {
        leaves = leaves;
        connected = with_new new pool late node one fresh.known fresh.calm none_cut (connected_on old new pool late None leaves connected);
        there = (get_or-set_same pool node (Some one) None within, fresh.calm);
        holds = held one within fresh.unknown;
      }
    where
      held : (one : Conn) → node < length pool → (IsKnown old (record { node = node; conn = one }) → ⊥) → (link : Link) → IsInPool (slice_set pool node (Some one)) link
          → IsInPool pool link ⊎ (IsKnown old link → ⊥)
      held one within unknown link is =
          elim (cases_eq link.node node) [
            | inl same ↦
                let conns : one ≡ link.conn = put_is pool node one link.conn (sym (ap (λ (n : ℕ). get_or (set pool node (Some one)) n None) same) ∙ is) in
                let is_it : record { node = node; conn = one } ≡ link = λ i. record { node = sym same i; conn = conns i } in
                inr (subst (λ (l : Link). IsKnown old l → ⊥) is_it unknown)
            | inr apart ↦ inl (sym (get_or-set_other pool node link.node (Some one) None apart) ∙ is)
          ]

  pub links : (conn : Option Conn) (new : RunView) → IsConnected old node (get_or pool node None) conn new → IsLinked old pool late node conn new
  links conn new = by_up (is_up old node) refl
    where
      gone_link : (new : RunView) (conn : Option Conn) → new ≡ old → conn ≡ None → IsLinked old pool late node conn new
      gone_link new conn same none =
          subst (λ (run : RunView). IsLinked old pool late node conn run) (sym same)
          (subst (λ (c : Option Conn). IsLinked old pool late node c old) (sym none) (unlinked old (leaves_all none_changed old)))

      opened_link : node < length pool → (conn : Option Conn) (new : RunView) → IsOpened old node conn new → IsLinked old pool late node conn new
      opened_link within None new skips = unlinked new (skips_leaves old new node skips.enters)
      opened_link within (Some one) new opened = newly_linked one opened.0 new within opened.1 opened.2

      used_link : node < length pool → (before : Option Conn) → get_or pool node None ≡ before → (conn : Option Conn) (new : RunView) → IsUsed old node before conn new → IsLinked old pool late node conn new
      used_link within None is conn new opened = opened_link within conn new opened
      used_link within (Some one) is conn new (same, it) =
          subst (λ (run : RunView). IsLinked old pool late node conn run) (sym same)
          (subst (λ (c : Option Conn). IsLinked old pool late node c old) (sym it) (linked_still one is))

      by_up : (up : Bool) → is_up old node ≡ up → MatchBool up (IsUsed old node (get_or pool node None) conn new) ((new ≡ old) × (conn ≡ None)) → IsLinked old pool late node conn new
      by_up false down (same, none) = gone_link new conn same none
      by_up true up used =
          let below : node < length old.nodes = ltb-true node (length old.nodes) (and_parts _ _ up).0 in
          let within : node < length pool = omega (arith, below, connected.places) in
          used_link within (get_or pool node None) refl conn new used

-- the client goes on from what it keeps then
further : (nodes : List NodeConfig) (old mid new : RunView) (pool : List (Option Conn)) (late : List Late) (node : ℕ) (conn : Option Conn) (after : ClientView) → IsLinked old pool late node conn mid
    → Part none_changed nodes mid (slice_set pool node conn) late new after → Part none_changed nodes old pool late new after
further nodes old mid new pool late node conn after linked part = record {
  leaves = leaves_further none_changed old mid new linked.leaves part.leaves;
  asks = part.asks;
  holds = λ link held.
      elim (part.holds link held) [
        | inl among ↦
            elim among [
              | inl is ↦
                  elim (linked.holds link is) [
                    | inl before ↦ inl (inl before)
                    | inr unknown ↦ inr unknown
                  ]
              | inr cut ↦ inl (inr cut)
            ]
        | inr unknown ↦ inr (λ known. unknown (linked.leaves.known link known))
      ];
}

module _ (nodes : List NodeConfig) (old : RunView) (client : ClientView) (quiet : client.traffic ≡ Quiet) where
  -- a client that wants a connection is told whether there is one
  told_so : (address : Place) (conn : Option Conn) (run new : RunView) (outputs : List Output) (after : ClientView) → IsGoing nodes (past_of old) client.core address
      → IsLinked old client.pool client.late (node_at nodes address) conn run
      → Tells run (with_connection client (node_at nodes address) conn) (link_to (node_at nodes address) conn) (told_of (link_to (node_at nodes address) conn)) outputs new after
      → Part none_changed nodes run (slice_set client.pool (node_at nodes address) conn) client.late new after
  told_so address None run new outputs after going linked tells =
      let node : ℕ = node_at nodes address in
      let may = fails_well nodes (past_of run) node client.core tells.core going.call tells.action going.is tells.steps in
      uses_none nodes run (record (with_connection client (node_at nodes address) None) { core = tells.core }) quiet node tells.action outputs new after linked.connected may tells.uses
  told_so address (Some one) run new outputs after going linked tells =
      let node : ℕ = node_at nodes address in
      let link : Link = record { node = node; conn = one } in
      let called = called_stays none_changed old run linked.leaves nodes client.core going.call going.called in
      let may = connects_well nodes (past_of run) node (asking_at run link) client.core tells.core going.call tells.action going.is linked.there.1 called (ap (node_at nodes) going.there) tells.steps in
      uses_some nodes run (record (with_connection client node (Some one)) { core = tells.core }) quiet link tells.action outputs new after
      (in_use run (slice_set client.pool node (Some one)) client.late (Some link) linked.connected) linked.there.0 may tells.uses

  pub connects : (address : Place) (outputs : List Output) (new : RunView) (after : ClientView) → AreConnected old client.pool client.late None → IsGoing nodes (past_of old) client.core address
      → Connects nodes old client address outputs new after → Part none_changed nodes old client.pool client.late new after
  connects address outputs new after connected going made =
      let node : ℕ = node_at nodes address in
      let linked = links old client.pool client.late connected node made.conn made.run made.connected in
      further nodes old made.run new client.pool client.late node made.conn after linked (told_so address made.conn made.run new outputs after going linked made.tells)

  -- whatever a client wants, of which the last reply came on this connection
  pub acts_some : (link : Link) (action : Action) (outputs : List Output) (new : RunView) (after : ClientView) → AreConnected old client.pool client.late (Some link) → IsInPool client.pool link
      → MayDo nodes (past_of old) link.node (asking_at old link) client.core action → Acts nodes old client (Some link) action outputs new after → Part none_changed nodes old client.pool client.late new after
  acts_some link (wanted.Connect address) outputs new after connected there may acts =
      connects address outputs new after (at_rest old client.pool client.late link there may.1 connected) may.0 acts
  acts_some link (wanted.Send words) outputs new after connected there may acts = uses_some nodes old client quiet link (wanted.Send words) outputs new after connected there may acts
  acts_some link (wanted.Done answer close) outputs new after connected there may acts = uses_some nodes old client quiet link (wanted.Done answer close) outputs new after connected there may acts

  -- or that begins a call
  pub acts_none : (node : ℕ) (action : Action) (outputs : List Output) (new : RunView) (after : ClientView) → AreConnected old client.pool client.late None
      → MayDo nodes (past_of old) node No client.core action → Acts nodes old client None action outputs new after → Part none_changed nodes old client.pool client.late new after
  acts_none node (wanted.Connect address) outputs new after connected may acts = connects address outputs new after connected may.0 acts
  acts_none node (wanted.Send words) outputs new after connected may acts = absurd acts
  acts_none node (wanted.Done answer close) outputs new after connected may acts = uses_none nodes old client quiet node (wanted.Done answer close) outputs new after connected may acts

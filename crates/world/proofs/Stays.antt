-- What holds of a client's connections and of its call, as long as nobody else uses them.
use Rattle.std.proofs.Common.{◌≡◌, ◌≢◌, ◌⊎◌, ◌∙◌, ◌++◌, ℕ, false, List, Contains, Option, None, Some, get_or, set, refl, sym, ap, subst, inl, inr, append_assoc}
use Rattle.std.proofs.lemmas.Bool.{cases_eq, ne_eqb}
use Rattle.std.proofs.lemmas.List.{get_or-set_other, length-set}
use Rattle.std.specs.Prelude.{IfSome, slice_set}
use Rattle.cluster_config.specs.Config.{ClusterConfig}
use Rattle.cluster_config.specs.declared.config.NodeConfig.{NodeConfig}
use Rattle.connections.specs.declared.conn.Conn.{Conn}
use Rattle.resp_values.specs.declared.reply.Reply.{Reply}
use Rattle.single_keyspace.proofs.Seen.{no_some, same_some}
use Rattle.redirect.specs.declared.asked.Asking.{Asking}
use Rattle.redirect.specs.declared.asked.Asking.TheVariants.{No, Any, Of}
use Rattle.smart_client.specs.State.{ClientState}
use Rattle.smart_client.specs.declared.call.Call.{Call}
use Rattle.smart_client.specs.declared.call.Stage.{Stage}
use Rattle.smart_client.specs.declared.call.Stage.TheVariants as stage
use Rattle.world_run.specs.Run.{Entry}
use Rattle.world_nodes.specs.Allowed.{IsAllowed, IsKnown, IsTold, asking_at, past_of}
use Rattle.world_nodes.specs.Nodes.{RunView}
use Rattle.world_nodes.specs.declared.link.Link.{Link}
use Rattle.world_nodes.proofs.Connected.{IsCalm}
use Rattle.world_nodes.proofs.Leaving.{Leaves}
use Rattle.world.specs.Asking.{AreConnected, AsksWell, ComesFrom, Follows, HadNoOffset, Holds, IsCalled, IsCutOff, IsIdle, IsInPool, IsOfCall, IsReplied, IsSent, IsUnderWay, MayComeLate, TellsTruth}
use Rattle.world.specs.Clients.{ClientView, leads_to, used_by}
use Rattle.world.specs.declared.client.Late.{Late}
use Rattle.world.specs.declared.client.Traffic.{Traffic}
use Rattle.world.specs.declared.client.Traffic.TheVariants.{Quiet, Asked, Answered}
use Rattle.world.proofs.Pool.{none_here, put_is}

-- ---- what a connection allows

pub no_stays : (old new : Asking) → IsCalm old new → old ≡ No → new ≡ No
no_stays old new (inl same) nothing = same ∙ nothing
no_stays old new (inr none) nothing = none

-- what was told before is told later
abbrev pub StaysTold : List Entry → List Entry → Type 0
StaysTold past later = (words : List (List ℕ)) (node number : ℕ) → IsTold past words node number → IsTold later words node number

allowed_later : (past later : List Entry) → StaysTold past later → (words : List (List ℕ)) (node : ℕ) (asking : Asking) → IsAllowed past words node asking → IsAllowed later words node asking
allowed_later past later told words node No allowed = tt
allowed_later past later told words node Any allowed = absurd allowed
allowed_later past later told words node (Of number) allowed = told words node number allowed

pub allowed_stays : (past later : List Entry) → StaysTold past later → (words : List (List ℕ)) (node : ℕ) (old new : Asking) → IsCalm old new → IsAllowed past words node old → IsAllowed later words node new
allowed_stays past later told words node old new (inl same) allowed = subst (IsAllowed later words node) (sym same) (allowed_later past later told words node old allowed)
allowed_stays past later told words node old new (inr none) allowed = subst (IsAllowed later words node) (sym none) tt

pub follows_stays : (asked : Option ℕ) (old new : Asking) → IsCalm old new → Follows asked old → Follows asked new
follows_stays asked old new (inl same) follows = subst (Follows asked) (sym same) follows
follows_stays asked old new (inr none) follows = subst (Follows asked) (sym none) tt

-- a connection to another node isn't the one in use
pub leads_elsewhere : (link used : Link) → link.node ≢ used.node → leads_to link.node (Some used) ≡ false
leads_elsewhere link used apart = ne_eqb used.node link.node (λ (same : used.node ≡ link.node). apart (sym same))

-- two connections that are kept to the same node are one
pub one_in_pool : (pool : List (Option Conn)) (link other : Link) → IsInPool pool link → IsInPool pool other → link.node ≡ other.node → link ≡ other
one_in_pool pool link other is too same =
    let conns : link.conn ≡ other.conn = same_some is (ap (λ (node : ℕ). get_or pool node None) same ∙ too) in
    λ i. record { node = same i; conn = conns i }

-- ---- connections

module _ (changed : Link → Type 0) (old new : RunView) (leaves : Leaves changed old new) where
  module _ (pool : List (Option Conn)) (late : List Late) (used : Option Link) where
    pub connected_stays : ((link : Link) → IsInPool pool link → leads_to link.node used ≡ false → changed link → ⊥) → ((request : Late) → Contains late request → changed request.link → ⊥)
        → AreConnected old pool late used → AreConnected new pool late used
    connected_stays others nor connected = record {
      places = connected.places ∙ sym leaves.nodes;
      idle = λ link is.
          let was : IsIdle old used link = connected.idle link is in
          record {
            known = leaves.known link was.known;
            calm = λ unused.
                elim (leaves.calm link) [
                  | inl calm ↦ no_stays (asking_at old link) (asking_at new link) calm (was.calm unused)
                  | inr is_changed ↦ absurd (others link is unused is_changed)
                ];
          };
      left = λ request among.
          let was : MayComeLate old request = connected.left request among in
          record {
            known = leaves.known request.link was.known;
            allowed = elim (leaves.calm request.link) [
              | inl calm ↦
                  allowed_stays (past_of old) (past_of new) leaves.told request.words request.link.node (asking_at old request.link) (asking_at new request.link) calm was.allowed
              | inr is_changed ↦ absurd (nor request among is_changed)
            ];
          };
      apart = connected.apart;
    }

  -- ---- calls

  told_later : (words : List (List ℕ)) (node : ℕ) (asked : Option ℕ) → IfSome asked (IsTold (past_of old) words node) → IfSome asked (IsTold (past_of new) words node)
  told_later words node None told = told
  told_later words node (Some number) told = leaves.told words node number told

  pub called_stays : (nodes : List NodeConfig) (core : ClientState) (call : Call) → IsCalled nodes (past_of old) core call → IsCalled nodes (past_of new) core call
  called_stays nodes core call called = record { plain = called.plain; number = called.number; told = told_later call.words _ call.asking called.told }

  pub under_way_stays : (nodes : List NodeConfig) (core : ClientState) (pool : List (Option Conn)) (link : Link) (call : Call) → IsUnderWay nodes (past_of old) core pool link call
      → IsUnderWay nodes (past_of new) core pool link call
  under_way_stays nodes core pool link call under_way =
      record { called = called_stays nodes core call under_way.called; there = under_way.there; in_use = under_way.in_use }

  sent_stays : (call : Call) (at : Stage) (words : List (List ℕ)) (before after : Asking) → IsCalm before after → IsSent call at words before → IsSent call at words after
  sent_stays call stage.Connecting words before after calm sent = absurd sent
  sent_stays call stage.Introducing words before after calm sent = (sent.0, no_stays before after calm sent.1)
  sent_stays call stage.Asking words before after calm sent = (sent.0, no_stays before after calm sent.1)
  sent_stays call stage.Sent words before after calm sent = (sent.0, follows_stays call.asking before after calm sent.1)

  pub truth_stays : (nodes : List NodeConfig) (words : List (List ℕ)) (reply : Reply) → TellsTruth nodes (past_of old) words reply → TellsTruth nodes (past_of new) words reply
  truth_stays nodes words reply truth text slot place number is tells = leaves.told words _ number (truth text slot place number is tells)

  replied_stays : (nodes : List NodeConfig) (call : Call) (at : Stage) (reply : Reply) (before after : Asking) → IsCalm before after → IsReplied nodes (past_of old) call at reply before
      → IsReplied nodes (past_of new) call at reply after
  replied_stays nodes call stage.Connecting reply before after calm replied = absurd replied
  replied_stays nodes call stage.Introducing reply before after calm replied = no_stays before after calm replied
  replied_stays nodes call stage.Asking reply before after calm replied = follows_stays call.asking before after calm replied
  replied_stays nodes call stage.Sent reply before after calm (inl nothing, truth) = (inl (no_stays before after calm nothing), truth_stays nodes call.words reply truth)
  replied_stays nodes call stage.Sent reply before after calm (inr exhausted, truth) = (inr exhausted, truth_stays nodes call.words reply truth)

  had_stays : (config : ClusterConfig) (link : Link) (words : List (List ℕ)) → HadNoOffset config (past_of old) link words → HadNoOffset config (past_of new) link words
  had_stays config link words had = record {
    earlier = had.earlier;
    later = leaves.further.0 ++ had.later;
    ticket = had.ticket;
    skipped = leaves.further.1 ∙ ap (λ (past : List Entry). leaves.further.0 ++ past) had.skipped ∙ sym (append_assoc leaves.further.0 had.later _);
    nodes = had.nodes;
    goes = had.goes;
    state = had.state;
    was = had.was;
    none = had.none;
  }

  comes_stays : (nodes : List NodeConfig) (link : Link) (call : Call) (at : Stage) (reply : Reply) → ComesFrom nodes old link call at reply → ComesFrom nodes new link call at reply
  comes_stays nodes link call stage.Connecting reply comes = comes
  comes_stays nodes link call stage.Introducing reply comes = comes
  comes_stays nodes link call stage.Asking reply comes = comes
  comes_stays nodes link call stage.Sent reply (inl was) =
      inl (record {
        entry = was.entry;
        among = leaves.entered was.entry was.among;
        there = was.there;
        answer = was.answer;
        gives = was.gives;
        same = was.same;
        reason = was.reason;
      })
  comes_stays nodes link call stage.Sent reply (inr refused) =
      inr (record { config = refused.config; have = leaves.configs refused.config refused.have; had = had_stays refused.config link call.words refused.had; same = refused.same })

  -- the connection in use is as it was, or allows nothing any more
  pub still_calm : (link : Link) → (changed link → ⊥) → IsCalm (asking_at old link) (asking_at new link)
  still_calm link unchanged =
      elim (leaves.calm link) [
        | inl calm ↦ calm
        | inr is_changed ↦ absurd (unchanged is_changed)
      ]

  module _ (nodes : List NodeConfig) (core : ClientState) (pool : List (Option Conn)) (unchanged : (link : Link) → IsInPool pool link → changed link → ⊥) where
    pub of_call_stays : (traffic : Traffic) (under : Option Call) → IsOfCall nodes old core pool traffic under → IsOfCall nodes new core pool traffic under
    of_call_stays Quiet under is = is
    of_call_stays (Asked link words) None is = absurd is
    of_call_stays (Asked link words) (Some call) (under_way, sent) = (
      under_way_stays nodes core pool link call under_way,
      sent_stays call call.stage words (asking_at old link) (asking_at new link)
          (still_calm link (unchanged link under_way.in_use)) sent,
    )
    of_call_stays (Answered link reply) None is = absurd is
    of_call_stays (Answered link reply) (Some call) (under_way, replied, comes) = (
      under_way_stays nodes core pool link call under_way,
      replied_stays nodes call call.stage reply (asking_at old link) (asking_at new link)
          (still_calm link (unchanged link under_way.in_use)) replied,
      comes_stays nodes link call call.stage reply comes,
    )

  -- a client whose connections nobody else uses
  pub asks_stays : (nodes : List NodeConfig) (client : ClientView) → ((link : Link) → Holds client link → changed link → ⊥) → AsksWell nodes old client → AsksWell nodes new client
  asks_stays nodes client unchanged asks = record {
    connected = connected_stays client.pool client.late (used_by client.traffic) (λ link is unused is_changed. unchanged link (inl is) is_changed)
        (λ request among is_changed. unchanged request.link (inr (request, among, refl)) is_changed) asks.connected;
    call = of_call_stays nodes client.core client.pool (λ link is is_changed. unchanged link (inl is) is_changed) client.traffic client.core.call asks.call;
  }

-- ---- connections that a client gives up, and takes up

module _ (run : RunView) (pool : List (Option Conn)) (late : List Late) where
  -- fewer requests are left on connections that were cut
  pub with_fewer : (fewer : List Late) (used : Option Link) → ((request : Late) → Contains fewer request → Contains late request) → AreConnected run pool late used → AreConnected run pool fewer used
  with_fewer fewer used all connected = record {
    places = connected.places;
    idle = connected.idle;
    left = λ request among. connected.left request (all request among);
    apart = λ link is cut. connected.apart link is (cut.0, all cut.0 cut.1, cut.2);
  }

  -- what is kept behind the one that is given up
  pub in_pool_before : (node : ℕ) (link : Link) → IsInPool (slice_set pool node None) link → (link.node ≢ node) × IsInPool pool link
  in_pool_before node link is =
      elim (cases_eq link.node node) [
        | inl same ↦
            absurd (no_some (ap (λ (n : ℕ). get_or (set pool node None) n None) same ∙ none_here pool node) is)
        | inr apart ↦ (apart, sym (get_or-set_other pool node link.node None None apart) ∙ is)
      ]

  pub without : (used : Option Link) (node : ℕ) → ((link : Link) → link.node ≢ node → leads_to link.node used ≡ false) → AreConnected run pool late used
      → AreConnected run (slice_set pool node None) late None
  without used node others connected = record {
    places = length-set pool node None ∙ connected.places;
    idle = λ link is.
        let before = in_pool_before node link is in
        let was : IsIdle run used link = connected.idle link before.1 in
        record { known = was.known; calm = λ unused. was.calm (others link before.0) };
    left = connected.left;
    apart = λ link is cut. connected.apart link (in_pool_before node link is).1 cut;
  }

  -- the connection that was in use allows nothing
  pub at_rest : (used : Link) → IsInPool pool used → asking_at run used ≡ No → AreConnected run pool late (Some used) → AreConnected run pool late None
  at_rest used there nothing connected = record {
    places = connected.places;
    idle = λ link is.
        let was : IsIdle run (Some used) link = connected.idle link is in
        record {
          known = was.known;
          calm = λ unused.
              elim (cases_eq link.node used.node) [
                | inl same ↦ ap (asking_at run) (one_in_pool pool link used is there same) ∙ nothing
                | inr apart ↦ was.calm (leads_elsewhere link used apart)
              ];
        };
    left = connected.left;
    apart = connected.apart;
  }

  pub in_use : (used : Option Link) → AreConnected run pool late None → AreConnected run pool late used
  in_use used connected = record {
    places = connected.places;
    idle = λ link is. let was : IsIdle run None link = connected.idle link is in record { known = was.known; calm = λ unused. was.calm refl };
    left = connected.left;
    apart = connected.apart;
  }

  -- a connection that was opened is kept
  pub with_new : (node : ℕ) (conn : Conn) → IsKnown run (record { node = node; conn = conn }) → asking_at run (record { node = node; conn = conn }) ≡ No
      → (IsCutOff late (record { node = node; conn = conn }) → ⊥) → AreConnected run pool late None → AreConnected run (slice_set pool node (Some conn)) late None
  with_new node conn known calm none_cut connected = record {
    places = length-set pool node (Some conn) ∙ connected.places;
    idle = λ link is.
        elim (in_pool_or_new link is) [
          | inl same ↦ record { known = subst (IsKnown run) (sym same) known; calm = λ unused. ap (asking_at run) same ∙ calm }
          | inr before ↦ connected.idle link before
        ];
    left = connected.left;
    apart = λ link is cut.
        elim (in_pool_or_new link is) [
          | inl same ↦ none_cut (subst (IsCutOff late) same cut)
          | inr before ↦ connected.apart link before cut
        ];
  }
    where
      in_pool_or_new : (link : Link) → IsInPool (slice_set pool node (Some conn)) link → (link ≡ record { node = node; conn = conn }) ⊎ IsInPool pool link
      in_pool_or_new link is =
          elim (cases_eq link.node node) [
            | inl same ↦
                let conns : conn ≡ link.conn = put_is pool node conn link.conn (sym (ap (λ (n : ℕ). get_or (set pool node (Some conn)) n None) same) ∙ is) in
                inl (λ i. record { node = same i; conn = sym conns i })
            | inr apart ↦ inr (sym (get_or-set_other pool node link.node (Some conn) None apart) ∙ is)
          ]

-- The law of promotions, along a run.
use Rattle.std.proofs.Common.{◌≡◌, ◌≢◌, ℕ, Bool, true, false, List, [], ◌∷◌, map, Option, Some, None, Contains, length, refl, sym, ap, subst, ◌∙◌, inl, inr}
use Rattle.std.proofs.lemmas.Bool.{both_ways, cases_eq}
use Rattle.std.proofs.lemmas.List.Elements.{Contains-append_cases}
use Rattle.std.specs.FinMap as fin_map
use Rattle.std.specs.Ordering.{nat_cmp}
use Rattle.std.specs.Prelude.{MatchBool, is_some, slice_get, slice_set}
use Rattle.bus.specs.declared.message.Message.{Message}
use Rattle.bus.specs.declared.stream_id.StreamId.{StreamId}
use Rattle.cluster_config.specs.Config.{ClusterConfig, first_owners}
use Rattle.command_table.specs.Table.{command_of}
use Rattle.connections.specs.Connections.{connection_at, may_ask}
use Rattle.connections.specs.declared.conn.Conn.{Conn}
use Rattle.true_streams.proofs.Following.{follows, is_on}
use Rattle.true_streams.proofs.Laws.{follow}
use Rattle.true_streams.specs.Full.{FullStreams}
use Rattle.true_streams.specs.Law.{new_replica}
use Rattle.node_step.proofs.WithWritten.{with_written_response}
use Rattle.node_step.specs.Outcome.{Outcome, outputs_of, silent, stamped}
use Rattle.node_step.specs.Replicas.{follower_of}
use Rattle.node_step.specs.Requests.{request_outcome}
use Rattle.node_step.specs.State.{NodeState, first_id, first_state, is_replica, own_master}
use Rattle.node_step.specs.Step.{IsAnswering, IsClosing, MayCome, written as written_at}
use Rattle.node_step.specs.Streams.{written_by_request}
use Rattle.node_step.specs.declared.event.Event.{Event}
use Rattle.node_step.specs.declared.event.Event.TheVariants.{Open, Close, Request, Deliver, Tick}
use Rattle.node_step.specs.declared.promotion.Promotion.{Promotion}
use Rattle.node_step.specs.declared.response.Response.{Response}
use Rattle.world_run.proofs.Behind.{behind, sent_behind}
use Rattle.world_run.proofs.Lists.{contains_nothing, from_map}
use Rattle.world_run.proofs.Nodes.{first_node, no_some, same_some, set_apart, set_here}
use Rattle.world_run.proofs.Owners.{first_slots, not_first_owner}
use Rattle.world_run.specs.Promotions.{promoted_in}
use Rattle.world_run.specs.Run.{Deed, Entry, Goes, Leads, MayHappen, WorldStep, first_nodes, sent_by, sent_in}
use Rattle.world_run.specs.Run.Deed.{Made, Skipped}
use Rattle.promoted_prefix.proofs.Events.{NodeStands, StandsBy, StepStands, answering_stands, delivered_stands, node_can, nothing_stands, streams_by, tick_stands, with_connections}
use Rattle.promoted_prefix.proofs.Frozen.{HasShortFrozen, frozen_stay_short, none_short}
use Rattle.promoted_prefix.proofs.Growing.{IsSound, base_more, on_more, said_more, sound_true}
use Rattle.promoted_prefix.specs.Law.{AreOnStreams, BeginsSo, EachGoesOn, IsOnStream, NodesFollowStreams, PromotedPrefix, full_after}
use Rattle.promoted_prefix.specs.Written.{after_promotion as after_so, no_streams, streams_after, written_in}

-- all nodes, and all messages
pub record Stands (full : FullStreams) (past : List Entry) (nodes : List NodeState) : Type 0 where
  pub each : (n : ℕ) (node : NodeState) → slice_get nodes n ≡ Some node → NodeStands full n node
  pub short : (n : ℕ) (node : NodeState) → slice_get nodes n ≡ Some node → HasShortFrozen node.moves
  pub sent : (message : Message) → Contains (sent_by past) message → IsSound full message.body

-- ---- any event

module _ (full : FullStreams) (n : ℕ) (node : NodeState) (stands : NodeStands full n node) (ticket : ℕ) where
  abbrev Deeds : Event → Outcome → Type 0
  Deeds event outcome = StandsBy full n node (written_in node (Made event (outputs_of ticket outcome))) outcome

  -- a message that arrives is sound
  abbrev IsSoundEvent : Event → Type 0
  IsSoundEvent (Deliver message) = IsSound full message.body
  IsSoundEvent other = Unit {0}

  closing : (conn : Conn) (is_open : Bool) (outcome : Outcome) → MatchBool is_open (IsClosing node conn outcome) (outcome ≡ silent node) → StandsBy full n node [] outcome
  closing conn false outcome may = subst (StandsBy full n node []) (sym may) (nothing_stands full n node stands)
  closing conn true outcome may =
      subst (StandsBy full n node []) (sym may.comes_to) (with_connections full n node stands (silent (record node { connections = outcome.state.connections })) refl refl refl)

  requesting : (conn : Conn) (words : List (List ℕ)) (asks : Bool) (outcome : Outcome) → MatchBool asks (IsAnswering node conn words outcome) (outcome ≡ silent node)
      → StandsBy full n node (written_by_request words (command_of words) outcome.response) outcome
  requesting conn words false outcome may =
      subst (λ (o : Outcome). StandsBy full n node (written_by_request words (command_of words) o.response) o) (sym may) (nothing_stands full n node stands)
  requesting conn words true outcome may =
      let asked : Outcome = request_outcome node conn (command_of words) in
      let same : outcome.response ≡ asked.response = ap (λ (o : Outcome). o.response) may.comes_to ∙ with_written_response asked (written_at node conn words) may.dropped in
      subst (λ (r : Response). StandsBy full n node (written_by_request words (command_of words) r) outcome) (sym same) (answering_stands full n node stands conn words outcome may)

  event_stands : HasShortFrozen node.moves → (event : Event) (outcome : Outcome) → IsSoundEvent event → MayCome node event outcome → Deeds event outcome
  event_stands short Open outcome sound may = subst (StandsBy full n node []) (sym may.comes_to) (with_connections full n node stands _ refl refl refl)
  event_stands short (Close conn) outcome sound may = closing conn (is_some (connection_at node.connections conn)) outcome may
  event_stands short (Request conn words) outcome sound may = requesting conn words (may_ask (connection_at node.connections conn)) outcome may
  event_stands short (Deliver message) outcome sound may =
      subst (StandsBy full n node (written_in node (Made (Deliver message) (outputs_of ticket outcome)))) (sym may.comes_to)
      (delivered_stands full n node stands message may.choice short sound may.may_choose)
  event_stands short Tick outcome sound may = subst (StandsBy full n node []) (sym may.comes_to) (tick_stands full n node stands)

-- ---- an entry

streams_are : (full : FullStreams) (before : NodeState) (deed : Deed) (promoted : Option Promotion) → promoted_in deed ≡ promoted
    → streams_after full before deed ≡ streams_by full before.stream.held.id before.number (written_in before deed) promoted
streams_are full before deed promoted is = ap (after_so full before deed) is ∙ same promoted
  where
    same : (promoted : Option Promotion) → after_so full before deed promoted ≡ streams_by full before.stream.held.id before.number (written_in before deed) promoted
    same None = refl
    same (Some promotion) = refl

module _ (full more : FullStreams) (past : List Entry) (nodes : List NodeState) (stands : Stands full past nodes) (n : ℕ) (before : NodeState) (there : slice_get nodes n ≡ Some before)
    (entry : Entry) (ticket : ℕ) (outcome : Outcome) (sends : sent_in entry.deed ≡ map (stamped outcome.state.number ticket outcome.state.current_epoch) outcome.sent)
    (step : StepStands full more n outcome) (frozen : HasShortFrozen outcome.state.moves) where
  abbrev new : List NodeState
  new = slice_set nodes n outcome.state

  other_stands : (m : ℕ) (node : NodeState) → m ≢ n → NodeStands full m node → NodeStands more m node
  other_stands m node apart (inl master) =
      let id : StreamId = node.stream.held.id in
      let same : more id ≡ full id = step.apart id (λ is. apart (sym master.has.own ∙ is)) in
      inl (record {
        number = master.number;
        role = master.role;
        has = record {
          own = master.has.own;
          on = on_more full more step.grows id (follower_of node) master.has.on;
          whole = master.has.whole;
          ends = master.has.ends ∙ ap (λ (l : List ℕ). length l) (sym same);
          former = base_more full more step.grows id node.stream.former master.has.former;
        };
      })
  other_stands m node apart (inr replica) = inr (record {
    slotless = replica.slotless;
    on = on_more full more step.grows node.stream.held.id (follower_of node) replica.on;
    fresh = λ epoch. step.apart (record { node = m; epoch = epoch }) apart ∙ replica.fresh epoch;
  })

  each_after : (m : ℕ) (node : NodeState) → slice_get new m ≡ Some node → NodeStands more m node
  each_after m node is =
      elim (cases_eq m n) [
        | inl same ↦
            let node_is : outcome.state ≡ node = same_some (set_here nodes n before outcome.state there) (ap (slice_get new) (sym same) ∙ is) in
            subst (λ (k : ℕ). NodeStands more k node) (sym same) (subst (NodeStands more n) node_is step.node)
        | inr apart ↦ other_stands m node apart (stands.each m node (sym (set_apart nodes n outcome.state m apart) ∙ is))
      ]

  short_after : (m : ℕ) (node : NodeState) → slice_get new m ≡ Some node → HasShortFrozen node.moves
  short_after m node is =
      elim (cases_eq m n) [
        | inl same ↦
            let node_is : outcome.state ≡ node = same_some (set_here nodes n before outcome.state there) (ap (slice_get new) (sym same) ∙ is) in
            subst (λ (s : NodeState). HasShortFrozen s.moves) node_is frozen
        | inr apart ↦ stands.short m node (sym (set_apart nodes n outcome.state m apart) ∙ is)
      ]

  sent_after : (message : Message) → Contains (sent_by (entry ∷ past)) message → IsSound more message.body
  sent_after message among =
      elim (Contains-append_cases (sent_in entry.deed) (sent_by past) message among) [
        | inl now ↦
            let found = from_map (stamped outcome.state.number ticket outcome.state.current_epoch) outcome.sent message (subst (λ (l : List Message). Contains l message) sends now) in
            subst (λ (m : Message). IsSound more m.body) found.2 (step.sent found.0.0 found.0.1 found.1)
        | inr earlier ↦ said_more full more step.grows message.body (stands.sent message earlier)
      ]

  pub stands_after : Stands more (entry ∷ past) new
  stands_after = record { each = each_after; short = short_after; sent = sent_after }

-- what an entry leaves
pub record EntryStands (full : FullStreams) (past : List Entry) (before : NodeState) (entry : Entry) (node : NodeState) (after : List NodeState) : Type 0 where
  pub world : Stands (streams_after full before entry.deed) (entry ∷ past) after
  pub begins : BeginsSo full node (promoted_in entry.deed)

pub entry_stands : (full : FullStreams) (past : List Entry) (nodes : List NodeState) → Stands full past nodes → (entry : Entry) (after : List NodeState) (step : WorldStep past nodes entry after)
    → EntryStands full past step.before entry step.after after
entry_stands full past nodes stands entry after step = subst (EntryStands full past step.before entry step.after) (sym step.is) (by_deed entry.deed refl step.leads)
  where
    node : NodeStands full entry.node step.before
    node = stands.each entry.node step.before step.was

    short : HasShortFrozen step.before.moves
    short = stands.short entry.node step.before step.was

    sound_event : (event : Event) → MayHappen past event → IsSoundEvent full entry.node step.before node 0 event
    sound_event (Deliver message) among = stands.sent message among
    sound_event Open happens = tt
    sound_event (Close conn) happens = tt
    sound_event (Request conn words) happens = tt
    sound_event Tick happens = tt

    with_outcome : (ticket : ℕ) (outcome : Outcome) → sent_in entry.deed ≡ map (stamped outcome.state.number ticket outcome.state.current_epoch) outcome.sent → promoted_in entry.deed ≡ outcome.promoted
        → StandsBy full entry.node step.before (written_in step.before entry.deed) outcome → HasShortFrozen outcome.state.moves → EntryStands full past step.before entry outcome.state (slice_set nodes entry.node outcome.state)
    with_outcome ticket outcome sends promotes stood frozen =
        let stood_after : StepStands full (streams_after full step.before entry.deed) entry.node outcome =
        subst (λ (more : FullStreams). StepStands full more entry.node outcome) (sym (streams_are full step.before entry.deed outcome.promoted promotes)) stood in
        record {
          world = stands_after full (streams_after full step.before entry.deed) past nodes stands entry.node step.before step.was entry ticket outcome sends stood_after frozen;
          begins = subst (BeginsSo full outcome.state) (sym promotes) stood.begins;
        }

    by_deed : (deed : Deed) → entry.deed ≡ deed → Leads past entry.ticket step.before deed step.after → EntryStands full past step.before entry step.after (slice_set nodes entry.node step.after)
    by_deed Skipped skipped same =
        subst (λ (s : NodeState). EntryStands full past step.before entry s (slice_set nodes entry.node s)) (sym same)
        (with_outcome 0 (silent step.before) (ap sent_in skipped) (ap promoted_in skipped)
        (subst (λ (d : Deed). StandsBy full entry.node step.before (written_in step.before d) (silent step.before)) (sym skipped) (nothing_stands full entry.node step.before node)) short)
    by_deed (Made event outputs) made (happens, stepped) =
        let deed_is : entry.deed ≡ Made event (outputs_of entry.ticket stepped.outcome) = made ∙ ap (Made event) stepped.outputs_are in
        subst (λ (s : NodeState). EntryStands full past step.before entry s (slice_set nodes entry.node s)) (sym stepped.state)
        (with_outcome entry.ticket stepped.outcome (ap sent_in deed_is) (ap promoted_in deed_is)
        (subst (λ (d : Deed). StandsBy full entry.node step.before (written_in step.before d) stepped.outcome) (sym deed_is)
        (event_stands full entry.node step.before node entry.ticket short event stepped.outcome (sound_event event happens) stepped.may_come))
        (frozen_stay_short step.before (node_can full entry.node step.before node) short event stepped.outcome stepped.may_come))

-- ---- runs

runs_go_on : (full : FullStreams) (past : List Entry) (nodes : List NodeState) → Stands full past nodes → (entries : List Entry) (last : List NodeState) (goes : Goes past nodes entries last)
    → EachGoesOn full past nodes entries last goes
runs_go_on full past nodes stands [] last goes = tt
runs_go_on full past nodes stands (entry ∷ entries) last goes =
    let stood = entry_stands full past nodes stands entry goes.0 goes.1 in
    (stood.begins, runs_go_on (streams_after full goes.1.before entry.deed) (entry ∷ past) goes.0 stood.world entries last goes.2)

-- at the end of a run
runs_stand : (full : FullStreams) (past : List Entry) (nodes : List NodeState) → Stands full past nodes → (entries : List Entry) (last : List NodeState) (goes : Goes past nodes entries last)
    → Stands (full_after full past nodes entries last goes) (behind past entries) last
runs_stand full past nodes stands [] last goes = subst (Stands full past) (sym goes) stands
runs_stand full past nodes stands (entry ∷ entries) last goes =
    let stood = entry_stands full past nodes stands entry goes.0 goes.1 in
    runs_stand (streams_after full goes.1.before entry.deed) (entry ∷ past) goes.0 stood.world entries last goes.2

on_stream : (full : FullStreams) (n : ℕ) (node : NodeState) → NodeStands full n node → IsOnStream full node
on_stream full n node (inl master) = record { follows = follows (full node.stream.held.id) (follower_of node) master.has.on; whole = λ is. master.has.ends }
on_stream full n node (inr replica) =
    record { follows = follows (full node.stream.held.id) (follower_of node) replica.on; whole = λ is. absurd (both_ways (is_replica node) is replica.slotless.role) }

first_own : (master : Option ℕ) (number : ℕ) → is_some master ≡ false → (first_id master number).node ≡ number
first_own None number is = refl
first_own (Some master) number is = absurd (both_ways true is refl)

pub first_stands : (config : ClusterConfig) → Stands no_streams [] (first_nodes config)
first_stands config = record {
  each = λ n node is.
      elim (first_node config n) [
        | inl there ↦ subst (NodeStands no_streams n) (same_some there.1 is) (by_role n (is_replica (first_state config n)) refl)
        | inr missing ↦ absurd (no_some missing is)
      ];
  short = λ n node is.
      elim (first_node config n) [
        | inl there ↦ subst (λ (s : NodeState). HasShortFrozen s.moves) (same_some there.1 is) none_short
        | inr missing ↦ absurd (no_some missing is)
      ];
  sent = λ message among. absurd (contains_nothing message among);
}
  where
    by_role : (n : ℕ) (b : Bool) → is_replica (first_state config n) ≡ b → NodeStands no_streams n (first_state config n)
    by_role n false master =
        let id : StreamId = (first_state config n).stream.held.id in
        inl (record {
          number = refl;
          role = master;
          has = record { own = first_own (own_master (first_state config n)) n master; on = is_on [] (new_replica id) (follow no_streams id [] (new_replica id) tt refl); whole = refl; ends = refl; former = tt };
        })
    by_role n true replica =
        let id : StreamId = (first_state config n).stream.held.id in
        inr (record {
          slotless = record { number = refl; role = replica; slots = first_slots (first_owners config); foreign = not_first_owner config n replica; idle = λ slot. fin_map.get-empty nat_cmp slot };
          on = is_on [] (new_replica id) (follow no_streams id [] (new_replica id) tt refl);
          fresh = λ epoch. refl;
        })

pub law : PromotedPrefix
law config entries run = runs_go_on no_streams [] (first_nodes config) (first_stands config) entries run.last run.goes

-- so all are on their streams
pub are_on_streams : (full : FullStreams) (past : List Entry) (nodes : List NodeState) → Stands full past nodes → AreOnStreams full (sent_by past) nodes
are_on_streams full past nodes stands = record {
  each = λ n node is. on_stream full n node (stands.each n node is);
  said = λ message among. sound_true full message.body (stands.sent message among);
}

pub nodes_follow : NodesFollowStreams
nodes_follow config entries run =
    let last = runs_stand no_streams [] (first_nodes config) (first_stands config) entries run.last run.goes in
    record {
      each = λ n node is. on_stream _ n node (last.each n node is);
      said = λ message among. sound_true _ message.body (last.sent message (sent_behind [] entries message (inl among)));
    }

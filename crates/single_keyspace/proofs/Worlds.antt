-- The law of a cluster, along its runs.
use Rattle.std.proofs.Common.{◌≡◌, ◌≢◌, ◌<◌, ◌≤◌, ◌⊎◌, ◌==◌, ℕ, Bool, true, false, cond, not, List, [], ◌∷◌, map, Option, Some, None, Contains, length, refl, sym, ap, ap₂, subst, ◌∙◌, inl, inr, arith}
use Rattle.std.proofs.lemmas.Bool.{both_ways, cases_lt, cases_eq, cond-true, eq-eqb, eqb-true, ne_eqb}
use Rattle.std.proofs.lemmas.List.{get_or-set_other, get_or_past}
use Rattle.std.proofs.lemmas.List.Elements.{Contains-append_cases}
use Rattle.std.specs.FinMap as fin_map
use Rattle.std.specs.List.{cons_option}
use Rattle.std.specs.Ordering.{nat_cmp}
use Rattle.std.specs.Prelude.{is_some, option_map, slice_get, slice_set, unwrap_or}
use Rattle.command_table.specs.Table.{command_of}
use Rattle.keyspace.proofs.Locality.{commands_are_local}
use Rattle.keyspace.specs.Commands.{replay_from}
use Rattle.keyspace.specs.Keyspace.{Keyspace}
use Rattle.keyspace.specs.Locality.{CommandsAreLocal}
use Rattle.keyspace.specs.declared.value.Value.{Value}
use Rattle.bus.specs.declared.message.Body.{Body}
use Rattle.bus.specs.declared.bodies.ElectionBody.TheVariants as of_election
use Rattle.bus.specs.declared.bodies.SlotsBody.TheVariants as of_slots
use Rattle.bus.specs.declared.bodies.StreamBody.TheVariants as of_stream
use Rattle.bus.specs.declared.message.Body.TheVariants as body
use Rattle.bus.specs.declared.bodies.Handing.{Handing}
use Rattle.bus.specs.declared.message.Message.{Message}
use Rattle.bus.specs.declared.bodies.Replaced.{Replaced}
use Rattle.cluster_config.specs.Config.{ClusterConfig}
use Rattle.handovers.proofs.Growing.{true_kept}
use Rattle.handovers.proofs.Keeping.{Kept}
use Rattle.handovers.specs.Peers.{Peer}
use Rattle.handovers.specs.Stands.{IsTrue}
use Rattle.slot_state.specs.Moves.{move_of}
use Rattle.slot_table.specs.Claims.{claimed, in_epoch, merged}
use Rattle.slot_table.specs.Runs.{runs_of}
use Rattle.slot_table.specs.Table.{claim_at, entry_at, owner_in}
use Rattle.slot_table.specs.declared.entry.SlotEntry.{SlotEntry}
use Rattle.one_slot.specs.Events.{Changes, Keeps}
use Rattle.one_slot.specs.Sent.{Sent, IsSent}
use Rattle.one_slot.specs.Sent.Sent.{Claimed, Told}
use Rattle.one_slot.specs.Slot.{IsAtMost}
use Rattle.one_slot.specs.View.{View}
use Rattle.promoted_prefix.proofs.Worlds.{Stands, are_on_streams, entry_stands as streams_stand, first_stands}
use Rattle.promoted_prefix.specs.Law.{AreOnStreams}
use Rattle.true_streams.specs.Full.{FullStreams}
use Rattle.promoted_prefix.specs.Written.{no_streams, streams_after}
use Rattle.node_step.proofs.Merging.{claimed_owner, length_merged, merged_cases}
use Rattle.node_step.proofs.Ready.{succeeded_ends}
use Rattle.node_step.specs.Handovers.{handing_of, is_at_end}
use Rattle.node_step.specs.Orders.{claim_of, others}
use Rattle.node_step.specs.Messages.{ready, taken}
use Rattle.node_step.specs.Outcome.{Outcome, outputs_of, silent, stamped}
use Rattle.node_step.specs.Promotion.{own_stream, promotion_to, table_handed}
use Rattle.node_step.specs.State.{NodeState, is_replica, own_master}
use Rattle.node_step.specs.Step.{MayCome}
use Rattle.node_step.specs.declared.event.Event.{Event}
use Rattle.node_step.specs.declared.event.Event.TheVariants.{Open, Close, Request, Deliver, Tick}
use Rattle.node_step.specs.declared.outputs.Outputs.{Outputs}
use Rattle.node_step.specs.declared.promotion.Promotion.{Promotion}
use Rattle.world_run.specs.Executed.{Answered, KeepsAsking, MayAsk, Redirection, answered, executed, if_served, redirection_in}
use Rattle.world_run.specs.Law.{SingleKeyspace}
use Rattle.world_run.specs.Promotions.{ends_one_keyspace, promoted_in, until_promotion}
use Rattle.world_run.specs.Run.{Deed, Entry, Goes as RunGoes, Leads, MayHappen, WorldStep, sent_by, sent_in}
use Rattle.world_run.specs.Run.Deed.{Made, Skipped}
use Rattle.single_keyspace.specs.Handing.{newest_in, newest_of, peer_at, peer_of, peers, planned_epoch, said_in, took}
use Rattle.single_keyspace.specs.Slots.{first_of, if_out, is_hidden, nowhere, out_too, seen_out, values_in, view_at, view_of, views}
use Rattle.single_keyspace.specs.Stands.{BeginsIn, IsOut, IsSeen, KnowsEpochs, MasterStands, NodeStands, OutStands, ReplicaStands, Says, SlotStands, WorldStands, keys_in}
use Rattle.single_keyspace.proofs.EventSteps.{event_stands}
use Rattle.single_keyspace.proofs.HandingOver.{SlotIsHanded}
use Rattle.single_keyspace.proofs.Handovers.{goes_keeps, message_keeps, promotion_keeps, tick_keeps}
use Rattle.single_keyspace.proofs.Knowing.{claims_known, event_knows, knows_after, succeeded_knows}
use Rattle.single_keyspace.proofs.Laws.{laws_at}
use Rattle.single_keyspace.proofs.Lists.{contains_nothing, first_found_or_more, from_map}
use Rattle.single_keyspace.proofs.Peering.{Goes, event_does, goes_itself}
use Rattle.single_keyspace.proofs.Promoting.{HasMaster, has_master, not_out, slots_are_handed}
use Rattle.single_keyspace.proofs.Replicas.{IdleStands, IdleStep, event_replica, skipped_replica}
use Rattle.single_keyspace.proofs.Saying.{Speak, Speaks, event_speaks}
use Rattle.single_keyspace.proofs.Seen.{SlotWas, hidden_changes, hidden_here, holds_still, no_some, out_changes, out_here, out_so, same_some, same_values, seen_changes, seen_here, seen_so, set_apart, set_here}
use Rattle.single_keyspace.proofs.Sendings.{AreJustified, IsJustified, claim_justified, justified_is_true, to_all_justified}
use Rattle.single_keyspace.proofs.StandingStill.{hands_same}
use Rattle.single_keyspace.proofs.Start.{first_world_stands}
use Rattle.single_keyspace.proofs.Steps.{RepliesAs, StepStands, next_of, nothing_sent, quiet_still}
use Rattle.single_keyspace.proofs.Succeeding.{Succession, event_turns}
use Rattle.single_keyspace.proofs.Tabling.{TableIs, event_table}

-- ---- nodes

-- a node at its place, a master or a replica
abbrev IsAt : Bool → ℕ → NodeState → Type 0
IsAt out number node = MasterStands out number node ⊎ ReplicaStands number node

whole_master : (out : Bool) (number : ℕ) (node : NodeState) → MasterStands out number node → length node.table ≡ 16384
whole_master false number node master = master.slots
whole_master true number node master = master.slots

whole_table : (out : Bool) (number : ℕ) (node : NodeState) → IsAt out number node → length node.table ≡ 16384
whole_table out number node (inl master) = whole_master out number node master
whole_table out number node (inr replica) = replica.slots

master_number : (out : Bool) (number : ℕ) (node : NodeState) → MasterStands out number node → node.number ≡ number
master_number false number node master = master.number_is
master_number true number node master = master.number_is

at_number : (out : Bool) (number : ℕ) (node : NodeState) → IsAt out number node → node.number ≡ number
at_number out number node (inl master) = master_number out number node master
at_number out number node (inr replica) = replica.number_is

master_role : (out : Bool) (number : ℕ) (node : NodeState) → MasterStands out number node → is_hidden node ≡ false
master_role false number node master = master.is_master
master_role true number node master = master.is_master

seen_at : (out : Bool) (number : ℕ) (node : NodeState) → out ≡ false → MasterStands out number node → NodeStands number node
seen_at false number node is master = master
seen_at true number node is master = absurd (both_ways true is refl)

-- such nodes take no part in a slot
idle_replica : (number : ℕ) (node : NodeState) → ReplicaStands number node → IdleStands number node
idle_replica number node stands = record {
  number_is = stands.number_is;
  slots = stands.slots;
  bars = inl stands.is_one;
  rests = λ slot named. absurd (stands.foreign slot named);
  idle = stands.idle;
}

idle_out : (number : ℕ) (node : NodeState) → OutStands number node → IdleStands number node
idle_out number node stands = record {
  number_is = stands.number_is;
  slots = stands.slots;
  bars = inr (ap is_some stands.paused);
  rests = λ slot named. ap is_some stands.paused;
  idle = stands.idle;
}

no_master : (o : Option ℕ) → is_some o ≡ true → o ≡ None → ⊥
no_master o some none = both_ways (is_some o) (ap is_some none) some

at_most_itself : (entry : SlotEntry) → IsAtMost entry entry
at_most_itself entry = record { epoch = omega arith; owner = λ same. refl }

module _ (config : ClusterConfig) {past : List Entry} {nodes : List NodeState} {one : Keyspace} (world : WorldStands config past nodes one) where
  -- a slot that moves at a node is one of its table's
  pub below_all : (slot j : ℕ) (entry : SlotEntry) → (views (first_of config slot) world.out nodes slot j).move ≢ None → (views (first_of config slot) world.out nodes slot j).entry ≡ Some entry → slot < 16384
  below_all slot j entry = by_node (slice_get nodes j) refl
    where
      by_role : (node : NodeState) → slice_get nodes j ≡ Some node → (b out : Bool) → (cond b (nowhere (first_of config slot)) (if_out out (view_of node slot))).move ≢ None
          → (cond b (nowhere (first_of config slot)) (if_out out (view_of node slot))).entry ≡ Some entry → slot < 16384
      by_role node there true out moves is = absurd (moves refl)
      by_role node there false true moves is = absurd (moves refl)
      by_role node there false false moves is =
          elim (cases_lt slot 16384) [
            | inl below ↦ below
            | inr past ↦
                let whole : length node.table ≡ 16384 = whole_table (world.out j) j node (world.each j node there) in
                let beyond : length node.table ≤ slot = omega (arith, whole, past) in
                absurd (no_some (get_or_past node.table slot None beyond) is)
          ]

      by_node : (o : Option NodeState) → slice_get nodes j ≡ o → (view_at (first_of config slot) slot (world.out j) o).move ≢ None → (view_at (first_of config slot) slot (world.out j) o).entry ≡ Some entry → slot < 16384
      by_node None none moves is = absurd (moves refl)
      by_node (Some node) there moves is = by_role node there (is_hidden node) (world.out j) moves is

  module _ (n : ℕ) (before : NodeState) (there : slice_get nodes n ≡ Some before) where
    abbrev pub slot_was : world.out n ≡ false → NodeStands n before → (slot : ℕ) → SlotWas past n before one slot
    slot_was is_in master slot =
        let was = world.slots slot in
        record {
          top = was.top;
          seen = views (first_of config slot) world.out nodes slot;
          holds = was.holds;
          here = seen_here (first_of config slot) slot world.out nodes n before there is_in master.is_master;
          history = was.history;
          below = below_all slot;
        }

    its_number : before.number ≡ n
    its_number = at_number (world.out n) n before (world.each n before there)

    its_table : length before.table ≡ 16384
    its_table = whole_table (world.out n) n before (world.each n before there)

    old_peer : peers nodes n ≡ peer_of before
    old_peer = ap peer_at there

    -- ---- handovers

    abbrev IsStill : NodeState → Type 0
    IsStill after = (replica : ℕ) → before.paused ≡ Some replica → (peers nodes replica).master ≢ None → handing_of after ≡ handing_of before

    event_keeps : (event : Event) (outcome : Outcome) → MayHappen past event → MayCome before event outcome → outcome.promoted ≡ None → IsStill outcome.state
        → Kept newest_of (peers nodes) (peers (slice_set nodes n outcome.state))
    event_keeps Open outcome happens may not_now still = goes_keeps nodes world.handovers n before there its_number outcome.state still (event_does before Open outcome may not_now)
    event_keeps (Close conn) outcome happens may not_now still = goes_keeps nodes world.handovers n before there its_number outcome.state still (event_does before (Close conn) outcome may not_now)
    event_keeps (Request conn words) outcome happens may not_now still =
        goes_keeps nodes world.handovers n before there its_number outcome.state still (event_does before (Request conn words) outcome may not_now)
    event_keeps Tick outcome happens may not_now still = tick_keeps nodes world.handovers n before there its_number outcome.state still (event_does before Tick outcome may not_now)
    event_keeps (Deliver message) outcome happens may not_now still = by_target (message.to == before.number) refl
      where
        by_target : (b : Bool) → (message.to == before.number) ≡ b → Kept newest_of (peers nodes) (peers (slice_set nodes n outcome.state))
        by_target true is =
            message_keeps nodes world.handovers n before there its_number outcome.state message
            (subst (λ (i : ℕ). IsTrue newest_of (peers nodes) message.from i message.epoch (said_in message.body)) (eqb-true message.to before.number is ∙ its_number) (world.said message happens))
            still (event_does before (Deliver message) outcome may not_now)
        by_target false is =
            let same : outcome.state ≡ before = ap (λ (o : Outcome). o.state) (may.comes_to ∙ ap (λ (b : Bool). cond b (taken (ready before message) message.from may.choice message.body) (silent before)) is) in
            goes_keeps nodes world.handovers n before there its_number outcome.state still (subst (Goes before) (sym same) (goes_itself before))

    seen_still : (is_in : world.out n ≡ false) (master : NodeStands n before) (event : Event) (outcome : Outcome) → MayHappen past event → MayCome before event outcome → outcome.promoted ≡ None → outcome.state.number ≡ n → IsStill outcome.state
    seen_still is_in master event outcome happens may not_now number replica paused follows =
        hands_same (slot_was is_in master) master (master.rests replica paused) replica paused event outcome happens may (event_table before event outcome may not_now) number

    out_still : world.out n ≡ true → (after : NodeState) → IsStill after
    out_still is_out after replica paused follows =
        let gone : IsOut (peers nodes) n = world.is_out n is_out in
        let same : gone.replica ≡ replica = same_some gone.paused (ap (λ (p : Peer Handing). p.paused) old_peer ∙ paused) in
        absurd (follows (subst (λ (i : ℕ). (peers nodes i).master ≡ None) same gone.promoted))

    replica_still : is_hidden before ≡ true → (after : NodeState) → IsStill after
    replica_still is_one after replica paused follows =
        absurd (no_master (own_master before) is_one
        (ap (λ (p : Peer Handing). p.master) (sym old_peer) ∙ (world.handovers n).pauses replica (ap (λ (p : Peer Handing). p.paused) old_peer ∙ paused)))

    -- ---- the world after a step

    -- of which this is the entry
    module _ (entry : Entry) (outcome : Outcome) (ticket : ℕ) (sends : sent_in entry.deed ≡ map (stamped outcome.state.number ticket outcome.state.current_epoch) outcome.sent)
        (number : outcome.state.number ≡ n) where
      abbrev new : List NodeState
      new = slice_set nodes n outcome.state

      abbrev next : Keyspace
      next = next_of one (if_served (answered entry.deed))

      new_peer : peers new n ≡ peer_of outcome.state
      new_peer = ap peer_at (set_here nodes n before outcome.state there)

      -- what is said now of handovers is true
      module _ (whole : length outcome.state.table ≡ 16384) (knows : KnowsEpochs n outcome.state) (kept : Kept newest_of (peers nodes) (peers new)) where
        took_now : (replaced : Option Replaced) (to : ℕ) → replaced ≡ outcome.state.replaced → IsTrue newest_of (peers new) n to outcome.state.current_epoch (took replaced)
        took_now None to is = tt
        took_now (Some replaced) to is =
            (kept.each n).replaced replaced.master (ap (λ (p : Peer Handing). p.replaced) new_peer ∙ ap (λ (o : Option Replaced). option_map (λ (r : Replaced). r.master) o) (sym is))

        said_now : (to : ℕ) (said : Body) → Speaks outcome.state to said → IsTrue newest_of (peers new) n to outcome.state.current_epoch (said_in said)
        said_now to (body.Election (of_election.Pause stream)) own = inr (ap (λ (p : Peer Handing). p.master) new_peer ∙ own)
        said_now to (body.Election (of_election.Paused handing)) told =
            let newest : newest_in (claim_of outcome.state) ≤ outcome.state.current_epoch =
            subst (λ (i : ℕ). newest_in (runs_of (claim_at outcome.state.table i)) ≤ outcome.state.current_epoch) (sym number) (claims_known n outcome.state whole knows) in (
              ap (λ (p : Peer Handing). p.paused) new_peer ∙ told.0,
              λ replica. ap (λ (p : Peer Handing). p.hands) new_peer ∙ sym told.1,
              subst (λ (h : Handing). newest_of h ≤ outcome.state.current_epoch) (sym told.1) newest,
            )
        said_now to (body.Slots (of_slots.Claim slots replaced)) is = took_now replaced to is
        said_now to (body.Slots (of_slots.Copy id pairs)) is = tt
        said_now to (body.Slots (of_slots.Ack id)) is = tt
        said_now to (body.Slots (of_slots.Drained slot number epoch)) is = tt
        said_now to (body.Report suspects) is = tt
        said_now to (body.Election (of_election.Candidacy request)) is = tt
        said_now to (body.Election (of_election.Grant epoch)) is = tt
        said_now to (body.Stream (of_stream.Sync sync)) is = tt
        said_now to (body.Stream (of_stream.Piece piece)) is = tt
        said_now to (body.Stream (of_stream.Snapshot snapshot)) is = tt

      module _ (out : ℕ → Bool) where
        -- what the step leaves of a slot: it is kept, what is now sent and told is true of it, and the holder is seen
        pub record SlotLeft (slot : ℕ) : Type 0 where
          pub newest : SlotEntry
          pub keeps : Keeps (world.slots slot).top newest (views (first_of config slot) world.out nodes slot) (views (first_of config slot) out new slot) (values_in next slot)
          pub sent : (to : ℕ) (body : Body) (said : Sent Value) → Contains outcome.sent (to, body) → Says slot n to body said → IsSent newest (views (first_of config slot) out new slot) said
          pub told : (redirection : Redirection) → redirection_in (answered entry.deed) ≡ Some redirection → BeginsIn slot (keys_in (command_of redirection.words))
              → (by : ℕ) × IsSent newest (views (first_of config slot) out new slot) (Told by redirection.to redirection.number (keys_in (command_of redirection.words)))
          pub holder : (node : NodeState) → slice_get new newest.owner ≡ Some node → IsSeen (out newest.owner) node
          pub table : (known : SlotEntry) → entry_at outcome.state.table slot ≡ Some known → IsAtMost newest known

        slot_after : (slot : ℕ) → SlotLeft slot → SlotStands (first_of config slot) out (entry ∷ past) new next slot
        slot_after slot left =
            let was = world.slots slot in
            let newest : SlotEntry = left.newest in
            let keeps : Keeps was.top newest (views (first_of config slot) world.out nodes slot) (views (first_of config slot) out new slot) (values_in next slot) = left.keeps in
            record {
              top = newest;
              holds = keeps.holds;
              history = record {
                sent = λ message sent among says.
                    elim (Contains-append_cases (sent_in entry.deed) (sent_by past) message among) [
                      | inl now ↦
                          let found = from_map (stamped outcome.state.number ticket outcome.state.current_epoch) outcome.sent message (subst (λ (l : List Message). Contains l message) sends now) in
                          let says_so : Says slot outcome.state.number found.0.0 found.0.1 sent = subst (λ (m : Message). Says slot m.from m.to m.body sent) (sym found.2) says in
                          left.sent found.0.0 found.0.1 sent found.1 (subst (λ (from : ℕ). Says slot from found.0.0 found.0.1 sent) number says_so)
                      | inr earlier ↦ keeps.sent sent (was.history.sent message sent earlier says)
                    ];
                told = λ redirection among begins.
                    elim (first_found_or_more (λ (e : Entry). redirection_in (answered e.deed)) entry past redirection among) [
                      | inl now ↦ left.told redirection now begins
                      | inr earlier ↦ let told = was.history.told redirection earlier begins in (told.0, keeps.sent (Told told.0 redirection.to redirection.number (keys_in (command_of redirection.words))) told.1)
                    ];
              };
              holder = left.holder;
              tables = λ other node known is has.
                  elim (cases_eq other n) [
                    | inl same ↦
                        let node_is : outcome.state ≡ node = same_some (set_here nodes n before outcome.state there) (ap (slice_get new) (sym same) ∙ is) in
                        left.table known (ap (λ (s : NodeState). entry_at s.table slot) node_is ∙ has)
                    | inr apart ↦ keeps.sent (Claimed known.owner known.epoch) (was.tables other node known (sym (set_apart nodes n outcome.state other apart) ∙ is) has)
                  ];
            }

        world_after : ((other : ℕ) → out other ≡ true → IsOut (peers new) other) → IsAt (out n) n outcome.state
            → ((other : ℕ) (node : NodeState) → other ≢ n → slice_get nodes other ≡ Some node → IsAt (out other) other node)
            → ((slot : ℕ) → SlotLeft slot) → Kept newest_of (peers nodes) (peers new) → Speak outcome.state outcome.sent → KnowsEpochs n outcome.state → WorldStands config (entry ∷ past) new next
        world_after gone here rest left kept speaks knows = record {
          out = out;
          is_out = gone;
          each = λ other node is.
              elim (cases_eq other n) [
                | inl same ↦
                    let node_is : outcome.state ≡ node = same_some (set_here nodes n before outcome.state there) (ap (slice_get new) (sym same) ∙ is) in
                    subst (λ (m : ℕ). IsAt (out m) m node) (sym same) (subst (IsAt (out n) n) node_is here)
                | inr apart ↦ rest other node apart (sym (set_apart nodes n outcome.state other apart) ∙ is)
              ];
          slots = λ slot. slot_after slot (left slot);
          handovers = kept.each;
          said = λ message among.
              elim (Contains-append_cases (sent_in entry.deed) (sent_by past) message among) [
                | inl now ↦
                    let found = from_map (stamped outcome.state.number ticket outcome.state.current_epoch) outcome.sent message (subst (λ (l : List Message). Contains l message) sends now) in
                    let it = said_now (whole_table (out n) n outcome.state here) knows kept found.0.0 found.0.1 (speaks found.0.0 found.0.1 found.1) in
                    subst (λ (m : Message). IsTrue newest_of (peers new) m.from m.to m.epoch (said_in m.body)) found.2
                    (subst (λ (i : ℕ). IsTrue newest_of (peers new) i found.0.0 outcome.state.current_epoch (said_in found.0.1)) (sym number) it)
                | inr earlier ↦ true_kept newest_of kept.grows message.from message.to message.epoch (said_in message.body) (world.said message earlier)
              ];
          knows = λ other node is.
              elim (cases_eq other n) [
                | inl same ↦
                    let node_is : outcome.state ≡ node = same_some (set_here nodes n before outcome.state there) (ap (slice_get new) (sym same) ∙ is) in
                    subst (λ (m : ℕ). KnowsEpochs m node) (sym same) (subst (KnowsEpochs n) node_is knows)
                | inr apart ↦ world.knows other node (sym (set_apart nodes n outcome.state other apart) ∙ is)
              ];
        }

      -- ---- nobody more is out

      still_out : Kept newest_of (peers nodes) (peers new) → (other : ℕ) → world.out other ≡ true → IsOut (peers new) other
      still_out kept other is =
          let gone : IsOut (peers nodes) other = world.is_out other is in
          record { replica = gone.replica; paused = kept.grows.paused other gone.replica gone.paused; promoted = kept.grows.master gone.replica gone.promoted }

      -- the holder stays, if it isn't this node
      holder_apart : (slot : ℕ) (newest : SlotEntry) → newest.owner ≡ (world.slots slot).top.owner → newest.owner ≢ n → (node : NodeState) → slice_get new newest.owner ≡ Some node → IsSeen (world.out newest.owner) node
      holder_apart slot newest same apart node is =
          subst (λ (i : ℕ). IsSeen (world.out i) node) (sym same)
          ((world.slots slot).holder node (ap (slice_get nodes) (sym same) ∙ sym (set_apart nodes n outcome.state newest.owner apart) ∙ is))

      module _ (kept : Kept newest_of (peers nodes) (peers new)) (speaks : Speak outcome.state outcome.sent) (knows : KnowsEpochs n outcome.state) where
        -- by a master that is seen
        pub seen_after : (is_in : world.out n ≡ false) (master : NodeStands n before) → StepStands (slot_was is_in master) (answered entry.deed) outcome → WorldStands config (entry ∷ past) new next
        seen_after is_in master step =
            world_after world.out (still_out kept) (inl (subst (λ (b : Bool). MasterStands b n outcome.state) (sym is_in) step.node)) (λ other node apart is. world.each other node is) left kept speaks knows
          where
            left : (slot : ℕ) → SlotLeft world.out slot
            left slot =
                let was = slot_was is_in master slot in
                let first : SlotEntry = first_of config slot in
                let changes : Changes (views first world.out nodes slot) (views first world.out new slot) n (view_of outcome.state slot) =
                seen_changes first slot world.out nodes n before there outcome.state is_in step.node.is_master in
                let held = step.holds slot (views first world.out new slot) changes in
                let newest : SlotEntry = held.newest in
                let keeps : Keeps was.top newest (views first world.out nodes slot) (views first world.out new slot) (values_in next slot) = held.holds in
                record {
                  newest = newest;
                  keeps = keeps;
                  sent = λ to body said among says.
                      justified_is_true past outcome.state keeps.holds changes.here (λ message sent earlier says_so. keeps.sent sent (was.history.sent message sent earlier says_so)) to body said
                      (step.sent to body among) says;
                  told = λ redirection now begins. (
                    n,
                    (laws_at newest (views first world.out new slot) (values_in next slot) n (view_of outcome.state slot) keeps.holds changes.here).told_sent redirection.to redirection.number
                        (keys_in (command_of redirection.words)) (step.told redirection now slot begins),
                  );
                  holder = λ node is.
                      elim (cases_eq newest.owner n) [
                        | inl same ↦
                            let node_is : outcome.state ≡ node = same_some (set_here nodes n before outcome.state there) (ap (slice_get new) (sym same) ∙ is) in
                            record { is_in = ap world.out same ∙ is_in; is_master = ap is_hidden (sym node_is) ∙ step.node.is_master }
                        | inr apart ↦
                            let before_so : (views first world.out nodes slot newest.owner).entry ≡ Some newest = ap (λ (v : View Value). v.entry) (sym (changes.there newest.owner apart)) ∙ keeps.holds.holder.entry in
                            let no_newer : IsAtMost was.top newest = was.holds.newest newest.owner newest before_so in
                            let no_older : IsAtMost newest was.top = keeps.sent (Claimed was.top.owner was.top.epoch) (at_most_itself was.top) in
                            let up = no_newer.epoch in
                            let down = no_older.epoch in
                            let epochs : newest.epoch ≡ was.top.epoch = omega (arith, up, down) in
                            holder_apart slot newest (no_newer.owner epochs) apart node is
                      ];
                  table = λ known has. keeps.holds.newest n known (ap (λ (v : View Value). v.entry) changes.here ∙ has);
                }

        -- by one that takes no part in slots: all views stay as they are
        quiet_after : (role : Bool) (paused : Option ℕ) (last : fin_map.FinMap nat_cmp ℕ) → IdleStep n role paused last one (answered entry.deed) outcome → IsAt (world.out n) n outcome.state
            → ((slot : ℕ) → Keeps (world.slots slot).top (world.slots slot).top (views (first_of config slot) world.out nodes slot) (views (first_of config slot) world.out new slot) (values_in one slot))
            → ((slot : ℕ) → (world.slots slot).top.owner ≢ n) → ((slot : ℕ) (known : SlotEntry) → entry_at outcome.state.table slot ≡ Some known → IsAtMost (world.slots slot).top known)
            → WorldStands config (entry ∷ past) new next
        quiet_after role paused last step here same no_holder tables =
            world_after world.out (still_out kept) here (λ other node apart is. world.each other node is) (λ slot.
            let first : SlotEntry = first_of config slot in
            let top : SlotEntry = (world.slots slot).top in
            record {
              newest = top;
              keeps = subst (Keeps top top (views first world.out nodes slot) (views first world.out new slot)) (sym (same_values (step.stays slot))) (same slot);
              sent = λ to body said among says.
                  let own = step.mute to body among slot said says in
                  subst (IsSent top (views first world.out new slot)) (sym own.1) (tables slot (record { epoch = own.0; owner = n }) own.2);
              told = λ redirection now begins. absurd (step.told redirection now);
              holder = holder_apart slot top refl (no_holder slot);
              table = tables slot;
            }) kept speaks knows

        hidden_no_holder : ((out : Bool) → IsSeen out before → out ≡ world.out n → ⊥) → (slot : ℕ) → (world.slots slot).top.owner ≢ n
        hidden_no_holder unseen slot same =
            unseen (world.out (world.slots slot).top.owner) ((world.slots slot).holder before (ap (slice_get nodes) same ∙ there)) (ap world.out same)

        pub replica_after : (replica : ReplicaStands n before) → IdleStep n (is_replica before) before.paused before.moves.last one (answered entry.deed) outcome
            → ((slot : ℕ) (known : SlotEntry) → entry_at outcome.state.table slot ≡ Some known → IsAtMost (world.slots slot).top known) → WorldStands config (entry ∷ past) new next
        replica_after replica step tables =
            quiet_after (is_replica before) before.paused before.moves.last step (inr after)
            (λ slot. holds_still (world.slots slot).top (views (first_of config slot) world.out nodes slot) (views (first_of config slot) world.out new slot) (values_in one slot) n (nowhere (first_of config slot))
            (world.slots slot).holds (hidden_here (first_of config slot) slot world.out nodes n before there replica.is_one)
            (hidden_changes (first_of config slot) slot world.out nodes n before there outcome.state after.is_one))
            (hidden_no_holder (λ out seen same. both_ways (is_hidden before) seen.is_master replica.is_one)) tables
          where
            is_one : is_hidden outcome.state ≡ true
            is_one = step.role_is ∙ replica.is_one

            not_paused : (o : Option ℕ) → outcome.state.paused ≡ o → is_some o ≡ true → ⊥
            not_paused None none is = both_ways false refl is
            not_paused (Some x) paused is =
                no_master (own_master outcome.state) is_one
                (ap (λ (p : Peer Handing). p.master) (sym new_peer) ∙ (kept.each n).pauses x (ap (λ (p : Peer Handing). p.paused) new_peer ∙ paused))

            after : ReplicaStands n outcome.state
            after = record {
              number_is = step.node.number_is;
              slots = step.node.slots;
              is_one = is_one;
              foreign = λ slot named. not_paused outcome.state.paused refl (step.node.rests slot named);
              idle = step.node.idle;
            }

        pub out_after : (is_out : world.out n ≡ true) (stands : OutStands n before) → IdleStep n (is_replica before) before.paused before.moves.last one (answered entry.deed) outcome
            → ((slot : ℕ) (known : SlotEntry) → entry_at outcome.state.table slot ≡ Some known → IsAtMost (world.slots slot).top known) → WorldStands config (entry ∷ past) new next
        out_after is_out stands step tables =
            quiet_after (is_replica before) before.paused before.moves.last step (inl (subst (λ (b : Bool). MasterStands b n outcome.state) (sym is_out) after))
            (λ slot. holds_still (world.slots slot).top (views (first_of config slot) world.out nodes slot) (views (first_of config slot) world.out new slot) (values_in one slot) n (seen_out (view_of before slot))
            (world.slots slot).holds (out_here (first_of config slot) slot world.out nodes n before there is_out stands.is_master)
            (out_changes (first_of config slot) slot world.out nodes n before there outcome.state is_out after.is_master (ap (λ (l : fin_map.FinMap nat_cmp ℕ). unwrap_or (fin_map.get l slot) 0) step.lasts)))
            (hidden_no_holder (λ out seen same. both_ways out seen.is_in (same ∙ is_out))) tables
          where
            after : OutStands n outcome.state
            after = record {
              number_is = step.node.number_is;
              slots = step.node.slots;
              is_master = step.role_is ∙ stands.is_master;
              replica = stands.replica;
              paused = step.pausing stands.replica stands.paused;
              idle = step.node.idle;
            }

    -- ---- tables

    -- what a table has of a slot after a step is no newer than the holder's entry
    table_after : (slot : ℕ) (event : Event) → MayHappen past event → (after : NodeState) → (move_of before.moves slot ≡ None) → TableIs event before after
        → (known : SlotEntry) → entry_at after.table slot ≡ Some known → IsAtMost (world.slots slot).top known
    table_after slot event happens after idle (TableIs.same is) known has = (world.slots slot).tables n before known there (ap (λ t. entry_at t slot) (sym is) ∙ has)
    table_after slot event happens after idle (TableIs.ends ended moving is) known has =
        elim (cases_eq slot ended) [
          | inl same ↦ absurd (moving (subst (λ (s : ℕ). move_of before.moves s ≡ None) same idle))
          | inr apart ↦ (world.slots slot).tables n before known there (sym (get_or-set_other before.table ended slot _ None apart) ∙ ap (λ t. entry_at t slot) (sym is) ∙ has)
        ]
    table_after slot event happens after idle (TableIs.learns message runs replaced is says apart now) known has =
        let its : entry_at (merged before.table runs message.from) slot ≡ Some known = ap (λ t. entry_at t slot) (sym now) ∙ has in
        elim (merged_cases before.table runs message.from slot its_table) [
          | inl stays ↦ (world.slots slot).tables n before known there (sym stays ∙ its)
          | inr taken ↦ subst (IsAtMost (world.slots slot).top) (same_some taken.3 its) (claim_most taken.0 taken.1)
        ]
      where
        claim_most : (claim : SlotEntry) → claimed runs message.from slot ≡ Some claim → IsAtMost (world.slots slot).top claim
        claim_most claim is_claim =
            let owner : claim.owner ≡ message.from = claimed_owner runs message.from slot claim is_claim in
            let its : claimed runs message.from slot ≡ Some (record { epoch = claim.epoch; owner = message.from }) = is_claim ∙ ap (λ (o : ℕ). Some (record { epoch = claim.epoch; owner = o })) owner in
            subst (λ (o : ℕ). IsAtMost (world.slots slot).top (record { epoch = claim.epoch; owner = o })) (sym owner)
            ((world.slots slot).history.sent message (Claimed message.from claim.epoch) (subst (λ (e : Event). MayHappen past e) is happens)
            (subst (λ (b : Body). Says slot message.from message.to b (Claimed message.from claim.epoch)) (sym says) (claim.epoch, its, refl)))

    -- ---- a planned promotion

    module _ (full : FullStreams) (streams : AreOnStreams full (sent_by past) nodes) (replica : ReplicaStands n before) (entry : Entry) (ticket : ℕ) (silence : answered entry.deed ≡ None)
        (counting : NodeState) (number : counting.number ≡ before.number) (table : counting.table ≡ before.table) (moves : counting.moves ≡ before.moves) (keyspace : counting.keyspace ≡ before.keyspace)
        (paused : counting.paused ≡ before.paused) (current : before.current_epoch ≤ counting.current_epoch) (epoch : ℕ) (handing : Handing) (noted : before.handover.note ≡ Some handing)
        (planned : planned_epoch before.candidate ≡ Some epoch) (at_end : is_at_end before.stream (Some handing) ≡ true) where
      abbrev its : HasMaster nodes world.out n before handing epoch
      its = has_master world full streams n before there replica handing epoch noted planned at_end

      abbrev turned : ℕ → Outcome
      turned master = promotion_to counting master epoch true (table_handed counting handing.slots epoch)

      abbrev after : NodeState
      after = (turned its.number).state

      abbrev out : ℕ → Bool
      out = out_too world.out its.number

      after_number : after.number ≡ n
      after_number = number ∙ its_number

      after_master : own_master after ≡ None
      after_master = succeeded_ends counting.masters its.number counting.number

      after_table : length after.table ≡ 16384
      after_table = length_merged counting.table (in_epoch epoch handing.slots) counting.number

      apart : n ≢ its.number
      apart same =
          no_master (own_master before) replica.is_one
          (ap (λ (o : Option NodeState). (peer_at o).master) (sym there) ∙ (world.handovers n).pauses n
          (ap (λ (i : ℕ). (peers nodes i).paused) same ∙ ap (λ (o : Option NodeState). (peer_at o).paused) its.there ∙ its.paused))

      out_else : (other : ℕ) → other ≢ its.number → out other ≡ world.out other
      out_else other far = ap (λ (b : Bool). cond b true (world.out other)) (ne_eqb other its.number far)

      out_there : out its.number ≡ true
      out_there = cond-true (its.number == its.number) true (world.out its.number) (eq-eqb its.number its.number refl)

      n_in : out n ≡ false
      n_in = out_else n apart ∙ not_out world full streams n before there replica

      now_seen : NodeStands n after
      now_seen = record {
        number_is = after_number;
        slots = after_table;
        is_master = ap is_some after_master;
        rests = λ other is slot. ap (λ ms. move_of ms slot) moves ∙ replica.idle slot;
      }

      kept : Kept newest_of (peers nodes) (peers (slice_set nodes n after))
      kept =
          promotion_keeps nodes world.handovers n before there its_number after handing its.number epoch its.follows noted planned after_master paused refl refl
          (record { master = its.number; stream = own_stream counting epoch; offset = counting.stream.offset }) refl refl

      its_knows : KnowsEpochs n after
      its_knows =
          let known : epoch ≤ before.current_epoch = (world.knows n before there).planned epoch planned in
          succeeded_knows n counting (ap (λ t. length t) table ∙ replica.slots) (λ slot named. replica.foreign slot (ap (λ t. owner_in (entry_at t slot)) (sym table) ∙ named)) its.number epoch
          (omega (arith, known, current)) handing.slots

      gone : (other : ℕ) → out other ≡ true → IsOut (peers (slice_set nodes n after)) other
      gone other is =
          elim (cases_eq other its.number) [
            | inl same ↦
                subst (IsOut (peers (slice_set nodes n after))) (sym same)
                (record {
                  replica = n;
                  paused = kept.grows.paused its.number n (ap (λ (o : Option NodeState). (peer_at o).paused) its.there ∙ its.paused);
                  promoted = ap (λ (o : Option NodeState). (peer_at o).master) (set_here nodes n before after there) ∙ after_master;
                })
            | inr far ↦
                let was : IsOut (peers nodes) other = world.is_out other (sym (out_else other far) ∙ is) in
                record { replica = was.replica; paused = kept.grows.paused other was.replica was.paused; promoted = kept.grows.master was.replica was.promoted }
          ]

      rest : (other : ℕ) (node : NodeState) → other ≢ n → slice_get nodes other ≡ Some node → IsAt (out other) other node
      rest other node away is =
          elim (cases_eq other its.number) [
            | inl same ↦
                let node_is : its.node ≡ node = same_some its.there (ap (slice_get nodes) (sym same) ∙ is) in
                let left : OutStands its.number its.node = record {
                  number_is = its.stands.number_is;
                  slots = its.stands.slots;
                  is_master = its.stands.is_master;
                  replica = n;
                  paused = its.paused;
                  idle = its.stands.rests n its.paused;
                } in
                subst (λ (i : ℕ). IsAt (out i) i node) (sym same)
                (inl (subst (λ (b : Bool). MasterStands b its.number node) (sym out_there) (subst (OutStands its.number) node_is left)))
            | inr far ↦ subst (λ (b : Bool). IsAt b other node) (sym (out_else other far)) (world.each other node is)
          ]

      module _ (sends : sent_in entry.deed ≡ map (stamped after.number ticket after.current_epoch) (turned its.number).sent) (speaks : Speak after (turned its.number).sent) where
        claims : AreJustified past n after (turned its.number).sent
        claims = to_all_justified past n after (others counting) (body.Slots (of_slots.Claim (claim_of after) after.replaced)) (λ to.
            subst (λ (i : ℕ). IsJustified past n after to (body.Slots (of_slots.Claim (runs_of (claim_at after.table i)) after.replaced))) (sym after_number) (claim_justified past n after to after.replaced after_table))

        left : (slot : ℕ) → SlotLeft entry (turned its.number) ticket sends after_number out slot
        left slot =
            let first : SlotEntry = first_of config slot in
            let was = world.slots slot in
            let handed : SlotIsHanded (views first world.out nodes slot) was.top (views first out (slice_set nodes n after) slot) (values_in one slot) n epoch =
            slots_are_handed world full streams n before there replica handing epoch noted planned at_end counting number table moves keyspace slot in
            let newest : SlotEntry = handed.newest in
            let here : views first out (slice_set nodes n after) slot n ≡ view_of after slot = ap (view_at first slot (out n)) (set_here nodes n before after there) ∙ seen_so first slot (out n) after n_in (ap is_some after_master) in
            let keeps : Keeps was.top newest (views first world.out nodes slot) (views first out (slice_set nodes n after) slot) (values_in (next_of one (if_served (answered entry.deed))) slot) =
            subst (λ (a : Option Answered). Keeps was.top newest (views first world.out nodes slot) (views first out (slice_set nodes n after) slot) (values_in (next_of one (if_served a)) slot)) (sym silence) handed.keeps in
            let left_view : (views first out (slice_set nodes n after) slot its.number).entry ≡ None =
            ap (λ (v : View Value). v.entry)
            (ap (view_at first slot (out its.number)) (set_apart nodes n after its.number (λ same. apart (sym same)) ∙ its.there) ∙ out_so first slot (out its.number) its.node out_there its.stands.is_master) in
            record {
              newest = newest;
              keeps = keeps;
              sent = λ to said sent among says.
                  justified_is_true past after keeps.holds here (λ message other earlier says_so. keeps.sent other (was.history.sent message other earlier says_so)) to said sent (claims to said among) says;
              told = λ redirection now begins. absurd (no_some (ap redirection_in silence) now);
              holder = λ node is.
                  elim handed.is [
                    | inr own ↦
                        let at : newest.owner ≡ n = ap (λ (e : SlotEntry). e.owner) own in
                        let node_is : after ≡ node = same_some (set_here nodes n before after there) (ap (slice_get (slice_set nodes n after)) (sym at) ∙ is) in
                        record { is_in = ap out at ∙ n_in; is_master = ap is_hidden (sym node_is) ∙ ap is_some after_master }
                    | inl top ↦
                        let at : newest.owner ≡ was.top.owner = ap (λ (e : SlotEntry). e.owner) top in
                        let away : newest.owner ≢ n = λ same. both_ways (is_hidden before) (was.holder before (ap (slice_get nodes) (sym at ∙ same) ∙ there)).is_master replica.is_one in
                        let far : newest.owner ≢ its.number =
                        λ same. no_some left_view (subst (λ (i : ℕ). (views first out (slice_set nodes n after) slot i).entry ≡ Some newest) same keeps.holds.holder.entry) in
                        let seen : IsSeen (world.out was.top.owner) node = was.holder node (ap (slice_get nodes) (sym at) ∙ sym (set_apart nodes n after newest.owner away) ∙ is) in
                        record { is_in = out_else newest.owner far ∙ ap world.out at ∙ seen.is_in; is_master = seen.is_master }
                  ];
              table = λ known has. keeps.holds.newest n known (ap (λ (v : View Value). v.entry) here ∙ has);
            }

        pub succession_after : WorldStands config (entry ∷ past) (slice_set nodes n after) (next_of one (if_served (answered entry.deed)))
        succession_after =
            world_after entry (turned its.number) ticket sends after_number out gone (inl (subst (λ (b : Bool). MasterStands b n after) (sym n_in) now_seen)) rest left kept speaks its_knows

  -- ---- an entry

  -- what is left of the world by it
  pub record EntryStands (entry : Entry) (new : List NodeState) : Type 0 where
    pub later : WorldStands config (entry ∷ past) new (next_of one (if_served (answered entry.deed)))
    pub replies : RepliesAs one (if_served (answered entry.deed))

  planned_so : (b : Bool) → not b ≡ false → b ≡ true
  planned_so true is = refl
  planned_so false is = sym is

  module _ (n : ℕ) (before : NodeState) (there : slice_get nodes n ≡ Some before) where
    skip_stands : (entry : Entry) → entry.deed ≡ Skipped → EntryStands entry (slice_set nodes n before)
    skip_stands entry skipped = by_role (world.each n before there)
      where
        sends : sent_in entry.deed ≡ []
        sends = ap sent_in skipped

        kept : Kept newest_of (peers nodes) (peers (slice_set nodes n before))
        kept = goes_keeps nodes world.handovers n before there (its_number n before there) before (λ replica paused follows. refl) (goes_itself before)

        speaks : Speak before []
        speaks to said among = absurd (contains_nothing (to, said) among)

        tables : (slot : ℕ) (known : SlotEntry) → entry_at before.table slot ≡ Some known → IsAtMost (world.slots slot).top known
        tables slot known has = (world.slots slot).tables n before known there has

        idles : IdleStands n before → IdleStep n (is_replica before) before.paused before.moves.last one (answered entry.deed) (silent before)
        idles stands =
            subst (λ (d : Deed). IdleStep n (is_replica before) before.paused before.moves.last one (answered d) (silent before)) (sym skipped) (skipped_replica one stands)

        by_out : (out : Bool) → world.out n ≡ out → MasterStands out n before → EntryStands entry (slice_set nodes n before)
        by_out false is_in master =
            let was = slot_was n before there is_in master in
            let still : StepStands was (answered entry.deed) (silent before) =
            subst (λ (d : Deed). StepStands was (answered d) (silent before)) (sym skipped)
            (quiet_still was None refl refl (silent before) master (λ slot. refl) (nothing_sent past n before)) in
            record { later = seen_after n before there entry (silent before) 0 sends (its_number n before there) kept speaks (world.knows n before there) is_in master still; replies = still.replies }
        by_out true is_out stands =
            let still = idles (idle_out n before stands) in
            record { later = out_after n before there entry (silent before) 0 sends (its_number n before there) kept speaks (world.knows n before there) is_out stands still tables; replies = still.replies }

        by_role : IsAt (world.out n) n before → EntryStands entry (slice_set nodes n before)
        by_role (inl master) = by_out (world.out n) refl master
        by_role (inr replica) =
            let still = idles (idle_replica n before replica) in
            record { later = replica_after n before there entry (silent before) 0 sends (its_number n before there) kept speaks (world.knows n before there) replica still tables; replies = still.replies }

    made_stands : CommandsAreLocal → (full : FullStreams) → AreOnStreams full (sent_by past) nodes → (entry : Entry) (event : Event) (outcome : Outcome) → entry.deed ≡ Made event (outputs_of entry.ticket outcome)
        → MayHappen past event → MayCome before event outcome → ends_one_keyspace outcome.promoted ≡ false → MayAsk past n (answered (Made event (outputs_of entry.ticket outcome))) → EntryStands entry (slice_set nodes n outcome.state)
    made_stands local full streams entry event outcome deed_is happens may one_still asks = by_promoted outcome.promoted refl one_still
      where
        sends : sent_in entry.deed ≡ map (stamped outcome.state.number entry.ticket outcome.state.current_epoch) outcome.sent
        sends = ap sent_in deed_is

        speaks : Speak outcome.state outcome.sent
        speaks = event_speaks before event outcome may

        -- ---- nobody is promoted

        table : outcome.promoted ≡ None → TableIs event before outcome.state
        table now = event_table before event outcome may now

        knows : outcome.promoted ≡ None → KnowsEpochs n outcome.state
        knows now = knows_after n before (its_number n before there) (its_table n before there) (world.knows n before there) event outcome.state (event_knows event before outcome.state (event_does before event outcome may now)) (table now)

        idles : outcome.promoted ≡ None → IdleStands n before → IdleStep n (is_replica before) before.paused before.moves.last one (answered entry.deed) outcome
        idles now stands =
            subst (λ (d : Deed). IdleStep n (is_replica before) before.paused before.moves.last one (answered d) outcome) (sym deed_is)
            (event_replica one stands local entry.ticket event outcome may now)

        by_out : outcome.promoted ≡ None → (out : Bool) → world.out n ≡ out → MasterStands out n before → EntryStands entry (slice_set nodes n outcome.state)
        by_out now false is_in master =
            let was = slot_was n before there is_in master in
            let made_so : StepStands was (answered (Made event (outputs_of entry.ticket outcome))) outcome = event_stands was master local entry.ticket event outcome happens may asks in
            let stood : StepStands was (answered entry.deed) outcome = subst (λ (d : Deed). StepStands was (answered d) outcome) (sym deed_is) made_so in
            let kept = event_keeps n before there event outcome happens may now (seen_still n before there is_in master event outcome happens may now stood.node.number_is) in
            record { later = seen_after n before there entry outcome entry.ticket sends stood.node.number_is kept speaks (knows now) is_in master stood; replies = stood.replies }
        by_out now true is_out stands =
            let stood = idles now (idle_out n before stands) in
            let kept = event_keeps n before there event outcome happens may now (out_still n before there is_out outcome.state) in
            record {
              later = out_after n before there entry outcome entry.ticket sends stood.node.number_is kept speaks (knows now) is_out stands stood (λ slot. table_after n before there slot event happens outcome.state (stands.idle slot) (table now));
              replies = stood.replies;
            }

        by_role : outcome.promoted ≡ None → IsAt (world.out n) n before → EntryStands entry (slice_set nodes n outcome.state)
        by_role now (inl master) = by_out now (world.out n) refl master
        by_role now (inr replica) =
            let stood = idles now (idle_replica n before replica) in
            let kept = event_keeps n before there event outcome happens may now (replica_still n before there replica.is_one outcome.state) in
            record {
              later = replica_after n before there entry outcome entry.ticket sends stood.node.number_is kept speaks (knows now) replica stood (λ slot. table_after n before there slot event happens outcome.state (replica.idle slot) (table now));
              replies = stood.replies;
            }

        -- ---- the node is, by a handover

        by_succession : Succession before outcome → answered entry.deed ≡ None → IsAt (world.out n) n before → EntryStands entry (slice_set nodes n outcome.state)
        by_succession turns silence (inl master) = absurd (both_ways (is_some (own_master before)) (master_role (world.out n) n before master) (ap is_some turns.follows))
        by_succession turns silence (inr replica) =
            let its = has_master world full streams n before there replica turns.handing turns.epoch turns.noted turns.planned turns.at_end in
            let turned_so : ℕ → Outcome = λ (master : ℕ). promotion_to turns.counting master turns.epoch true (table_handed turns.counting turns.handing.slots turns.epoch) in
            let turned_is : outcome ≡ turned_so its.number = turns.comes_to ∙ ap turned_so (same_some turns.follows its.follows) in
            subst (λ (o : Outcome). EntryStands entry (slice_set nodes n o.state)) (sym turned_is)
            (record {
              later =
                  succession_after n before there full streams replica entry entry.ticket silence turns.counting turns.number turns.table turns.moves turns.keyspace turns.paused turns.current turns.epoch turns.handing turns.noted
                  turns.planned turns.at_end
                  (subst (λ (o : Outcome). sent_in entry.deed ≡ map (stamped o.state.number entry.ticket o.state.current_epoch) o.sent) turned_is sends)
                  (subst (λ (o : Outcome). Speak o.state o.sent) turned_is speaks);
              replies = subst (λ (a : Option Answered). RepliesAs one (if_served a)) (sym silence) tt;
            })

        by_promoted : (promoted : Option Promotion) → outcome.promoted ≡ promoted → ends_one_keyspace promoted ≡ false → EntryStands entry (slice_set nodes n outcome.state)
        by_promoted None now still = by_role now (world.each n before there)
        by_promoted (Some promotion) now still =
            let turns = event_turns before event outcome may promotion now (planned_so promotion.planned still) in
            by_succession turns.2 (ap answered deed_is ∙ ap (λ (e : Event). answered (Made e (outputs_of entry.ticket outcome))) turns.1) (world.each n before there)

  pub entry_stands : CommandsAreLocal → (full : FullStreams) → AreOnStreams full (sent_by past) nodes → (entry : Entry) (later : List NodeState) → WorldStep past nodes entry later
      → ends_one_keyspace (promoted_in entry.deed) ≡ false → MayAsk past entry.node (answered entry.deed) → EntryStands entry later
  entry_stands local full streams entry later step one_still may =
      subst (EntryStands entry) (sym step.is) (by_deed entry.deed refl step.leads one_still may)
    where
      by_deed : (deed : Deed) → entry.deed ≡ deed → Leads past entry.ticket step.before deed step.after → ends_one_keyspace (promoted_in deed) ≡ false → MayAsk past entry.node (answered deed)
          → EntryStands entry (slice_set nodes entry.node step.after)
      by_deed Skipped skipped same one_still may =
          subst (λ (s : NodeState). EntryStands entry (slice_set nodes entry.node s)) (sym same) (skip_stands entry.node step.before step.was entry skipped)
      by_deed (Made event outputs) made (happens, stepped) one_still may =
          subst (λ (s : NodeState). EntryStands entry (slice_set nodes entry.node s)) (sym stepped.state)
          (made_stands entry.node step.before step.was local full streams entry event stepped.outcome (made ∙ ap (Made event) stepped.outputs_are) happens stepped.may_come
          (ap (λ (o : Outputs). ends_one_keyspace o.promoted) (sym stepped.outputs_are) ∙ one_still)
          (subst (λ (o : Outputs). MayAsk past entry.node (answered (Made event o))) stepped.outputs_are may))

-- ---- runs

-- the replies of what is executed, and those of the one keyspace
abbrev AreAnswered : Keyspace → List Answered → Type 0
AreAnswered one requests = map (λ (request : Answered). request.answer.reply) requests ≡ (replay_from one (map (λ (request : Answered). request.words) requests)).replies

one_more : (one : Keyspace) (answer : Option Answered) (requests : List Answered) → RepliesAs one answer → AreAnswered (next_of one answer) requests → AreAnswered one (cons_option answer requests)
one_more one None requests replies rest = rest
one_more one (Some answer) requests replies rest = ap₂ (λ r rs. r ∷ rs) replies rest

-- an entry and those behind it, up to the first unplanned promotion
entry_answers : CommandsAreLocal → (config : ClusterConfig) (full : FullStreams) (past : List Entry) (nodes : List NodeState) (one : Keyspace) → Stands full past nodes → WorldStands config past nodes one
    → (entry : Entry) (entries : List Entry) (then_so : List NodeState) → WorldStep past nodes entry then_so
    → ((later : Keyspace) → WorldStands config (entry ∷ past) then_so later → KeepsAsking (entry ∷ past) (until_promotion entries) → AreAnswered later (executed (until_promotion entries)))
    → (ends : Bool) → ends_one_keyspace (promoted_in entry.deed) ≡ ends → KeepsAsking past (cond ends [] (entry ∷ until_promotion entries))
    → AreAnswered one (executed (cond ends [] (entry ∷ until_promotion entries)))
entry_answers local config full past nodes one streams stands entry entries then_so step behind true is asking = refl
entry_answers local config full past nodes one streams stands entry entries then_so step behind false is asking =
    let stood = entry_stands config stands local full (are_on_streams full past nodes streams) entry then_so step is asking.0 in
    one_more one (if_served (answered entry.deed)) (executed (until_promotion entries)) stood.replies
    (behind (next_of one (if_served (answered entry.deed))) stood.later asking.1)

runs_answer : CommandsAreLocal → (config : ClusterConfig) (full : FullStreams) (past : List Entry) (nodes : List NodeState) (one : Keyspace) → Stands full past nodes → WorldStands config past nodes one
    → (entries : List Entry) (last : List NodeState) → RunGoes past nodes entries last → KeepsAsking past (until_promotion entries) → AreAnswered one (executed (until_promotion entries))
runs_answer local config full past nodes one streams stands [] last goes asking = refl
runs_answer local config full past nodes one streams stands (entry ∷ entries) last goes asking =
    entry_answers local config full past nodes one streams stands entry entries goes.0 goes.1
    (λ later stands_later asking_later.
    runs_answer local config (streams_after full goes.1.before entry.deed) (entry ∷ past) goes.0 later (streams_stand full past nodes streams entry goes.0 goes.1).world stands_later entries last goes.2 asking_later)
    (ends_one_keyspace (promoted_in entry.deed)) refl asking

pub law_by_locality : CommandsAreLocal → SingleKeyspace
law_by_locality local config entries is_cluster is_run asking =
    runs_answer local config no_streams [] _ fin_map.empty (first_stands config) (first_world_stands config) entries is_run.last is_run.goes asking

pub law : SingleKeyspace
law = law_by_locality commands_are_local

-- What a planned promotion stands on: the replica has just the keys of its master, which stands still and hands over what the replica noted.
use Rattle.std.proofs.Common.{◌≡◌, ◌≢◌, ◌<◌, ◌==◌, ◌&&◌, ℕ, List, Bool, true, false, Option, Some, None, refl, sym, ap, subst, ◌∙◌, inl, inr}
use Rattle.std.proofs.lemmas.Bool.{and_parts, both_ways, cases_Bool, eqb-true}
use Rattle.std.specs.Prelude.{is_some, slice_get, slice_set}
use Rattle.bus.specs.Stream.{is_same, is_whole}
use Rattle.bus.specs.declared.bodies.Handing.{Handing}
use Rattle.bus.specs.declared.stream_id.StreamId.{StreamId}
use Rattle.cluster_config.specs.Config.{ClusterConfig}
use Rattle.handovers.proofs.Keeping.{IsHandedOver, is_handed_over}
use Rattle.handovers.specs.Peers.{Peer}
use Rattle.keyspace.specs.Keyspace.{Keyspace}
use Rattle.slot_table.specs.Claims.{in_epoch, merged}
use Rattle.slot_table.specs.Runs.{runs_of}
use Rattle.slot_table.specs.Table.{claim_at}
use Rattle.slot_table.specs.declared.runs.Run.{Run}
use Rattle.true_streams.proofs.Agreeing.{same_keyspace}
use Rattle.true_streams.specs.Full.{Follows, FullStreams}
use Rattle.promoted_prefix.specs.Law.{AreOnStreams}
use Rattle.promoted_prefix.proofs.Growing.{same_ids}
use Rattle.node_step.proofs.Ready.{succeeded_ends}
use Rattle.node_step.specs.Handovers.{handing_of, is_at_end}
use Rattle.node_step.specs.Promotion.{in_place_of, table_handed}
use Rattle.node_step.specs.Replicas.{follower_of}
use Rattle.node_step.specs.State.{NodeState, own_master}
use Rattle.world_run.specs.Run.{Entry, sent_by}
use Rattle.single_keyspace.proofs.HandingOver.{SlotIsHanded, slot_is_handed}
use Rattle.single_keyspace.proofs.Seen.{no_some, same_some}
use Rattle.single_keyspace.specs.Handing.{newest_in, newest_of, peer_at, peer_of, peers, planned_epoch}
use Rattle.single_keyspace.specs.Slots.{first_of, out_too, values_in, views}
use Rattle.single_keyspace.specs.Stands.{IsOut, MasterStands, NodeStands, ReplicaStands, WorldStands}

-- the master of a replica that may take its place: it is seen, no slot moves there, it has what the replica noted, and the same keys
pub record HasMaster (nodes : List NodeState) (out : ℕ → Bool) (n : ℕ) (before : NodeState) (handing : Handing) (epoch : ℕ) : Type 0 where
  pub number : ℕ
  pub node : NodeState
  pub there : slice_get nodes number ≡ Some node
  pub follows : own_master before ≡ Some number
  pub paused : node.paused ≡ Some n
  pub is_in : out number ≡ false
  pub stands : NodeStands number node
  pub hands : handing_of node ≡ handing
  pub above : newest_of handing < epoch
  pub keyspace : before.keyspace ≡ node.keyspace

module _ {config : ClusterConfig} {past : List Entry} {nodes : List NodeState} {one : Keyspace} (world : WorldStands config past nodes one) (full : FullStreams) (streams : AreOnStreams full (sent_by past) nodes)
    (n : ℕ) (before : NodeState) (there : slice_get nodes n ≡ Some before) (replica : ReplicaStands n before) where
  its_peer : peers nodes n ≡ peer_of before
  its_peer = ap peer_at there

  follows_some : own_master before ≢ None
  follows_some none = both_ways (is_some (own_master before)) (ap is_some none) replica.is_one

  none_of : (o : Option ℕ) → is_some o ≡ false → o ≡ None
  none_of None is = refl
  none_of (Some m) is = absurd (both_ways true is refl)

  -- nobody is out whose place isn't taken
  pub not_out : world.out n ≡ false
  not_out =
      elim (cases_Bool (world.out n)) [
        | inl is ↦
            let gone : IsOut (peers nodes) n = world.is_out n is in
            absurd (follows_some (ap (λ (p : Peer Handing). p.master) (sym its_peer) ∙ (world.handovers n).pauses gone.replica gone.paused))
        | inr is ↦ is
      ]

  module _ (handing : Handing) (epoch : ℕ) (note : before.handover.note ≡ Some handing) (planned : planned_epoch before.candidate ≡ Some epoch) (at_end : is_at_end before.stream (Some handing) ≡ true) where
    handed : IsHandedOver newest_of (peers nodes) n handing epoch
    handed = is_handed_over newest_of world.handovers n epoch handing (ap (λ (p : Peer Handing). p.note) its_peer ∙ note) (ap (λ (p : Peer Handing). p.planned) its_peer ∙ planned)

    pub has_master : HasMaster nodes world.out n before handing epoch
    has_master = by_node (slice_get nodes handed.from) refl
      where
        master_of : (node : NodeState) → slice_get nodes handed.from ≡ Some node → NodeStands handed.from node → world.out handed.from ≡ false → HasMaster nodes world.out n before handing epoch
        master_of node is stands is_in =
            let hands : handing_of node ≡ handing = ap (λ (o : Option NodeState). (peer_at o).hands) (sym is) ∙ handed.hands in
            let places = and_parts (is_same handing.stream before.stream.held.id && handing.offset == before.stream.offset) (is_whole before.stream) at_end in
            let place = and_parts (is_same handing.stream before.stream.held.id) (handing.offset == before.stream.offset) places.0 in
            let stream : node.stream.held.id ≡ before.stream.held.id = ap (λ (h : Handing). h.stream) hands ∙ same_ids handing.stream before.stream.held.id place.0 in
            let offset : before.stream.offset ≡ node.stream.offset = sym (eqb-true handing.offset before.stream.offset place.1) ∙ sym (ap (λ (h : Handing). h.offset) hands) in
            let its_own : Follows (full node.stream.held.id) (follower_of node) = (streams.each handed.from node is).follows in
            record {
              number = handed.from;
              node = node;
              there = is;
              follows = ap (λ (p : Peer Handing). p.master) (sym its_peer) ∙ handed.follows;
              paused = ap (λ (o : Option NodeState). (peer_at o).paused) (sym is) ∙ handed.paused;
              is_in = is_in;
              stands = stands;
              hands = hands;
              above = handed.above;
              keyspace = same_keyspace (full before.stream.held.id) (follower_of before) (follower_of node) (streams.each n before there).follows
                  (subst (λ (id : StreamId). Follows (full id) (follower_of node)) stream its_own) offset;
            }

        by_out : (node : NodeState) → slice_get nodes handed.from ≡ Some node → (b : Bool) → world.out handed.from ≡ b → MasterStands b handed.from node → HasMaster nodes world.out n before handing epoch
        by_out node is false is_in stands = master_of node is stands is_in
        by_out node is true is_out stands =
            let gone : IsOut (peers nodes) handed.from = world.is_out handed.from is_out in
            let same : gone.replica ≡ n = same_some gone.paused handed.paused in
            absurd (follows_some (ap (λ (p : Peer Handing). p.master) (sym its_peer) ∙ subst (λ (i : ℕ). (peers nodes i).master ≡ None) same gone.promoted))

        by_node : (o : Option NodeState) → slice_get nodes handed.from ≡ o → HasMaster nodes world.out n before handing epoch
        by_node None none = absurd (no_some (ap (λ (o : Option NodeState). (peer_at o).paused) none) handed.paused)
        by_node (Some node) is =
            elim (world.each handed.from node is) [
              | inl master ↦ by_out node is (world.out handed.from) refl master
              | inr other ↦
                  absurd (both_ways (is_some (own_master node)) (ap is_some (ap (λ (o : Option NodeState). (peer_at o).master) (sym is) ∙ handed.master)) other.is_one)
            ]

    -- the node in its master's place
    abbrev pub after : NodeState → ℕ → NodeState
    after counting master = in_place_of counting master epoch (table_handed counting handing.slots epoch)

    -- each slot is handed over, by a promotion of a node that has the replica's slots and keys
    pub slots_are_handed : (counting : NodeState) → counting.number ≡ before.number → counting.table ≡ before.table → counting.moves ≡ before.moves → counting.keyspace ≡ before.keyspace → (slot : ℕ)
        → SlotIsHanded (views (first_of config slot) world.out nodes slot) (world.slots slot).top
        (views (first_of config slot) (out_too world.out has_master.number) (slice_set nodes n (after counting has_master.number)) slot) (values_in one slot) n epoch
    slots_are_handed counting number table moves keyspace slot =
        let its = has_master in
        let was = world.slots slot in
        let runs : runs_of (claim_at its.node.table its.number) ≡ handing.slots =
        ap (λ (i : ℕ). runs_of (claim_at its.node.table i)) (sym its.stands.number_is) ∙ ap (λ (h : Handing). h.slots) its.hands in
        let no_master : (peers nodes its.number).master ≡ None = ap (λ (o : Option NodeState). (peer_at o).master) its.there ∙ none_of (own_master its.node) its.stands.is_master in
        let apart : its.number ≢ n =
        λ same. follows_some (ap (λ (p : Peer Handing). p.master) (sym its_peer) ∙ subst (λ (i : ℕ). (peers nodes i).master ≡ None) same no_master) in
        slot_is_handed (first_of config slot) slot world.out nodes was.holds was.holder n before there replica not_out (λ entry has. was.tables n before entry there has)
        its.number its.node its.there its.stands its.is_in (its.stands.rests n its.paused slot) apart
        epoch (subst (λ (all : List (Run ℕ)). newest_in all < epoch) (sym runs) its.above)
        (after counting its.number) (ap is_some (succeeded_ends counting.masters its.number counting.number))
        (subst (λ (all : List (Run ℕ)). merged counting.table (in_epoch epoch handing.slots) counting.number ≡ merged before.table (in_epoch epoch all) n) (sym runs)
        (λ i. merged (table i) (in_epoch epoch handing.slots) ((number ∙ replica.number_is) i)))
        moves (keyspace ∙ its.keyspace)

-- The nodes of a cluster as they begin.
use Rattle.std.proofs.Common.{◌≡◌, ◌<◌, ◌≤◌, ◌⊎◌, ℕ, List, [], ◌∷◌, Bool, true, false, cond, Option, Some, None, length, refl, sym, ap, subst, ◌∙◌, inl, inr, arith}
use Rattle.std.proofs.lemmas.Bool.{both_ways, cases_Bool, cases_lt, cond-true, cond-false}
use Rattle.std.proofs.lemmas.List.{get_or_past}
use Rattle.std.proofs.lemmas.List.FromFn.{get_or-map-range_with_len, length-map-range_with_len}
use Rattle.std.specs.Cmp.Lexicographic.{slice_cmp}
use Rattle.std.specs.FinMap as fin_map
use Rattle.std.specs.Ordering.{nat_cmp}
use Rattle.std.specs.Prelude.{slice_get, unwrap_or}
use Rattle.keyspace.specs.Keyspace.{Keyspace}
use Rattle.cluster_config.specs.Config.{ClusterConfig, first_owners}
use Rattle.key_slot.specs.SlotRange.{is_in}
use Rattle.slot_store.specs.InSlot.{is_in_slot}
use Rattle.slot_table.specs.Table.{entry_at, first_entry, first_table, owner_in}
use Rattle.slot_table.specs.declared.entry.SlotEntry.{SlotEntry}
use Rattle.slot_table.specs.declared.runs.Run.{Run}
use Rattle.bus.specs.declared.bodies.Handing.{Handing}
use Rattle.handovers.specs.Peers.{Peers}
use Rattle.handovers.specs.Stands.{PeerStands}
use Rattle.one_slot.specs.Events.{IsFirst}
use Rattle.one_slot.specs.Slot.{IsAtMost}
use Rattle.one_slot.proofs.Beginnings.{starts-holds}
use Rattle.node_step.specs.State.{NodeState, first_state, is_replica}
use Rattle.world_run.specs.Run.{first_nodes}
use Rattle.single_keyspace.specs.Slots.{first_of, nowhere, values_in, view_at, view_of, views}
use Rattle.single_keyspace.specs.Handing.{newest_of, peer_at, peers}
use Rattle.single_keyspace.specs.Stands.{IsSeen, KnowsEpochs, MasterStands, ReplicaStands, SlotStands, WorldStands}
use Rattle.single_keyspace.proofs.Lists.{contains_nothing}
use Rattle.single_keyspace.proofs.Seen.{no_some, same_some}
use Rattle.world_run.proofs.Owners.{first_slots, not_first_owner}
pub use Rattle.world_run.proofs.Nodes.{first_node}

abbrev no_key : Keyspace
no_key = fin_map.empty

nothing_in : (slot : ℕ) (key : List ℕ) → values_in no_key slot key ≡ None
nothing_in slot key =
    elim (cases_Bool (is_in_slot slot key)) [
      | inl here ↦ ap (λ b. cond b (fin_map.get no_key key) None) here ∙ fin_map.get-empty (slice_cmp nat_cmp) key
      | inr apart ↦ ap (λ b. cond b (fin_map.get no_key key) None) apart
    ]

-- nobody handed over
abbrev nobody_out : ℕ → Bool
nobody_out number = false

-- all slots begin in one epoch
epoch_in_runs : (owners : List (Run ℕ)) (slot : ℕ) (known : SlotEntry) → first_entry owners slot ≡ Some known → known.epoch ≡ 1
epoch_in_runs [] slot known is = absurd (no_some refl is)
epoch_in_runs (run ∷ runs) slot known is =
    let own : Option SlotEntry = Some (record { epoch = 1; owner = run.value }) in
    elim (cases_Bool (is_in run.slots slot)) [
      | inl here ↦ ap (λ (e : SlotEntry). e.epoch) (sym (same_some (cond-true (is_in run.slots slot) own (first_entry runs slot) here) is))
      | inr apart ↦ epoch_in_runs runs slot known (sym (cond-false (is_in run.slots slot) own (first_entry runs slot) apart) ∙ is)
    ]

first_epoch : (owners : List (Run ℕ)) (slot : ℕ) (known : SlotEntry) → entry_at (first_table owners) slot ≡ Some known → known.epoch ≡ 1
unfolding first_table
first_epoch owners slot known is =
    elim (cases_lt slot 16384) [
      | inl below ↦ epoch_in_runs owners slot known (sym (get_or-map-range_with_len (first_entry owners) 0 16384 slot slot None below (omega arith)) ∙ is)
      | inr past ↦
          let far : length (first_table owners) ≤ slot = omega (arith, length-map-range_with_len (first_entry owners) 0 16384, past) in
          absurd (no_some (get_or_past (first_table owners) slot None far) is)
    ]

-- a node that takes part in no handover
apart_stands : (all : Peers Handing) (number : ℕ) → (all number).paused ≡ None → (all number).note ≡ None → (all number).planned ≡ None → (all number).replaced ≡ None → PeerStands newest_of all number
apart_stands all number paused told planned replaced = record {
  pauses = λ x is. absurd (no_some paused is);
  led = λ x is. absurd (no_some paused is);
  noted = λ handed is. absurd (no_some told is);
  elected = λ epoch is. absurd (no_some planned is);
  replaced = λ x is. absurd (no_some replaced is);
}

module _ (config : ClusterConfig) where
  module _ (slot : ℕ) where
    abbrev entry : Option SlotEntry
    entry = entry_at (first_table (first_owners config)) slot

    abbrev nobody : SlotEntry
    nobody = record { epoch = 0; owner = length config.nodes }

    is_first_view : (i : ℕ) → IsFirst (first_of config slot) (view_of (first_state config i) slot)
    is_first_view i = record {
      entry = λ e is. sym (ap (λ o. unwrap_or o nobody) is);
      move = fin_map.get-empty nat_cmp slot;
      value = nothing_in slot;
    }

    is_first_nowhere : IsFirst (first_of config slot) (nowhere (first_of config slot))
    is_first_nowhere = record { entry = λ e is. same_some is refl; move = refl; value = λ key. refl }

    is_first_seen : (i : ℕ) (b : Bool) → IsFirst (first_of config slot) (cond b (nowhere (first_of config slot)) (view_of (first_state config i) slot))
    is_first_seen i true = is_first_nowhere
    is_first_seen i false = is_first_view i

    each_first : (i : ℕ) → IsFirst (first_of config slot) (views (first_of config slot) nobody_out (first_nodes config) slot i)
    each_first i =
        elim (first_node config i) [
          | inl there ↦ subst (λ o. IsFirst (first_of config slot) (view_at (first_of config slot) slot false o)) (sym there.1) (is_first_seen i (is_replica (first_state config i)))
          | inr missing ↦ subst (λ o. IsFirst (first_of config slot) (view_at (first_of config slot) slot false o)) (sym missing) is_first_nowhere
        ]

    by_entry : (o : Option SlotEntry) → entry ≡ o → (first_of config slot).owner < length config.nodes → entry ≡ Some (first_of config slot)
    by_entry None none below =
        let far : (first_of config slot).owner ≡ length config.nodes = ap (λ o. (unwrap_or o nobody).owner) none in
        absurd (omega (arith, below, far))
    by_entry (Some e) is below = is ∙ ap Some (sym (ap (λ o. unwrap_or o nobody) is))

    -- the first owner has the slot
    owner_has : (views (first_of config slot) nobody_out (first_nodes config) slot (first_of config slot).owner).entry ≡ Some (first_of config slot)
    owner_has =
        elim (first_node config (first_of config slot).owner) [
          | inl there ↦ ap (λ o. (view_at (first_of config slot) slot false o).entry) there.1 ∙ by_role (is_replica (first_state config (first_of config slot).owner)) there.0
          | inr missing ↦ ap (λ o. (view_at (first_of config slot) slot false o).entry) missing
        ]
      where
        by_role : (b : Bool) → (first_of config slot).owner < length config.nodes
            → (cond b (nowhere (first_of config slot)) (view_of (first_state config (first_of config slot).owner) slot)).entry ≡ Some (first_of config slot)
        by_role true below = refl
        by_role false below = by_entry entry refl below

    -- and is a master
    owner_seen : (node : NodeState) → slice_get (first_nodes config) (first_of config slot).owner ≡ Some node → IsSeen false node
    owner_seen node is =
        elim (first_node config (first_of config slot).owner) [
          | inl there ↦
              elim (cases_Bool (is_replica (first_state config (first_of config slot).owner))) [
                | inl replica ↦ absurd (not_first_owner config (first_of config slot).owner replica slot (ap owner_in (by_entry entry refl there.0)))
                | inr master ↦ record { is_in = refl; is_master = subst (λ (n : NodeState). is_replica n ≡ false) (same_some there.1 is) master }
              ]
          | inr missing ↦ absurd (no_some missing is)
        ]

    first_tables : (number : ℕ) (node : NodeState) (known : SlotEntry) → slice_get (first_nodes config) number ≡ Some node → entry_at node.table slot ≡ Some known → IsAtMost (first_of config slot) known
    first_tables number node known is has =
        elim (first_node config number) [
          | inl there ↦
              let its : entry ≡ Some known = ap (λ (n : NodeState). entry_at n.table slot) (same_some there.1 is) ∙ has in
              let same : first_of config slot ≡ known = ap (λ o. unwrap_or o nobody) its in
              subst (IsAtMost (first_of config slot)) same (record { epoch = omega arith; owner = λ epochs. refl })
          | inr missing ↦ absurd (no_some missing is)
        ]

    pub first_slot_stands : SlotStands (first_of config slot) nobody_out [] (first_nodes config) fin_map.empty slot
    first_slot_stands = record {
      top = first_of config slot;
      holds = starts-holds (record { each = each_first; owner = owner_has; nothing = nothing_in slot });
      history = record {
        sent = λ message sent among. absurd (contains_nothing message among);
        told = λ redirection among. absurd (contains_nothing redirection among);
      };
      holder = owner_seen;
      tables = first_tables;
    }

  by_first_role : (number : ℕ) (b : Bool) → is_replica (first_state config number) ≡ b → MasterStands false number (first_state config number) ⊎ ReplicaStands number (first_state config number)
  by_first_role number false master = inl (record { number_is = refl; slots = first_slots (first_owners config); is_master = master; rests = λ replica paused. absurd (no_some refl paused) })
  by_first_role number true replica = inr (record {
    number_is = refl;
    slots = first_slots (first_owners config);
    is_one = replica;
    foreign = not_first_owner config number replica;
    idle = λ slot. fin_map.get-empty nat_cmp slot;
  })

  -- nobody takes part in a handover
  first_peers : (number : ℕ) → PeerStands newest_of (peers (first_nodes config)) number
  first_peers number =
      let none : (o : Option NodeState) → slice_get (first_nodes config) number ≡ o → (peer_at o).paused ≡ None → (peer_at o).note ≡ None → (peer_at o).planned ≡ None → (peer_at o).replaced ≡ None
      → PeerStands newest_of (peers (first_nodes config)) number =
      λ o is paused told planned replaced. apart_stands (peers (first_nodes config)) number (ap (λ (x : Option NodeState). (peer_at x).paused) is ∙ paused) (ap (λ (x : Option NodeState). (peer_at x).note) is ∙ told)
      (ap (λ (x : Option NodeState). (peer_at x).planned) is ∙ planned) (ap (λ (x : Option NodeState). (peer_at x).replaced) is ∙ replaced) in
      elim (first_node config number) [
        | inl there ↦ none (Some (first_state config number)) there.1 refl refl refl refl
        | inr missing ↦ none None missing refl refl refl refl
      ]

  first_knows : (number : ℕ) → KnowsEpochs number (first_state config number)
  first_knows number = record {
    own = λ slot epoch is. let one : epoch ≡ 1 = first_epoch (first_owners config) slot (record { epoch = epoch; owner = number }) is in omega (arith, one);
    planned = λ epoch is. absurd (no_some refl is);
  }

  pub first_world_stands : WorldStands config [] (first_nodes config) fin_map.empty
  first_world_stands = record {
    out = nobody_out;
    is_out = λ number is. absurd (both_ways false refl is);
    each = λ number node is.
        elim (first_node config number) [
          | inl there ↦
              subst (λ (n : NodeState). MasterStands false number n ⊎ ReplicaStands number n) (same_some refl (sym there.1 ∙ is)) (by_first_role number (is_replica (first_state config number)) refl)
          | inr missing ↦ absurd (no_some missing is)
        ];
    slots = first_slot_stands;
    handovers = first_peers;
    said = λ message among. absurd (contains_nothing message among);
    knows = λ number node is.
        elim (first_node config number) [
          | inl there ↦ subst (KnowsEpochs number) (same_some there.1 is) (first_knows number)
          | inr missing ↦ absurd (no_some missing is)
        ];
  }

-- Who owns slots as the nodes begin.
use Rattle.std.proofs.Common.{◌≡◌, ◌≢◌, ◌<◌, ◌≤◌, ◌+◌, ◌++◌, ℕ, suc, List, [], ◌∷◌, map, true, Option, Some, None, length, refl, sym, ap, ◌∙◌, inl, inr, arith}
use Rattle.std.proofs.lemmas.Bool.{both_ways, cases_Bool, cases_lt, cond-true, cond-false}
use Rattle.std.proofs.lemmas.List.{get_or_past}
use Rattle.std.proofs.lemmas.List.FromFn.{get_or-map-range_with_len, length-map-range_with_len}
use Rattle.std.specs.Prelude.{is_some, slice_index_or}
use Rattle.cluster_config.specs.Config.{ClusterConfig, first_owners, owners_from, run_of, runs_of}
use Rattle.cluster_config.specs.declared.config.NodeConfig.{NodeConfig}
use Rattle.cluster_config.specs.declared.config.Role.{Role}
use Rattle.cluster_config.specs.declared.config.Role.TheVariants.{Master, Replica}
use Rattle.key_slot.specs.SlotRange.{is_in}
use Rattle.key_slot.specs.declared.slots.SlotRange.{SlotRange}
use Rattle.slot_table.specs.Table.{entry_at, first_entry, first_table, owner_at, owner_in}
use Rattle.slot_table.specs.declared.entry.SlotEntry.{SlotEntry}
use Rattle.slot_table.specs.declared.runs.Run.{Run}
use Rattle.node_step.specs.State.{first_masters, first_state, is_replica, master_in}
use Rattle.world_run.proofs.Nodes.{no_some, same_some}

pub first_slots : (owners : List (Run ℕ)) → length (first_table owners) ≡ 16384
unfolding first_table
first_slots owners = length-map-range_with_len (first_entry owners) 0 16384

-- what the first table has, where it has anything
first_is : (owners : List (Run ℕ)) (slot : ℕ) → entry_at (first_table owners) slot ≢ None → entry_at (first_table owners) slot ≡ first_entry owners slot
unfolding first_table
first_is owners slot some =
    elim (cases_lt slot 16384) [
      | inl below ↦ get_or-map-range_with_len (first_entry owners) 0 16384 slot slot None below (omega arith)
      | inr past ↦
          let far : length (first_table owners) ≤ slot = omega (arith, length-map-range_with_len (first_entry owners) 0 16384, past) in
          absurd (some (get_or_past (first_table owners) slot None far))
    ]

-- the number is that of a master among nodes, of which the first has the other number
abbrev IsMasterFrom : List NodeConfig → ℕ → ℕ → Type 0
IsMasterFrom nodes base number = (i : ℕ) × (number ≡ base + i) × (slice_index_or (first_masters nodes) i None ≡ None)

module _ (node : NodeConfig) (nodes : List NodeConfig) (base slot number : ℕ) (later : owner_in (first_entry (owners_from (base + 1) nodes) slot) ≡ Some number → IsMasterFrom nodes (base + 1) number) where
  behind : owner_in (first_entry (owners_from (base + 1) nodes) slot) ≡ Some number → IsMasterFrom (node ∷ nodes) base number
  behind is = let rest = later is in let at : number ≡ base + suc rest.0 = omega (arith, rest.1) in (suc rest.0, at, rest.2)

  by_ranges : (all : List SlotRange) → node.role ≡ Master all → (ranges : List SlotRange) → owner_in (first_entry (map (run_of base) ranges ++ owners_from (base + 1) nodes) slot) ≡ Some number
      → IsMasterFrom (node ∷ nodes) base number
  by_ranges all role [] is = behind is
  by_ranges all role (range ∷ ranges) is =
      let own : Option SlotEntry = Some (record { epoch = 1; owner = base }) in
      let rest : Option SlotEntry = first_entry (map (run_of base) ranges ++ owners_from (base + 1) nodes) slot in
      elim (cases_Bool (is_in range slot)) [
        | inl here ↦
            let same : base ≡ number = same_some refl (sym (ap owner_in (cond-true (is_in range slot) own rest here)) ∙ is) in
            let at : number ≡ base + 0 = omega (arith, same) in
            (0, at, ap master_in role)
        | inr apart ↦ by_ranges all role ranges (sym (ap owner_in (cond-false (is_in range slot) own rest apart)) ∙ is)
      ]

  by_node_role : (role : Role) → node.role ≡ role → owner_in (first_entry (runs_of base role ++ owners_from (base + 1) nodes) slot) ≡ Some number → IsMasterFrom (node ∷ nodes) base number
  by_node_role (Replica of) role is = behind is
  by_node_role (Master ranges) role is = by_ranges ranges role ranges is

-- the first owner of a slot is a master
owned_by_master : (nodes : List NodeConfig) (base slot number : ℕ) → owner_in (first_entry (owners_from base nodes) slot) ≡ Some number → IsMasterFrom nodes base number
owned_by_master [] base slot number is = absurd (no_some refl is)
owned_by_master (node ∷ nodes) base slot number is = by_node_role node nodes base slot number (owned_by_master nodes (base + 1) slot number) node.role refl is

-- a replica has no slot
pub not_first_owner : (config : ClusterConfig) (number : ℕ) → is_replica (first_state config number) ≡ true → (slot : ℕ) → owner_at (first_table (first_owners config)) slot ≢ Some number
not_first_owner config number replica slot named =
    let found = owned_by_master config.nodes 0 slot number (sym (ap owner_in (first_is (first_owners config) slot (λ past. no_some (ap owner_in past) named))) ∙ named) in
    let at : found.0 ≡ number = omega (arith, found.1) in
    both_ways (is_replica (first_state config number)) (ap is_some (ap (λ (j : ℕ). slice_index_or (first_masters config.nodes) j None) (sym at) ∙ found.2)) replica

-- A replica takes the place of its master, which handed its slots over: each slot stays what it is, with its keys, at another node.
use Rattle.std.proofs.Common.{◌≡◌, ◌≢◌, ◌<◌, ◌≤◌, ◌==◌, ◌&&◌, ◌||◌, ◌⊎◌, ℕ, List, Bool, true, false, cond, Option, Some, None, refl, sym, ap, subst, ◌∙◌, inl, inr, arith}
use Rattle.std.proofs.lemmas.Bool.{both_ways, cases_eq, cond-true, eq-eqb, lt-ltb, ne_eqb}
use Rattle.std.specs.Prelude.{nat_lt, slice_get, slice_set}
use Rattle.keyspace.specs.Keyspace.{Keyspace}
use Rattle.keyspace.specs.declared.value.Value.{Value}
use Rattle.slot_state.specs.Moves.{move_of}
use Rattle.slot_table.specs.Claims.{claimed, greater, in_epoch, is_above, merged}
use Rattle.slot_table.specs.Runs.{runs_of}
use Rattle.slot_table.specs.Table.{claim_at, entry_at, owner_at, owner_in}
use Rattle.slot_table.specs.declared.entry.SlotEntry.{SlotEntry}
use Rattle.slot_table.specs.declared.runs.Run.{Run}
use Rattle.one_slot.specs.Events.{Changes, ChangesBoth, HandsOver, Keeps, Settles}
use Rattle.one_slot.specs.Slot.{Holds, IsAtMost, IsMoving}
use Rattle.one_slot.specs.View.{View, Views}
use Rattle.one_slot.proofs.Handovers.{handed_over-keeps, settled-keeps}
use Rattle.one_slot.proofs.ViewLemmas.{idle_comes, named_entry, named_or_not, none_or_some}
use Rattle.node_step.proofs.Merging.{merged_at, merged_cases}
use Rattle.node_step.specs.State.{NodeState}
use Rattle.single_keyspace.proofs.Claimed.{below, claimed_before, claimed_in_epoch, claimed_is_own, own_is_had, own_is_least}
use Rattle.single_keyspace.proofs.Seen.{hidden_here, no_some, out_so, same_some, seen_changes, seen_here, set_apart}
use Rattle.single_keyspace.specs.Handing.{newest_in}
use Rattle.single_keyspace.specs.Slots.{nowhere, is_hidden, out_too, seen_out, values_in, view_at, view_of, views}
use Rattle.single_keyspace.specs.Stands.{IsSeen, NodeStands, ReplicaStands}

-- the newest entry of the slot after it, and that all holds and all that was said is true
pub record SlotIsHanded (old : Views Value) (top : SlotEntry) (new : Views Value) (one : List ℕ → Option Value) (replica epoch : ℕ) : Type 0 where
  pub newest : SlotEntry
  pub keeps : Keeps top newest old new one
  pub is : (newest ≡ top) ⊎ (newest ≡ record { epoch = epoch; owner = replica })

after_both : {X : Type 0} {first second third : SlotEntry} {old mid new : Views X} {one : List ℕ → Option X} → Keeps first second old mid one → Keeps second third mid new one → Keeps first third old new one
after_both one_step next = record { holds = next.holds; sent = λ s is. next.sent s (one_step.sent s is) }

-- above all that is known
above_known : (claim : SlotEntry) (known : Option SlotEntry) → ((entry : SlotEntry) → known ≡ Some entry → entry.epoch < claim.epoch) → is_above claim known ≡ true
above_known claim None above = refl
above_known claim (Some entry) above = ap (λ (b : Bool). b || (entry.epoch == claim.epoch && nat_lt entry.owner claim.owner)) (lt-ltb entry.epoch claim.epoch (above entry refl))

-- a replica n, which is hidden; its master m, which is seen and where no slot moves; and what the replica is then
module _ (first : SlotEntry) (slot : ℕ) (out : ℕ → Bool) (nodes : List NodeState) {top : SlotEntry} {one : List ℕ → Option Value} (holds : Holds top (views first out nodes slot) one)
    (sight : (node : NodeState) → slice_get nodes top.owner ≡ Some node → IsSeen (out top.owner) node)
    (n : ℕ) (before : NodeState) (there : slice_get nodes n ≡ Some before) (replica : ReplicaStands n before) (n_in : out n ≡ false)
    (known : (entry : SlotEntry) → entry_at before.table slot ≡ Some entry → IsAtMost top entry)
    (m : ℕ) (master : NodeState) (its : slice_get nodes m ≡ Some master) (stands : NodeStands m master) (m_in : out m ≡ false) (idle : move_of master.moves slot ≡ None) (apart : m ≢ n)
    (epoch : ℕ) (above : newest_in (runs_of (claim_at master.table m)) < epoch)
    (after : NodeState) (seen : is_hidden after ≡ false) (table : after.table ≡ merged before.table (in_epoch epoch (runs_of (claim_at master.table m))) n) (moves : after.moves ≡ before.moves)
    (keyspace : after.keyspace ≡ master.keyspace) where
  abbrev handed : List (Run ℕ)
  handed = runs_of (claim_at master.table m)

  abbrev next : List NodeState
  next = slice_set nodes n after

  -- ---- the views

  old_n : views first out nodes slot n ≡ nowhere first
  old_n = hidden_here first slot out nodes n before there replica.is_one

  old_m : views first out nodes slot m ≡ view_of master slot
  old_m = seen_here first slot out nodes m master its m_in stands.is_master

  comes : Changes (views first out nodes slot) (views first out next slot) n (view_of after slot)
  comes = seen_changes first slot out nodes n before there after n_in seen

  is_out : out_too out m m ≡ true
  is_out = cond-true (m == m) true (out m) (eq-eqb m m refl)

  out_else : (j : ℕ) → j ≢ m → out_too out m j ≡ out j
  out_else j other = ap (λ (b : Bool). cond b true (out j)) (ne_eqb j m other)

  still_there : slice_get next m ≡ Some master
  still_there = set_apart nodes n after m apart ∙ its

  new_m : views first (out_too out m) next slot m ≡ seen_out (view_of master slot)
  new_m = ap (view_at first slot (out_too out m m)) still_there ∙ out_so first slot (out_too out m m) master is_out stands.is_master

  leaves : Changes (views first out next slot) (views first (out_too out m) next slot) m (seen_out (view_of master slot))
  leaves = record {
    here = new_m;
    there = λ j other. ap (λ (b : Bool). view_at first slot b (slice_get next j)) (out_else j other);
  }

  new_n : views first (out_too out m) next slot n ≡ view_of after slot
  new_n = leaves.there n (λ same. apart (sym same)) ∙ comes.here

  both : ChangesBoth (views first out nodes slot) (views first (out_too out m) next slot) m (seen_out (view_of master slot)) n (view_of after slot)
  both = record { one = new_m; other = new_n; rest = λ j far away. leaves.there j far ∙ comes.there j away }

  -- ---- who holds the slot

  -- the replica doesn't
  not_holder : n ≢ top.owner
  not_holder same =
      let there_so : slice_get nodes top.owner ≡ Some before = ap (slice_get nodes) (sym same) ∙ there in
      both_ways (is_hidden before) (sight before there_so).is_master replica.is_one

  -- the master does, if it has the slot in its table
  holds_own : owner_at master.table slot ≡ Some m → m ≡ top.owner
  holds_own named =
      elim (cases_eq m top.owner) [
        | inl same ↦ same
        | inr far ↦ absurd ((holds.others m far).owned (ap (λ (v : View Value). owner_in v.entry) old_m ∙ named) (ap (λ (v : View Value). v.move) old_m ∙ idle))
      ]

  -- and no other one of its table
  holds_not : owner_at master.table slot ≢ Some m → m ≢ top.owner
  holds_not other same =
      other (ap (λ (v : View Value). owner_in v.entry) (sym old_m) ∙ ap owner_in (subst (λ (i : ℕ). (views first out nodes slot i).entry ≡ Some top) (sym same) holds.holder.entry) ∙ ap Some (sym same))

  -- ---- the slot is handed over

  last_from : (v : View Value) → 0 ≤ v.last
  last_from v = omega arith

  module _ (entry : SlotEntry) (is : entry_at master.table slot ≡ Some entry) (own : entry.owner ≡ m) where
    named : owner_at master.table slot ≡ Some m
    named = ap owner_in is ∙ ap Some own

    its_entry : entry_at master.table slot ≡ Some (record { epoch = entry.epoch; owner = m })
    its_entry = is ∙ ap (λ (o : ℕ). Some (record { epoch = entry.epoch; owner = o })) own

    is_top : top ≡ entry
    is_top = same_some (subst (λ (i : ℕ). (views first out nodes slot i).entry ≡ Some top) (sym (holds_own named)) holds.holder.entry) (ap (λ (v : View Value). v.entry) old_m ∙ is)

    newer : top.epoch < epoch
    newer =
        let least : entry.epoch ≤ newest_in handed = own_is_least master m stands.slots slot entry.epoch its_entry in
        let same : top.epoch ≡ entry.epoch = ap (λ (e : SlotEntry). e.epoch) is_top in
        omega (arith, least, same, above)

    slot_below : slot < 16384
    slot_below = below master m stands.slots slot entry is

    now_owned : entry_at after.table slot ≡ Some (record { epoch = epoch; owner = n })
    now_owned =
        let claims : claimed (in_epoch epoch handed) n slot ≡ Some (record { epoch = epoch; owner = n }) = claimed_in_epoch handed n slot epoch (own_is_had master m stands.slots slot entry.epoch its_entry) in
        let taken : is_above (record { epoch = epoch; owner = n }) (entry_at before.table slot) ≡ true =
        above_known (record { epoch = epoch; owner = n }) (entry_at before.table slot) (λ e has. let most = (known e has).epoch in omega (arith, most, newer)) in
        ap (λ (t : List (Option SlotEntry)). entry_at t slot) table
        ∙ merged_at before.table (in_epoch epoch handed) n slot slot_below
        ∙ ap (greater (entry_at before.table slot)) claims
        ∙ cond-true (is_above (record { epoch = epoch; owner = n }) (entry_at before.table slot)) (Some (record { epoch = epoch; owner = n })) (entry_at before.table slot) taken

    hands : HandsOver (views first out nodes slot m) (views first out nodes slot n) (seen_out (view_of master slot)) n (view_of after slot) epoch
    hands =
        subst (λ (v : View Value). HandsOver v (views first out nodes slot n) (seen_out (view_of master slot)) n (view_of after slot) epoch) (sym old_m)
        (subst (λ (w : View Value). HandsOver (view_of master slot) w (seen_out (view_of master slot)) n (view_of after slot) epoch) (sym old_n)
        (record {
          idle = idle;
          nothing = λ key. refl;
          hidden = refl;
          gone = refl;
          last_from = refl;
          empty = λ key. refl;
          entry = now_owned;
          rests = ap (λ ms. move_of ms slot) moves ∙ replica.idle slot;
          last_to = last_from (view_of after slot);
          same = λ key. ap (λ (k : Keyspace). values_in k slot key) keyspace;
        }))

    pub is_handed_over : Keeps top (record { epoch = epoch; owner = n }) (views first out nodes slot) (views first (out_too out m) next slot) one
    is_handed_over =
        let holder : m ≡ top.owner = holds_own named in
        handed_over-keeps holds n epoch (seen_out (view_of master slot)) (view_of after slot)
        (subst (λ (i : ℕ). HandsOver (views first out nodes slot i) (views first out nodes slot n) (seen_out (view_of master slot)) n (view_of after slot) epoch) holder hands)
        not_holder newer
        (subst (λ (i : ℕ). ChangesBoth (views first out nodes slot) (views first (out_too out m) next slot) i (seen_out (view_of master slot)) n (view_of after slot)) holder both)

  -- ---- the slot is another node's

  module _ (other : owner_at master.table slot ≢ Some m) where
    -- it stays so in the replica's table
    still_so : entry_at after.table slot ≡ entry_at before.table slot
    still_so =
        ap (λ (t : List (Option SlotEntry)). entry_at t slot) table
        ∙ elim (merged_cases before.table (in_epoch epoch handed) n slot replica.slots) [
          | inl stays ↦ stays
          | inr taken ↦
              let was = claimed_before handed n m slot epoch taken.0 taken.1 in
              absurd (other (ap owner_in (claimed_is_own master m stands.slots slot was.0 was.1)))
        ]

    -- the master has no key of it
    no_key : (key : List ℕ) → values_in master.keyspace slot key ≡ None
    no_key key =
        elim (none_or_some (values_in master.keyspace slot key)) [
          | inl none ↦ none
          | inr some ↦
              let moving : IsMoving (views first out nodes slot top.owner) m (views first out nodes slot m) =
              (holds.others m (holds_not other)).moving key some.0 (ap (λ (v : View Value). v.value key) old_m ∙ some.1) in
              absurd (idle_comes (ap (λ (v : View Value). v.move) old_m ∙ idle) moving.comes)
        ]

    settles_n : Settles top n (views first out nodes slot n) (view_of after slot)
    settles_n =
        subst (λ (w : View Value). Settles top n w (view_of after slot)) (sym old_n)
        (record {
          idle = refl;
          nothing = λ key. refl;
          rests = ap (λ ms. move_of ms slot) moves ∙ replica.idle slot;
          last = last_from (view_of after slot);
          newest = λ entry named. known entry (sym still_so ∙ named);
          foreign = λ named. replica.foreign slot (ap owner_in (sym still_so) ∙ named);
          empty = λ key. ap (λ (k : Keyspace). values_in k slot key) keyspace ∙ no_key key;
        })

    first_step : Keeps top top (views first out nodes slot) (views first out next slot) one
    first_step = settled-keeps holds n (view_of after slot) not_holder settles_n comes

    mid_m : views first out next slot m ≡ view_of master slot
    mid_m = comes.there m apart ∙ old_m

    settles_m : Settles top m (views first out next slot m) (seen_out (view_of master slot))
    settles_m =
        subst (λ (w : View Value). Settles top m w (seen_out (view_of master slot))) (sym mid_m)
        (record {
          idle = idle;
          nothing = no_key;
          rests = refl;
          last = omega arith;
          newest = λ entry named. absurd (no_some refl named);
          foreign = λ named. absurd (no_some refl named);
          empty = λ key. refl;
        })

    pub is_elsewhere : Keeps top top (views first out nodes slot) (views first (out_too out m) next slot) one
    is_elsewhere = after_both first_step (settled-keeps first_step.holds m (seen_out (view_of master slot)) (holds_not other) settles_m leaves)

  -- ---- either

  pub slot_is_handed : SlotIsHanded (views first out nodes slot) top (views first (out_too out m) next slot) one n epoch
  slot_is_handed =
      elim (named_or_not (owner_at master.table slot) m) [
        | inl named ↦
            let its_own = named_entry (entry_at master.table slot) m named in
            record { newest = record { epoch = epoch; owner = n }; keeps = is_handed_over its_own.0 its_own.1 its_own.2; is = inr refl }
        | inr other ↦ record { newest = top; keeps = is_elsewhere other; is = inl refl }
      ]

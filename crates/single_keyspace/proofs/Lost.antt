-- What holds of a slot as claims are taken.
use Rattle.std.proofs.Common.{◌≡◌, ◌≢◌, ◌&&◌, ℕ, List, Bool, true, false, cond, not, Option, Some, None, length, refl, sym, ap, subst, ◌∙◌, inl, inr}
use Rattle.std.proofs.lemmas.Bool.{cases_Bool, eq-eqb, ne_eqb, eqb-true}
use Rattle.std.proofs.lemmas.Map.Lookups.{exact_bytes}
use Rattle.std.specs.FinMap as map
use Rattle.key_slot.specs.Slot.{hash_slot}
use Rattle.keyspace.specs.Keyspace.{Keyspace}
use Rattle.slot_store.specs.InSlot.{is_in_slot}
use Rattle.slot_table.specs.Claims.{claimed, merged}
use Rattle.slot_table.specs.Table.{owner_at, owner_in}
use Rattle.slot_table.specs.declared.entry.SlotEntry.{SlotEntry}
use Rattle.slot_table.specs.declared.runs.Run.{Run}
use Rattle.slot_state.specs.Moves.{move_of}
use Rattle.migrate.specs.Losing.{is_leaving}
use Rattle.one_slot.specs.Sent.{IsSent}
use Rattle.one_slot.specs.Sent.Sent.{Claimed}
use Rattle.node_step.specs.Claiming.{is_lost, is_owner, with_table}
use Rattle.node_step.specs.State.{NodeState}
use Rattle.world_run.specs.Run.{Entry}
use Rattle.single_keyspace.specs.Slots.{values_in, view_of}
use Rattle.single_keyspace.proofs.Laws.{events_at}
use Rattle.single_keyspace.proofs.Maps.{retained_here}
use Rattle.single_keyspace.proofs.Seen.{same_some, same_view, same_values, SlotWas, HoldsAfter, holds_untouched}
use Rattle.single_keyspace.proofs.Values.{values_alike}
pub use Rattle.node_step.proofs.Merging.{length_merged, merged_cases, claimed_owner}

-- ---- what is lost

owned_by : (owner : Option ℕ) (number n : ℕ) → number ≡ n → owner ≡ Some n → is_owner owner number ≡ true
owned_by owner number n at named = ap (λ o. is_owner o number) named ∙ eq-eqb n number (sym at)

not_owned_by : (owner : Option ℕ) (number n : ℕ) → number ≡ n → owner ≢ Some n → is_owner owner number ≡ false
not_owned_by None number n at other = refl
not_owned_by (Some owner) number n at other = ne_eqb owner number (λ same. other (ap Some (same ∙ at)))

both_cancel : (b : Bool) → (b && not b) ≡ false
both_cancel true = refl
both_cancel false = refl

module _ (node : NodeState) (table : List (Option SlotEntry)) (slot : ℕ) where
  pub move_left : map.get (with_table node table).moves.running slot ≡ cond (not (is_lost node table slot && is_leaving (move_of node.moves slot))) (move_of node.moves slot) None
  move_left = retained_here node.moves.running slot (λ s. not (is_lost node table s && is_leaving (move_of node.moves s)))

  value_left : (key : List ℕ) → map.get (with_table node table).keyspace key ≡ cond (not (is_lost node table (hash_slot key))) (map.get node.keyspace key) None
  value_left key =
      map.get-retain_keys node.keyspace (λ k. not (is_lost node table (hash_slot k))) key
      (λ x same. ap (λ (k : List ℕ). not (is_lost node table (hash_slot k))) (sym (exact_bytes key x same)))

  lost_here : (key : List ℕ) (b : Bool) → is_lost node table slot ≡ b → is_in_slot slot key ≡ true → is_lost node table (hash_slot key) ≡ b
  lost_here key b lost here = ap (is_lost node table) (eqb-true (hash_slot key) slot here) ∙ lost

  move_same : is_lost node table slot ≡ false → map.get (with_table node table).moves.running slot ≡ move_of node.moves slot
  move_same not_lost = move_left ∙ ap (λ b. cond (not (b && is_leaving (move_of node.moves slot))) (move_of node.moves slot) None) not_lost

  values_same : is_lost node table slot ≡ false → (key : List ℕ) → values_in (with_table node table).keyspace slot key ≡ values_in node.keyspace slot key
  values_same not_lost key =
      values_alike (with_table node table).keyspace node.keyspace slot key
      (λ here. value_left key ∙ ap (λ b. cond (not b) (map.get node.keyspace key) None) (lost_here key false not_lost here))

  move_gone : is_lost node table slot ≡ true → is_leaving (move_of node.moves slot) ≡ true → map.get (with_table node table).moves.running slot ≡ None
  move_gone lost leaving =
      move_left ∙ ap (λ b. cond (not (b && is_leaving (move_of node.moves slot))) (move_of node.moves slot) None) lost
      ∙ ap (λ b. cond (not b) (move_of node.moves slot) None) leaving

  value_gone : is_lost node table slot ≡ true → (key : List ℕ) → values_in (with_table node table).keyspace slot key ≡ None
  value_gone lost key =
      elim (cases_Bool (is_in_slot slot key)) [
        | inl here ↦
            ap (λ b. cond b (map.get (with_table node table).keyspace key) None) here ∙ value_left key
            ∙ ap (λ b. cond (not b) (map.get node.keyspace key) None) (lost_here key true lost here)
        | inr apart ↦ ap (λ b. cond b (map.get (with_table node table).keyspace key) None) apart
      ]

module _ {past : List Entry} {n : ℕ} {before : NodeState} {one : Keyspace} {slot : ℕ} (was : SlotWas past n before one slot) where
  -- claims of another node are taken
  pub claims_hold : (runs : List (Run ℕ)) (from : ℕ) → from ≢ n → before.number ≡ n → length before.table ≡ 16384
      → ((epoch : ℕ) → claimed runs from slot ≡ Some (record { epoch = epoch; owner = from }) → IsSent was.top was.seen (Claimed from epoch))
      → HoldsAfter was (with_table before (merged before.table runs from)) one
  claims_hold runs from other at whole sent =
      let table : List (Option SlotEntry) = merged before.table runs from in
      elim (merged_cases before.table runs from slot whole) [
        | inl stays ↦
            let not_lost : is_lost before table slot ≡ false =
            ap (λ e. is_owner (owner_at before.table slot) before.number && not (is_owner (owner_in e) before.number)) stays ∙ both_cancel (is_owner (owner_at before.table slot) before.number) in
            holds_untouched was (with_table before table) one
            (same_view stays (move_same before table slot not_lost) refl (same_values (values_same before table slot not_lost)))
            (λ key. refl)
        | inr taken ↦ λ new changes.
            let claim : SlotEntry = taken.0 in
            let owner : claim.owner ≡ from = claimed_owner runs from slot claim taken.1 in
            let not_mine : claim.owner ≢ n = λ same. other (sym owner ∙ same) in
            let not_now : is_owner (owner_at table slot) before.number ≡ false =
            ap (λ e. is_owner (owner_in e) before.number) taken.3 ∙ not_owned_by (Some claim.owner) before.number n at (λ same. not_mine (same_some refl same)) in
            let lost : owner_at before.table slot ≡ Some n → is_lost before table slot ≡ true =
            λ named. ap (λ b. b && not (is_owner (owner_at table slot) before.number)) (owned_by (owner_at before.table slot) before.number n at named) ∙ ap not not_now in
            let not_lost : owner_at before.table slot ≢ Some n → is_lost before table slot ≡ false =
            λ unnamed. ap (λ b. b && not (is_owner (owner_at table slot) before.number)) (not_owned_by (owner_at before.table slot) before.number n at unnamed) in
            let said : IsSent was.top was.seen (Claimed claim.owner claim.epoch) =
            subst (λ (o : ℕ). IsSent was.top was.seen (Claimed o claim.epoch)) (sym owner)
            (sent claim.epoch (taken.1 ∙ ap (λ (o : ℕ). Some (record { epoch = claim.epoch; owner = o })) owner)) in
            record {
              newest = was.top;
              holds = (events_at was.top was.seen new (values_in one slot) n (view_of before slot) was.holds was.here).claim_taken claim (view_of (with_table before table) slot)
                  (record {
                    other = not_mine;
                    above = taken.2;
                    entry = taken.3;
                    last = refl;
                    lost = λ named to number leaving. move_gone before table slot (lost named) (ap is_leaving leaving.is);
                    deleted = λ named. value_gone before table slot (lost named);
                    move = λ unnamed. move_same before table slot (not_lost unnamed);
                    value = λ unnamed. same_values (values_same before table slot (not_lost unnamed));
                  })
                  said changes;
            }
      ]

-- What a table remembers stays right as claims are taken over.
use Rattle.std.proofs.Common.{◌≡◌, ◌∙◌, ◌<◌, sym, ap, ap₂, refl, subst, inl, inr, Bool, true, false, ◌&&◌, cond, not, ℕ, List, [], ◌∷◌, length, get_or, Option, Some, None, IfSome, set, filter, if◌then◌else◌}
use Rattle.std.specs.List.{range_with_len}
use Rattle.std.proofs.lemmas.Bool.{cases_eq, eq-eqb}
use Rattle.std.proofs.lemmas.List.{get_or-set_other, get_or-set_same}
use Rattle.std.proofs.lemmas.Option.{none-some}
use Rattle.slot_table.specs.declared.entry.SlotEntry.{SlotEntry}
use Rattle.slot_table.specs.declared.runs.Run.{Run}
use Rattle.slot_table.specs.Table.{entry_at}
use Rattle.slot_table.specs.Claims.{changed, is_same, merged}
use Rattle.slot_table.specs.Remembered.{AreKnown, IsKept}
use Rattle.slot_table.proofs.JoinLemmas.{in_any_order, merging_again}

same_entry : (entry : Option SlotEntry) → is_same entry entry ≡ true
same_entry None = refl
same_entry (Some entry) = ap₂ (λ (a b : Bool). a && b) (eq-eqb entry.epoch entry.epoch refl) (eq-eqb entry.owner entry.owner refl)

none_left : (test : ℕ → Bool) (slots : List ℕ) → ((slot : ℕ) → test slot ≡ false) → filter test slots ≡ []
none_left test [] none = refl
none_left test (slot ∷ slots) none = ap (λ (is : Bool). cond is (slot ∷ filter test slots) (filter test slots)) (none slot) ∙ none_left test slots none

-- no slot of a table changes if the table doesn't
pub none_changes : (old new : List (Option SlotEntry)) → new ≡ old → [] ≡ changed old new
unfolding changed
none_changes old new same =
    sym (none_left (λ slot. not (is_same (entry_at old slot) (entry_at new slot))) (range_with_len 0 16384) (λ slot.
    ap not (ap (λ (table : List (Option SlotEntry)). is_same (entry_at old slot) (entry_at table slot)) same ∙ same_entry (entry_at old slot))))

inside : Option (List (Run ℕ)) → List (Run ℕ)
inside None = []
inside (Some claim) = claim

-- the claim that was shared is the one that was taken over
shared_is : (shared : Option (List (Run ℕ))) (claim said : List (Run ℕ)) → IfSome shared (λ it. it ≡ claim) → shared ≡ Some said → said ≡ claim
unfolding inside
shared_is None claim said is none = absurd (none-some said none)
shared_is (Some it) claim said is some = sym (ap inside some) ∙ is

-- a claim that was taken over is known, and those that were known still are
pub still_known : (old new : List (Option SlotEntry)) (known : List (Option (List (Run ℕ)))) (claim : List (Run ℕ)) (owner : ℕ) (shared : Option (List (Run ℕ)))
    → owner < length known → IfSome shared (λ it. it ≡ claim) → new ≡ merged old claim owner → AreKnown old known → AreKnown new (set known owner shared)
still_known old new known claim owner shared within is became says = λ other said there.
    let again : (table : List (Option SlotEntry)) → merged old claim owner ≡ table → merged table said other ≡ table → merged new said other ≡ new = λ table same stays.
    ap (λ (t : List (Option SlotEntry)). merged t said other) (became ∙ same) ∙ stays ∙ sym (became ∙ same) in
    elim (cases_eq other owner) [
      | inl same ↦
          let one : said ≡ claim = shared_is shared claim said is (sym (ap (λ k. get_or (set known owner shared) k None) same ∙ get_or-set_same known owner shared None within) ∙ there) in
          again (merged old claim owner) refl (ap₂ (λ (c : List (Run ℕ)) (o : ℕ). merged (merged old claim owner) c o) one same ∙ merging_again old claim owner)
      | inr differ ↦
          let before : merged old said other ≡ old = says other said (sym (get_or-set_other known owner other shared None differ) ∙ there) in
          again (merged old claim owner) refl (in_any_order old claim said owner other ∙ ap (λ (t : List (Option SlotEntry)). merged t claim owner) before)
    ]

-- what is kept stays right, unless an entry changed
pub still_kept : (old new : List (Option SlotEntry)) (kept left : Option (ℕ × List (Run ℕ))) (changed : Bool) → (changed ≡ false → new ≡ old) → left ≡ (if changed then None else kept) → IsKept old kept → IsKept new left
still_kept old new kept left true stays is was = subst (IsKept new) (sym is) tt
still_kept old new kept left false stays is was = subst (IsKept new) (sym is) (subst (λ (table : List (Option SlotEntry)). IsKept table kept) (sym (stays refl)) was)

-- What follows from a decision.
use Rattle.std.proofs.Common.{◌≡◌, ◌≢◌, ◌↔◌, refl, sym, ◌∙◌, ap, subst, IsSome, IsTrue, inl, inr, ℕ, ◌+◌, ◌==◌, zero, suc, Bool, true, false, not, ◌&&◌, cond, List, [], ◌∷◌, Option, Some, None, All, get_or, arith, add-one, eq-eqb, ne_eqb}
use Rattle.std.specs.Borrow.{Bor}
use Rattle.std.specs.List.{Contains, list_any}
use Rattle.std.specs.Option.{option_copied}
use Rattle.std.specs.Prelude.{is_some}
use Rattle.std.proofs.lemmas.Bool.{cases_Bool, cases_eq, both_ways}
use Rattle.std.proofs.lemmas.List.Folds.{Any-from_list_any, list_any_at}
use Rattle.key_slot.specs.Slot.{hash_slot}
use Rattle.slot_table.specs.declared.entry.SlotEntry.{SlotEntry}
use Rattle.slot_table.specs.Table.{owner_at}
use Rattle.slot_state.specs.Moves.{Moves, move_of}
use Rattle.slot_state.specs.State.{state_of}
use Rattle.slot_state.specs.declared.running.Move.{Move}
use Rattle.slot_state.specs.declared.running.Move.TheVariants.{Leaves, Comes}
use Rattle.slot_state.specs.declared.state.SlotState.{SlotState}
use Rattle.slot_state.specs.declared.state.SlotState.TheVariants.{Owned, Foreign, Moving}
use Rattle.redirect.specs.Asked.{Asked, all_there, are_several, bytes_of, is_frozen, is_right, none_there}
use Rattle.redirect.specs.Decision.{at_owner, by_keys, coming, decision_at, has_other_slot, if_owned, in_slot, leaving, owned, state_at}
use Rattle.redirect.specs.Meaning.{AreInTwoSlots, IsOwned, IsSlotOf, is_kept}
use Rattle.redirect.specs.declared.decision.Decision.{Decision}
use Rattle.redirect.specs.declared.decision.Decision.TheVariants.{Serve, ServeImport, CrossSlot, TryAgain, Ask, Moved}
use Rattle.redirect.specs.declared.decision.Reason.TheVariants.{Frozen, HandingOver, SomeAreMissing}
use Rattle.redirect.proofs.AskedLemmas.{any_of_mapped}

other-differs : (slot : ℕ) (key : List ℕ) → not (hash_slot key == slot) ≡ true → slot ≢ hash_slot key
other-differs slot key passes same = both_ways (not (hash_slot key == slot)) (ap not (eq-eqb (hash_slot key) slot (sym same))) passes

same-slot : (slot : ℕ) (key : List ℕ) → not (hash_slot key == slot) ≡ false → hash_slot key ≡ slot
same-slot slot key fails =
    elim (cases_eq (hash_slot key) slot) [
      | inl same ↦ same
      | inr other ↦ absurd (both_ways (not (hash_slot key == slot)) fails (ap not (ne_eqb (hash_slot key) slot other)))
    ]

two_slots-from_other : (key : List ℕ) (keys : List (List ℕ)) → has_other_slot (hash_slot key) keys ≡ true → AreInTwoSlots (key ∷ keys)
two_slots-from_other key keys passes =
    let found = Any-from_list_any (λ k. not (hash_slot k == hash_slot key)) keys passes in
    record {
      one = key;
      other = found.1;
      has_one = (0, omega arith, refl);
      has_other = (found.0 + 1, omega (arith, found.2), rw add-one found.3);
      differ = other-differs (hash_slot key) found.1 found.4;
    }

-- where no key is in another slot, all are in this one
all_in_slot : (slot : ℕ) (keys : List (List ℕ)) → has_other_slot slot keys ≡ false → All (λ k. hash_slot k ≡ slot) keys
all_in_slot slot keys none k d lt =
    let other : Bool = not (hash_slot (get_or keys k d) == slot) in
    elim (cases_Bool other) [
      | inl passes ↦ absurd (both_ways (has_other_slot slot keys) none (list_any_at (λ x. not (hash_slot x == slot)) keys k d lt passes))
      | inr fails ↦ same-slot slot (get_or keys k d) fails
    ]

-- where no later key is in another slot, all keys are in that of the first
one_slot : (key : List ℕ) (keys : List (List ℕ)) → has_other_slot (hash_slot key) keys ≡ false → All (λ k. hash_slot k ≡ hash_slot key) (key ∷ keys)
one_slot key keys none zero d lt = refl
one_slot key keys none (suc k) d lt = all_in_slot (hash_slot key) keys none k d (omega arith)

slot-of_contained : (slot : ℕ) (keys : List (List ℕ)) (key : List ℕ) → All (λ k. hash_slot k ≡ slot) keys → Contains keys key → hash_slot key ≡ slot
slot-of_contained slot keys key all has = ap hash_slot (sym has.2) ∙ all has.0 key has.1

other-from_two_slots : (key : List ℕ) (keys : List (List ℕ)) → AreInTwoSlots (key ∷ keys) → has_other_slot (hash_slot key) keys ≡ true
other-from_two_slots key keys two =
    elim (cases_Bool (has_other_slot (hash_slot key) keys)) [
      | inl some ↦ some
      | inr none ↦
          let all = one_slot key keys none in
          absurd (two.differ
          (slot-of_contained (hash_slot key) (key ∷ keys) two.one all two.has_one
          ∙ sym (slot-of_contained (hash_slot key) (key ∷ keys) two.other all two.has_other)))
    ]

-- ---- the decision in one slot

either : {A : Type 0} (P : A → Type 0) (b : Bool) (x y : A) → P x → P y → P (cond b x y)
either P true x y p q = p
either P false x y p q = q

-- what holds of all decisions in a slot that leaves holds of the one
leaving-one : (P : Decision → Type 0) (elsewhere : Decision) (frozen : Option (List (List ℕ))) (asked : Asked) → P (TryAgain Frozen) → P Serve → P elsewhere → P (TryAgain SomeAreMissing)
    → P (leaving elsewhere frozen asked)
leaving-one P elsewhere frozen asked held all none some =
    either P (is_frozen frozen asked.keys) _ _ held (either P (all_there asked) _ _ all (either P (none_there asked) _ _ none some))

-- a slot of the node's own
owned-one : (P : Decision → Type 0) (asked : Asked) → P (TryAgain HandingOver) → P Serve → P (owned asked)
owned-one P asked paused serves = either P asked.paused _ _ paused serves

coming-one : (P : Decision → Type 0) (number : ℕ) (asked : Asked) → P (TryAgain SomeAreMissing) → P (ServeImport number) → P (coming number asked)
coming-one P number asked some serves = either P (are_several asked.keys && not (all_there asked)) _ _ some serves

one_slot-decision : (slot : ℕ) (owner : Option ℕ) (state : SlotState Move) (asked : Asked) → in_slot slot owner state asked ≢ CrossSlot
one_slot-decision slot None (Moving (Comes from number last drained)) asked =
    either (λ d. d ≢ CrossSlot) (is_right asked.asking number) _ _ (coming-one (λ d. d ≢ CrossSlot) number asked (λ same. cc) (λ same. cc)) (λ same. cc)
one_slot-decision slot (Some owner) (Moving (Comes from number last drained)) asked =
    either (λ d. d ≢ CrossSlot) (is_right asked.asking number) _ _ (coming-one (λ d. d ≢ CrossSlot) number asked (λ same. cc) (λ same. cc)) (λ same. cc)
one_slot-decision slot None (Moving (Leaves to number copies frozen)) asked = λ same. cc
one_slot-decision slot (Some owner) (Moving (Leaves to number copies frozen)) asked =
    leaving-one (λ d. d ≢ CrossSlot) (Ask slot to number) frozen asked (λ same. cc) (λ same. cc) (λ same. cc) (λ same. cc)
one_slot-decision slot None Owned asked = λ same. cc
one_slot-decision slot (Some owner) Owned asked = owned-one (λ d. d ≢ CrossSlot) asked (λ same. cc) (λ same. cc)
one_slot-decision slot None Foreign asked = λ same. cc
one_slot-decision slot (Some owner) Foreign asked = λ same. cc

-- what is served in a slot that doesn't come is kept here
abbrev ServesKept : Option ℕ → SlotState Move → Decision → Type 0
ServesKept owner state made = Serve ≡ made → IsSome owner × IsTrue (is_kept state)

serves-kept : (slot : ℕ) (owner : Option ℕ) (state : SlotState Move) (asked : Asked) → ServesKept owner state (in_slot slot owner state asked)
serves-kept slot None (Moving (Comes from number last drained)) asked =
    either (ServesKept None (Moving (Comes from number last drained))) (is_right asked.asking number) _ _
    (coming-one (ServesKept None (Moving (Comes from number last drained))) number asked (λ same. absurd (cc)) (λ same. absurd (cc))) (λ same. absurd (cc))
serves-kept slot (Some owner) (Moving (Comes from number last drained)) asked =
    either (ServesKept (Some owner) (Moving (Comes from number last drained))) (is_right asked.asking number) _ _
    (coming-one (ServesKept (Some owner) (Moving (Comes from number last drained))) number asked (λ same. absurd (cc)) (λ same. absurd (cc))) (λ same. absurd (cc))
serves-kept slot None (Moving (Leaves to number copies frozen)) asked = λ same. absurd (cc)
serves-kept slot (Some owner) (Moving (Leaves to number copies frozen)) asked = λ same. (refl, refl)
serves-kept slot None Owned asked = λ same. absurd (cc)
serves-kept slot (Some owner) Owned asked = λ same. (refl, refl)
serves-kept slot None Foreign asked = λ same. absurd (cc)
serves-kept slot (Some owner) Foreign asked = λ same. absurd (cc)

-- who is named for good is the owner
abbrev MovesToOwner : ℕ → Option ℕ → Decision → Type 0
MovesToOwner slot owner made = (named to : ℕ) → Moved named to ≡ made → (slot ≡ named) × (owner ≡ Some to)

moves-to_owner : (slot : ℕ) (owner : Option ℕ) (state : SlotState Move) (asked : Asked) → MovesToOwner slot owner (in_slot slot owner state asked)
moves-to_owner slot None (Moving (Comes from number last drained)) asked =
    either (MovesToOwner slot None) (is_right asked.asking number) _ _
    (coming-one (MovesToOwner slot None) number asked (λ named to same. absurd (cc)) (λ named to same. absurd (cc))) (λ named to same. absurd (cc))
moves-to_owner slot (Some owner) (Moving (Comes from number last drained)) asked =
    either (MovesToOwner slot (Some owner)) (is_right asked.asking number) _ _
    (coming-one (MovesToOwner slot (Some owner)) number asked (λ named to same. absurd (cc)) (λ named to same. absurd (cc))) (λ named to same. ((cc), (cc)))
moves-to_owner slot None (Moving (Leaves to number copies frozen)) asked = λ named other same. absurd (cc)
moves-to_owner slot (Some owner) (Moving (Leaves to number copies frozen)) asked =
    leaving-one (MovesToOwner slot (Some owner)) (Ask slot to number) frozen asked
    (λ named other same. absurd (cc)) (λ named other same. absurd (cc)) (λ named other same. absurd (cc)) (λ named other same. absurd (cc))
moves-to_owner slot None Owned asked = λ named to same. absurd (cc)
moves-to_owner slot (Some owner) Owned asked = owned-one (MovesToOwner slot (Some owner)) asked (λ named to same. absurd (cc)) (λ named to same. absurd (cc))
moves-to_owner slot None Foreign asked = λ named to same. absurd (cc)
moves-to_owner slot (Some owner) Foreign asked = λ named to same. ((cc), (cc))

-- a slot that comes, after the right ASKING
pub in_slot-asked : (slot : ℕ) (owner : Option ℕ) (move : Move) (from number last : ℕ) (drained : Option ℕ) (asked : Asked) → move ≡ Comes from number last drained
    → is_right asked.asking number ≡ true → in_slot slot owner (Moving move) asked ≡ coming number asked
in_slot-asked slot owner move from number last drained asked is right =
    ap (λ m. in_slot slot owner (Moving m) asked) is ∙ ap (λ b. cond b (coming number asked) (at_owner slot owner)) right

-- a slot that leaves, and has an owner
pub in_slot-leaving : (slot : ℕ) (has : Option ℕ) (owner : ℕ) (move : Move) (to number copies : ℕ) (frozen : Option (List (List ℕ))) (asked : Asked) → has ≡ Some owner
    → move ≡ Leaves to number copies frozen → in_slot slot has (Moving move) asked ≡ leaving (Ask slot to number) frozen asked
in_slot-leaving slot has owner move to number copies frozen asked owns is =
    ap (λ m. in_slot slot has (Moving m) asked) is ∙ ap (λ o. if_owned o (leaving (Ask slot to number) frozen asked)) owns

-- where no move is found there is none
pub not_moving : (found : Option (Bor Move)) (move : Option Move) → option_copied found ≡ move → is_some found ≡ false → move ≡ None
not_moving None move is none = sym is
not_moving (Some there) move is none = absurd (both_ways true none refl)

module _ (table : List (Option SlotEntry)) (moves : Moves) (node : ℕ) (asked : Asked) where
  -- by whether a later key is in another slot
  pub crossed : (key : List ℕ) (others : List (List ℕ)) → has_other_slot (hash_slot key) others ≡ true → by_keys table moves node (key ∷ others) asked ≡ CrossSlot
  crossed key others some = ap (λ b. cond b CrossSlot (decision_at table moves node (hash_slot key) asked)) some

  pub in_one : (key : List ℕ) (others : List (List ℕ)) → has_other_slot (hash_slot key) others ≡ false
      → by_keys table moves node (key ∷ others) asked ≡ decision_at table moves node (hash_slot key) asked
  in_one key others none = ap (λ b. cond b CrossSlot (decision_at table moves node (hash_slot key) asked)) none

  -- a command is refused for its slots exactly where two of its keys are in different ones
  pub decision-crossed : (keys : List (List ℕ)) (made : Decision) → made ≡ by_keys table moves node keys asked → (made ≡ CrossSlot) ↔ AreInTwoSlots keys
  decision-crossed [] made is = (λ same. absurd (cc), λ two. absurd (omega (arith, two.has_one.1)))
  decision-crossed (key ∷ others) made is =
      let slot : ℕ = hash_slot key in
      elim (cases_Bool (has_other_slot slot others)) [
        | inl some ↦ (λ same. two_slots-from_other key others some, λ two. is ∙ crossed key others some)
        | inr none ↦ (
          λ same. absurd (one_slot-decision slot (owner_at table slot) (state_at table moves node slot) asked (sym (is ∙ in_one key others none) ∙ same)),
          λ two. absurd (both_ways (has_other_slot slot others) none (other-from_two_slots key others two)),
        )
      ]

  decision-in_one_slot : (key : List ℕ) (others : List (List ℕ)) (made : Decision) → made ≡ by_keys table moves node (key ∷ others) asked → made ≢ CrossSlot
      → (made ≡ decision_at table moves node (hash_slot key) asked) × All (λ k. hash_slot k ≡ hash_slot key) (key ∷ others)
  decision-in_one_slot key others made is other =
      elim (cases_Bool (has_other_slot (hash_slot key) others)) [
        | inl some ↦ absurd (other (is ∙ crossed key others some))
        | inr none ↦ (is ∙ in_one key others none, one_slot key others none)
      ]

  -- what is served is owned here, all of it
  decision-served : (keys : List (List ℕ)) → Serve ≡ by_keys table moves node keys asked → All (IsOwned table moves node) keys
  decision-served [] is k d lt = absurd (omega arith)
  decision-served (key ∷ others) is k d lt =
      let slot : ℕ = hash_slot key in
      let parts = decision-in_one_slot key others Serve is (λ same. cc) in
      let owned = serves-kept slot (owner_at table slot) (state_at table moves node slot) asked parts.0 in
      let same : slot ≡ hash_slot (get_or (key ∷ others) k d) = sym (parts.1 k d lt) in
      record {
        assigned = subst (λ s. IsSome (owner_at table s)) same owned.0;
        kept = subst (λ s. IsTrue (is_kept (state_at table moves node s))) same owned.1;
      }

  -- who is named owns the slot of all keys
  decision-moved : (keys : List (List ℕ)) (slot to : ℕ) → Moved slot to ≡ by_keys table moves node keys asked → (owner_at table slot ≡ Some to) × All (λ key. hash_slot key ≡ slot) keys
  decision-moved [] slot to is = absurd (cc)
  decision-moved (key ∷ others) slot to is =
      let parts = decision-in_one_slot key others (Moved slot to) is (λ same. cc) in
      let named = moves-to_owner (hash_slot key) (owner_at table (hash_slot key)) (state_at table moves node (hash_slot key)) asked slot to parts.0 in
      (subst (λ s. owner_at table s ≡ Some to) named.0 named.1, λ k d lt. parts.1 k d lt ∙ named.0)

-- what is said of a decision
pub record Says (table : List (Option SlotEntry)) (moves : Moves) (node : ℕ) (keys : List (List ℕ)) (made : Decision) : Type 0 where
  pub crossed : (made ≡ CrossSlot) ↔ AreInTwoSlots keys
  pub served : made ≡ Serve → All (IsOwned table moves node) keys
  pub moved : (slot to : ℕ) → made ≡ Moved slot to → (owner_at table slot ≡ Some to) × All (λ key. hash_slot key ≡ slot) keys

pub decision-says : (table : List (Option SlotEntry)) (moves : Moves) (node : ℕ) (asked : Asked) (keys : List (List ℕ)) (made : Decision) → made ≡ by_keys table moves node keys asked
    → Says table moves node keys made
decision-says table moves node asked keys made is = record {
  crossed = decision-crossed table moves node asked keys made is;
  served = λ same. decision-served table moves node asked keys (sym same ∙ is);
  moved = λ slot to same. decision-moved table moves node asked keys slot to (sym same ∙ is);
}

abbrev now : Bor (List ℕ) → List ℕ
now key = key.now

-- what is said by the slot of the first key
pub record SaysInSlot (table : List (Option SlotEntry)) (moves : Moves) (node slot : ℕ) (others : List (Bor (List ℕ))) (asked : Asked) (made : Decision) : Type 0 where
  pub value : (first : List ℕ) → hash_slot first ≡ slot → made ≡ by_keys table moves node (first ∷ bytes_of others) asked
  pub one_slot : made ≢ CrossSlot → All (λ key. hash_slot key ≡ slot) (bytes_of others)
  pub whole : (first : List ℕ) → hash_slot first ≡ slot → made ≢ CrossSlot → All (λ key. hash_slot key ≡ slot) (first ∷ bytes_of others)

with_first : (slot : ℕ) (first : List ℕ) (others : List (List ℕ)) → hash_slot first ≡ slot → All (λ key. hash_slot key ≡ slot) others → All (λ key. hash_slot key ≡ slot) (first ∷ others)
with_first slot first others same all zero d lt = same
with_first slot first others same all (suc k) d lt = all k d (omega arith)

-- what was tested of references to the other keys
tested : (slot : ℕ) (others : List (Bor (List ℕ))) (b : Bool) → list_any (λ key. not (hash_slot key.now == slot)) others ≡ b → has_other_slot slot (bytes_of others) ≡ b
tested slot others b is = any_of_mapped (λ key. not (hash_slot key == slot)) now others ∙ is

pub others-in_slot : (slot : ℕ) (others : List (Bor (List ℕ))) → list_any (λ key. not (hash_slot key.now == slot)) others ≡ false → All (λ key. hash_slot key ≡ slot) (bytes_of others)
others-in_slot slot others none = all_in_slot slot (bytes_of others) (tested slot others false none)

module _ (table : List (Option SlotEntry)) (moves : Moves) (node slot : ℕ) (others : List (Bor (List ℕ))) (asked : Asked) where
  -- the decision by what was found of the slot
  pub found : (owner : Option ℕ) (move : Option Move) (made : Decision) → owner ≡ owner_at table slot → move ≡ move_of moves slot → made ≡ in_slot slot owner (state_of owner move node) asked
      → made ≡ decision_at table moves node slot asked
  found owner move made owns moves_so is =
      is ∙ ap (λ o. in_slot slot o (state_of o move node) asked) owns ∙ ap (λ m. in_slot slot (owner_at table slot) (state_of (owner_at table slot) m node) asked) moves_so

  -- a command with keys in two slots is refused
  pub crossed-says : (made : Decision) → made ≡ CrossSlot → list_any (λ key. not (hash_slot key.now == slot)) others ≡ true → SaysInSlot table moves node slot others asked made
  crossed-says made is some = record {
    value = λ first same. is ∙ sym (crossed table moves node asked first (bytes_of others) (ap (λ s. has_other_slot s (bytes_of others)) same ∙ tested slot others true some));
    one_slot = λ other. absurd (other is);
    whole = λ first same other. absurd (other is);
  }

  -- else the slot decides
  pub in_slot-says : (made : Decision) → made ≡ decision_at table moves node slot asked → list_any (λ key. not (hash_slot key.now == slot)) others ≡ false
      → SaysInSlot table moves node slot others asked made
  in_slot-says made is none = record {
    value = λ first same.
        is ∙ ap (λ s. decision_at table moves node s asked) (sym same)
        ∙ sym (in_one table moves node asked first (bytes_of others) (ap (λ s. has_other_slot s (bytes_of others)) same ∙ tested slot others false none));
    one_slot = λ other. all_in_slot slot (bytes_of others) (tested slot others false none);
    whole = λ first same other. with_first slot first (bytes_of others) same (all_in_slot slot (bytes_of others) (tested slot others false none));
  }

-- what is said of all keys, by what is said by the slot of the first one
pub record SaysOfAll (table : List (Option SlotEntry)) (moves : Moves) (node slot : ℕ) (keys : List (Bor (List ℕ))) (asked : Asked) (made : Decision) : Type 0 where
  pub value : IsSlotOf slot (bytes_of keys) → made ≡ by_keys table moves node (bytes_of keys) asked
  pub one_slot : IsSlotOf slot (bytes_of keys) → made ≢ CrossSlot → All (λ key. hash_slot key ≡ slot) (bytes_of keys)

pub all-say : (table : List (Option SlotEntry)) (moves : Moves) (node slot : ℕ) (keys others : List (Bor (List ℕ))) (first : Bor (List ℕ)) (asked : Asked) (made : Decision) → keys ≡ first ∷ others
    → SaysInSlot table moves node slot others asked made → SaysOfAll table moves node slot keys asked made
all-say table moves node slot keys others first asked made are says =
    subst (λ all. SaysOfAll table moves node slot all asked made) (sym are)
    (record { value = λ same. says.value first.now same; one_slot = λ same other. says.whole first.now same other })

-- where no other key is in another slot, all are in that of the first one
pub all-in_slot : (slot : ℕ) (keys others : List (Bor (List ℕ))) (first : Bor (List ℕ)) → keys ≡ first ∷ others → list_any (λ key. not (hash_slot key.now == slot)) others ≡ false
    → IsSlotOf slot (bytes_of keys) → All (λ key. hash_slot key ≡ slot) (bytes_of keys)
all-in_slot slot keys others first are none =
    subst (λ all. IsSlotOf slot (bytes_of all) → All (λ key. hash_slot key ≡ slot) (bytes_of all)) (sym are)
    (λ same. with_first slot first.now (bytes_of others) same (others-in_slot slot others none))

-- The keys that a copy is of, and their values.
use Rattle.std.proofs.Common.{◌≡◌, ◌+◌, ◌==◌, ℕ, List, [], ◌∷◌, filter, not, nat_eq, Bool, true, false, Option, Some, None, Contains, refl, ap, subst, ◌∙◌, inl, inr}
use Rattle.std.specs.Prelude.{is_some}
use Rattle.std.specs.Cmp.Lexicographic.{pointwise}
use Rattle.std.specs.FinMap as map
use Rattle.std.specs.List.{cons_option}
use Rattle.std.specs.Map.{keys_of}
use Rattle.key_slot.specs.Slot.{hash_slot}
use Rattle.keyspace.specs.Keyspace.{Keyspace}
use Rattle.keyspace.specs.declared.value.Value.{Value}
use Rattle.migrate.specs.Sending.{are_just}
use Rattle.migrate.specs.declared.sending.CopyVerdict.TheVariants.{Copies, SendAgain}
use Rattle.redirect.specs.Decision.{has_other_slot}
use Rattle.slot_state.specs.Moves.{move_of}
use Rattle.slot_state.specs.declared.running.Move.TheVariants.{Leaves}
use Rattle.slot_store.specs.InSlot.{is_in_slot}
use Rattle.node_step.specs.Copies.{copy_verdict_on, each_once, first_slot, pair_with, pairs_at, those_there}
use Rattle.node_step.specs.State.{NodeState}
use Rattle.node_step.proofs.Verdicts.{copy_is_again, copy_is_next, ordered_in_slot}
use Rattle.node_step.proofs.Lists.{contains_first, contains_more, contains_nothing, first_or_more, no_element, passed}

-- each pair is a key with the value that it has there
abbrev pub HasPairs : Keyspace → List (List ℕ × Value) → Type 0
HasPairs keyspace pairs = (key : List ℕ) (value : Value) → Contains {X = List ℕ × Value} pairs (key, value) → map.get keyspace key ≡ Some value

pub pairs_have : (keyspace : Keyspace) (keys : List (List ℕ)) → HasPairs keyspace (pairs_at keyspace keys)
pairs_have keyspace [] q x among = absurd (contains_nothing {X = List ℕ × Value} (q, x) among)
pairs_have keyspace (key ∷ keys) q x among = by_value (pairs_have keyspace keys q x) (map.get keyspace key) refl among
  where
    by_value : (Contains {X = List ℕ × Value} (pairs_at keyspace keys) (q, x) → map.get keyspace q ≡ Some x) → (o : Option Value) → map.get keyspace key ≡ o
        → Contains {X = List ℕ × Value} (cons_option (pair_with key o) (pairs_at keyspace keys)) (q, x) → map.get keyspace q ≡ Some x
    by_value others None is among = others among
    by_value others (Some value) is among =
        elim (first_or_more {X = List ℕ × Value} (key, value) (q, x) (pairs_at keyspace keys) among) [
          | inl same ↦ subst (λ (p : List ℕ × Value). map.get keyspace p.0 ≡ Some p.1) same is
          | inr more ↦ others more
        ]

-- where all keys are there, the pairs are of just these
pub pairs_are_of : (keyspace : Keyspace) (keys : List (List ℕ)) → ((q : List ℕ) → Contains keys q → (x : Value) × (map.get keyspace q ≡ Some x)) → keys_of (pairs_at keyspace keys) ≡ keys
pairs_are_of keyspace [] there = refl
pairs_are_of keyspace (key ∷ keys) there =
    let here = there key (contains_first key keys) in
    ap (λ (o : Option Value). keys_of (cons_option (pair_with key o) (pairs_at keyspace keys))) here.1
    ∙ ap (λ (ks : List (List ℕ)). key ∷ ks) (pairs_are_of keyspace keys (λ q among. there q (contains_more key q keys among)))

-- the keys of an order, each once, are named there
pub once_are_named : (keys : List (List ℕ)) (q : List ℕ) → Contains (each_once keys) q → Contains keys q
once_are_named [] q among = among
once_are_named (key ∷ keys) q among =
    elim (first_or_more key q (filter (λ other. not (pointwise nat_eq other key)) (each_once keys)) among) [
      | inl same ↦ subst (Contains (key ∷ keys)) same (contains_first key keys)
      | inr more ↦ contains_more key q keys (once_are_named keys q (passed (λ other. not (pointwise nat_eq other key)) (each_once keys) q more).0)
    ]

some_value : (o : Option Value) → is_some o ≡ true → (x : Value) × (o ≡ Some x)
some_value None is = absurd (cc)
some_value (Some x) is = (x, refl)

-- those of them that are there are named, and there
pub are_there : (keyspace : Keyspace) (keys : List (List ℕ)) (q : List ℕ) → Contains (those_there keyspace keys) q → Contains keys q × ((x : Value) × (map.get keyspace q ≡ Some x))
are_there keyspace keys q among =
    let both = passed (λ key. is_some (map.get keyspace key)) (each_once keys) q among in
    (once_are_named keys q both.0, some_value (map.get keyspace q) both.1)

-- keys that are not in two slots are in the one
pub named_in_slot : (slot : ℕ) (keys : List (List ℕ)) → has_other_slot slot keys ≡ false → (key : List ℕ) → Contains keys key → is_in_slot slot key ≡ true
named_in_slot slot keys none key among = stays (hash_slot key == slot) (no_element (λ (k : List ℕ). not (hash_slot k == slot)) keys key none among)
  where
    stays : (b : Bool) → not b ≡ false → b ≡ true
    stays true is = refl
    stays false is = absurd (cc)

-- ---- an order that is obeyed

-- the copy is sent again of the frozen keys
pub sent_again_of : (node : NodeState) (named : List (List ℕ)) (target : Option ℕ) (to number copy : ℕ) → copy_verdict_on node named target ≡ SendAgain to number copy
    → (frozen : List (List ℕ)) × (move_of node.moves (first_slot named) ≡ Some (Leaves to number copy (Some frozen))) × (are_just frozen (those_there node.keyspace named) ≡ true)
sent_again_of node named target to number copy is =
    let obeyed = ordered_in_slot (has_other_slot (first_slot named) named) _ (SendAgain to number copy) is (λ same. cc) in
    copy_is_again (move_of node.moves (first_slot named)) target (those_there node.keyspace named) to number copy obeyed.1

-- the next copy is made of keys in one slot, of one at least
pub record IsNext (node : NodeState) (named : List (List ℕ)) (to number copy : ℕ) : Type 0 where
  pub made : ℕ
  pub move : move_of node.moves (first_slot named) ≡ Some (Leaves to number made None)
  pub copy_is : copy ≡ made + 1
  pub one : List ℕ
  pub among : Contains (those_there node.keyspace named) one
  pub inside : (key : List ℕ) → Contains named key → is_in_slot (first_slot named) key ≡ true

pub copied_next : (node : NodeState) (named : List (List ℕ)) (target : Option ℕ) (to number copy : ℕ) → copy_verdict_on node named target ≡ Copies to number copy → IsNext node named to number copy
copied_next node named target to number copy is =
    let obeyed = ordered_in_slot (has_other_slot (first_slot named) named) _ (Copies to number copy) is (λ same. cc) in
    let facts = copy_is_next (move_of node.moves (first_slot named)) target (those_there node.keyspace named) to number copy obeyed.1 in
    record { made = facts.0; move = facts.1; copy_is = facts.2; one = facts.3.0; among = facts.3.1; inside = named_in_slot (first_slot named) named obeyed.0 }

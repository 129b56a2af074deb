-- What a keyspace has of a slot, once it is changed.
use Rattle.std.proofs.Common.{◌≡◌, ◌≢◌, ℕ, List, [], ◌∷◌, Bool, true, false, cond, Contains, refl, sym, ap, subst, ◌∙◌, inl, inr}
use Rattle.std.proofs.lemmas.Bool.{both_ways, eqb-true, false_from_ne_true}
use Rattle.std.proofs.lemmas.Cmp.{nat_list_cmp_total}
use Rattle.std.proofs.lemmas.Map.Lookups.{exact_bytes}
use Rattle.std.proofs.lemmas.Map.Views.{tells_apart}
use Rattle.std.specs.Cmp.{eq_by_cmp_equiv}
use Rattle.std.specs.Cmp.Lexicographic.{slice_cmp}
use Rattle.std.specs.FinMap as map
use Rattle.std.specs.Map.{keys_of}
use Rattle.std.specs.Ordering.{nat_cmp, eq_by_cmp}
use Rattle.std.specs.Prelude.{Option, Some, None, is_some}
use Rattle.key_slot.specs.Slot.{hash_slot}
use Rattle.keyspace.specs.Keyspace.{Keyspace}
use Rattle.keyspace.specs.declared.value.Value.{Value}
use Rattle.slot_store.specs.InSlot.{is_in_slot}
use Rattle.node_step.specs.Copies.{with_copied, without}
use Rattle.one_slot.proofs.KeyLemmas.{among_or_not}
use Rattle.one_slot.specs.Events.{Puts, Removes}
use Rattle.single_keyspace.proofs.Lists.{contains_first, contains_more, contains_nothing, first_or_more}
use Rattle.single_keyspace.specs.Slots.{values_in}

pub some_value : (o : Option Value) → is_some o ≡ true → (x : Value) × (o ≡ Some x)
some_value None is = absurd (both_ways false refl is)
some_value (Some x) is = (x, refl)

pub no_value : (o : Option Value) → is_some o ≡ false → o ≡ None
no_value None is = refl
no_value (Some x) is = absurd (both_ways true is refl)

-- whether two keys are one
abbrev pub is_key : List ℕ → List ℕ → Bool
is_key = eq_by_cmp (slice_cmp nat_cmp)

pub is_key-same : (q k : List ℕ) → is_key q k ≡ true → q ≡ k
is_key-same = tells_apart exact_bytes

-- a value is the same where its place is
pub values_alike : (m n : Keyspace) (slot : ℕ) (key : List ℕ) → (is_in_slot slot key ≡ true → map.get m key ≡ map.get n key) → values_in m slot key ≡ values_in n slot key
values_alike m n slot key same =
    elim (is_in_slot slot key) as (λ b. is_in_slot slot key ≡ b → cond b (map.get m key) None ≡ cond b (map.get n key) None) [
      | true ↦ λ is. same is
      | false ↦ λ is. refl
    ] refl

-- in its slot a key has its value
pub value_here : (m : Keyspace) (slot : ℕ) (key : List ℕ) → is_in_slot slot key ≡ true → values_in m slot key ≡ map.get m key
value_here m slot key is = ap (λ b. cond b (map.get m key) None) is

-- some keys put, or taken out
inserted : (m : Keyspace) (k : List ℕ) (v : Value) (q : List ℕ) → map.get (map.insert m k v) q ≡ cond (is_key q k) (Some v) (map.get m q)
inserted m k v q = map.get-insert nat_list_cmp_total m k v q

removed : (m : Keyspace) (k q : List ℕ) → map.get (map.remove m k) q ≡ cond (is_key q k) None (map.get m q)
removed m k q = map.get-remove nat_list_cmp_total m k q

apart_key : (q k : List ℕ) → q ≢ k → is_key q k ≡ false
apart_key q k apart = false_from_ne_true (is_key q k) (λ same. apart (is_key-same q k same))

same_key : (k : List ℕ) → is_key k k ≡ true
same_key k = (eq_by_cmp_equiv nat_list_cmp_total).refl k

pub with_copied_apart : (m : Keyspace) (pairs : List (List ℕ × Value)) (q : List ℕ) → ¬ Contains (keys_of pairs) q → map.get (with_copied m pairs) q ≡ map.get m q
with_copied_apart m [] q apart = refl
with_copied_apart m (pair ∷ pairs) q apart =
    with_copied_apart (map.insert m pair.0 pair.1) pairs q (λ among. apart (contains_more pair.0 q (keys_of pairs) among))
    ∙ inserted m pair.0 pair.1 q
    ∙ ap (λ b. cond b (Some pair.1) (map.get m q)) (apart_key q pair.0 (λ same. apart (subst (Contains (pair.0 ∷ keys_of pairs)) (sym same) (contains_first pair.0 (keys_of pairs)))))

pub with_copied_here : (m : Keyspace) (pairs : List (List ℕ × Value)) (q : List ℕ) → Contains (keys_of pairs) q
    → (x : Value) × Contains {X = List ℕ × Value} pairs (q, x) × (map.get (with_copied m pairs) q ≡ Some x)
with_copied_here m [] q among = absurd (contains_nothing q among)
with_copied_here m (pair ∷ pairs) q among =
    elim (among_or_not (keys_of pairs) q) [
      | inl more ↦
          let rest = with_copied_here (map.insert m pair.0 pair.1) pairs q more in
          (rest.0, contains_more {X = List ℕ × Value} pair (q, rest.0) pairs rest.1, rest.2)
      | inr none ↦
          let first : pair.0 ≡ q = elim (first_or_more pair.0 q (keys_of pairs) among) [ inl same ↦ same | inr more ↦ absurd (none more) ] in (
            pair.1,
            subst (λ (k : List ℕ). Contains {X = List ℕ × Value} (pair ∷ pairs) (k, pair.1)) first (contains_first {X = List ℕ × Value} pair pairs),
            with_copied_apart (map.insert m pair.0 pair.1) pairs q none ∙ inserted m pair.0 pair.1 q
                ∙ ap (λ b. cond b (Some pair.1) (map.get m q)) (subst (λ (k : List ℕ). is_key q k ≡ true) (sym first) (same_key q)),
          )
    ]

pub without_apart : (m : Keyspace) (keys : List (List ℕ)) (q : List ℕ) → ¬ Contains keys q → map.get (without m keys) q ≡ map.get m q
without_apart m [] q apart = refl
without_apart m (key ∷ keys) q apart =
    without_apart (map.remove m key) keys q (λ among. apart (contains_more key q keys among))
    ∙ removed m key q ∙ ap (λ b. cond b None (map.get m q)) (apart_key q key (λ same. apart (subst (Contains (key ∷ keys)) (sym same) (contains_first key keys))))

pub without_here : (m : Keyspace) (keys : List (List ℕ)) (q : List ℕ) → Contains keys q → map.get (without m keys) q ≡ None
without_here m [] q among = absurd (contains_nothing q among)
without_here m (key ∷ keys) q among =
    elim (among_or_not keys q) [
      | inl more ↦ without_here (map.remove m key) keys q more
      | inr none ↦
          let first : key ≡ q = elim (first_or_more key q keys among) [ inl same ↦ same | inr more ↦ absurd (none more) ] in
          without_apart (map.remove m key) keys q none ∙ removed m key q
          ∙ ap (λ b. cond b None (map.get m q)) (subst (λ (k : List ℕ). is_key q k ≡ true) (sym first) (same_key q))
    ]

-- all keys are in the slot
abbrev pub AreInSlot : ℕ → List (List ℕ) → Type 0
AreInSlot slot keys = (key : List ℕ) → Contains keys key → is_in_slot slot key ≡ true

-- what changes at these keys only
abbrev pub ChangesAt : Keyspace → Keyspace → List (List ℕ) → Type 0
ChangesAt m n keys = (q : List ℕ) → ¬ Contains keys q → map.get n q ≡ map.get m q

pub puts_here : (m : Keyspace) (slot : ℕ) (pairs : List (List ℕ × Value)) → AreInSlot slot (keys_of pairs) → Puts (values_in m slot) (values_in (with_copied m pairs) slot) pairs
puts_here m slot pairs inside = record {
  at = λ q among. let there = with_copied_here m pairs q among in (there.0, there.1, value_here (with_copied m pairs) slot q (inside q among) ∙ there.2);
  rest = λ q apart. values_alike (with_copied m pairs) m slot q (λ here. with_copied_apart m pairs q apart);
}

pub removes_here : (m : Keyspace) (slot : ℕ) (keys : List (List ℕ)) → AreInSlot slot keys → Removes (values_in m slot) (values_in (without m keys) slot) keys
removes_here m slot keys inside = record {
  at = λ q among. value_here (without m keys) slot q (inside q among) ∙ without_here m keys q among;
  rest = λ q apart. values_alike (without m keys) m slot q (λ here. without_apart m keys q apart);
}

pub elsewhere : (m n : Keyspace) (slot other : ℕ) (keys : List (List ℕ)) → AreInSlot slot keys → other ≢ slot → ChangesAt m n keys → (q : List ℕ) → values_in n other q ≡ values_in m other q
elsewhere m n slot other keys inside apart changes q =
    values_alike n m other q (λ here. changes q (λ among. apart (sym (eqb-true (hash_slot q) other here) ∙ eqb-true (hash_slot q) slot (inside q among))))

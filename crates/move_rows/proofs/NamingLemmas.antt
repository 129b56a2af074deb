-- Keys that an order names, and their values, one after another.
use Rattle.std.proofs.Common.{◌≡◌, ◌||◌, ◌&&◌, ◌++◌, ℕ, List, [], ◌∷◌, filter, not, nat_eq, Bool, true, false, cond, Option, Some, None, is_some, append-nil, refl, sym, ap, ◌∙◌}
use Rattle.std.proofs.lemmas.Bool.{true≢false}
use Rattle.std.proofs.lemmas.Cmp.{nat_list_eq_equiv}
use Rattle.std.proofs.lemmas.List.Elements.{filter-append, filter_map-append}
use Rattle.std.specs.Borrow.{Bor}
use Rattle.std.specs.Cmp.Lexicographic.{pointwise}
use Rattle.std.specs.FinMap as fin_map
use Rattle.std.specs.List.{cons_option}
use Rattle.std.specs.Option.{option_copied}
use Rattle.keyspace.proofs.Applied.{is_key-same}
use Rattle.keyspace.proofs.FirstChange.{key_test}
use Rattle.keyspace.specs.Keyspace.{Keyspace}
use Rattle.keyspace.specs.declared.value.Value.{Value}
use Rattle.migrate.specs.Sending.{is_among}
use Rattle.move_rows.specs.Naming.{with_named}
use Rattle.node_step.specs.Copies.{each_once, pair_with, pairs_at, those_there}

-- one pair more, if its key is there
pub pairs_at-more : (m : Keyspace) (keys more : List (List ℕ)) (key : List ℕ) (pairs : List (List ℕ × Value)) (value : Option Value) → more ≡ keys ++ key ∷ [] → value ≡ fin_map.get m key → pairs ≡ pairs_at m keys
    → pairs ++ cons_option (pair_with key value) [] ≡ pairs_at m more
pairs_at-more m keys more key pairs value is found so_far =
    ap (λ (v : Option Value). pairs ++ cons_option (pair_with key v) []) found
    ∙ ap (λ (all : List (List ℕ × Value)). all ++ cons_option (pair_with key (fin_map.get m key)) []) so_far
    ∙ sym (ap (pairs_at m) is ∙ filter_map-append (λ (k : List ℕ). pair_with k (fin_map.get m k)) keys (key ∷ []))

-- ---- each key once

-- another key than this one
abbrev apart : List ℕ → List ℕ → Bool
apart key other = not (pointwise nat_eq other key)

back : (key other : List ℕ) (b : Bool) → pointwise nat_eq key other ≡ b → apart key other ≡ not b
back key other b is = ap not (nat_list_eq_equiv.symm other key ∙ is)

each_once-more : (keys : List (List ℕ)) (key : List ℕ) → each_once (keys ++ key ∷ []) ≡ cond (is_among keys key) (each_once keys) (each_once keys ++ key ∷ [])
each_once-more [] key = refl
each_once-more (first ∷ keys) key = ap (λ (rest : List (List ℕ)). first ∷ filter (apart first) rest) (each_once-more keys key) ∙ by_rest (is_among keys key) (pointwise nat_eq first key) refl
  where
    by_rest : (among b : Bool) → pointwise nat_eq first key ≡ b
        → first ∷ filter (apart first) (cond among (each_once keys) (each_once keys ++ key ∷ [])) ≡ cond (b || among) (first ∷ filter (apart first) (each_once keys)) (first ∷ filter (apart first) (each_once keys) ++ key ∷ [])
    by_rest true true same = refl
    by_rest true false same = refl
    by_rest false true same =
        ap (λ (rest : List (List ℕ)). first ∷ rest) (filter-append (apart first) (each_once keys) (key ∷ []) ∙ ap (λ (b : Bool). filter (apart first) (each_once keys) ++ cond b (key ∷ []) []) (back first key true same) ∙ append-nil (filter (apart first) (each_once keys)))
    by_rest false false same =
        ap (λ (rest : List (List ℕ)). first ∷ rest) (filter-append (apart first) (each_once keys) (key ∷ []) ∙ ap (λ (b : Bool). filter (apart first) (each_once keys) ++ cond b (key ∷ []) []) (back first key false same))

-- a key that passes is among those that pass just if it is among all
among_passed : (passes : List ℕ → Bool) (keys : List (List ℕ)) (key : List ℕ) → passes key ≡ true → is_among (filter passes keys) key ≡ is_among keys key
among_passed passes [] key is = refl
among_passed passes (first ∷ keys) key is = by_first (passes first) (pointwise nat_eq first key) refl refl (among_passed passes keys key is)
  where
    by_first : (a b : Bool) → passes first ≡ a → pointwise nat_eq first key ≡ b → is_among (filter passes keys) key ≡ is_among keys key
        → is_among (cond a (first ∷ filter passes keys) (filter passes keys)) key ≡ (pointwise nat_eq first key || is_among keys key)
    by_first true b passed same rest = ap (λ (among : Bool). pointwise nat_eq first key || among) rest
    by_first false true passed same rest = absurd (true≢false (sym is ∙ ap passes (is_key-same key first (key_test first key true (sym same))) ∙ passed))
    by_first false false passed same rest = rest ∙ ap (λ (b : Bool). b || is_among keys key) (sym same)

either_way : (b : Bool) {x y : Bool} → (b ≡ false → x ≡ y) → (b || x) ≡ (b || y)
either_way true same = refl
either_way false same = same refl

among_once : (keys : List (List ℕ)) (key : List ℕ) → is_among (each_once keys) key ≡ is_among keys key
among_once [] key = refl
among_once (first ∷ keys) key =
    either_way (pointwise nat_eq first key) (rest (among_once keys key))
  where
    rest : is_among (each_once keys) key ≡ is_among keys key → pointwise nat_eq first key ≡ false → is_among (filter (apart first) (each_once keys)) key ≡ is_among keys key
    rest others differ = among_passed (apart first) (each_once keys) key (back first key false differ) ∙ others

-- one key more
pub those_there-more : (m : Keyspace) (keys more : List (List ℕ)) (key : List ℕ) (found : List (List ℕ)) (is_there : Bool) → more ≡ keys ++ key ∷ [] → is_there ≡ is_some (fin_map.get m key) → found ≡ those_there m keys
    → with_named found key is_there ≡ those_there m more
those_there-more m keys more key found is_there is there so_far =
    ap (λ (b : Bool). with_named found key b) there ∙ ap (λ (ks : List (List ℕ)). with_named ks key (is_some (fin_map.get m key))) so_far
    ∙ by_there (is_some (fin_map.get m key)) (is_among keys key) refl refl
    ∙ sym (ap (those_there m) is ∙ ap (filter (λ (k : List ℕ). is_some (fin_map.get m k))) (each_once-more keys key))
  where
    by_there : (b among : Bool) → is_some (fin_map.get m key) ≡ b → is_among keys key ≡ among
        → with_named (those_there m keys) key (is_some (fin_map.get m key)) ≡ filter (λ (k : List ℕ). is_some (fin_map.get m k)) (cond (is_among keys key) (each_once keys) (each_once keys ++ key ∷ []))
    by_there true true is_here named =
        ap (λ (b : Bool). cond (b && not (is_among (those_there m keys) key)) (those_there m keys ++ key ∷ []) (those_there m keys)) is_here
        ∙ ap (λ (b : Bool). cond (not b) (those_there m keys ++ key ∷ []) (those_there m keys)) (among_passed (λ (k : List ℕ). is_some (fin_map.get m k)) (each_once keys) key is_here ∙ among_once keys key ∙ named)
        ∙ sym (ap (λ (b : Bool). filter (λ (k : List ℕ). is_some (fin_map.get m k)) (cond b (each_once keys) (each_once keys ++ key ∷ []))) named)
    by_there true false is_here named =
        ap (λ (b : Bool). cond (b && not (is_among (those_there m keys) key)) (those_there m keys ++ key ∷ []) (those_there m keys)) is_here
        ∙ ap (λ (b : Bool). cond (not b) (those_there m keys ++ key ∷ []) (those_there m keys)) (among_passed (λ (k : List ℕ). is_some (fin_map.get m k)) (each_once keys) key is_here ∙ among_once keys key ∙ named)
        ∙ sym (ap (λ (b : Bool). filter (λ (k : List ℕ). is_some (fin_map.get m k)) (cond b (each_once keys) (each_once keys ++ key ∷ []))) named
        ∙ filter-append (λ (k : List ℕ). is_some (fin_map.get m k)) (each_once keys) (key ∷ []) ∙ ap (λ (b : Bool). those_there m keys ++ cond b (key ∷ []) []) is_here)
    by_there false true is_here named =
        ap (λ (b : Bool). cond (b && not (is_among (those_there m keys) key)) (those_there m keys ++ key ∷ []) (those_there m keys)) is_here
        ∙ sym (ap (λ (b : Bool). filter (λ (k : List ℕ). is_some (fin_map.get m k)) (cond b (each_once keys) (each_once keys ++ key ∷ []))) named)
    by_there false false is_here named =
        ap (λ (b : Bool). cond (b && not (is_among (those_there m keys) key)) (those_there m keys ++ key ∷ []) (those_there m keys)) is_here
        ∙ sym (ap (λ (b : Bool). filter (λ (k : List ℕ). is_some (fin_map.get m k)) (cond b (each_once keys) (each_once keys ++ key ∷ []))) named
        ∙ filter-append (λ (k : List ℕ). is_some (fin_map.get m k)) (each_once keys) (key ∷ []) ∙ ap (λ (b : Bool). those_there m keys ++ cond b (key ∷ []) []) is_here ∙ append-nil (those_there m keys))

-- a value that is lent is there
pub there-copied : {A : Type 0} (lent : Option (Bor A)) → is_some lent ≡ is_some (option_copied lent)
there-copied None = refl
there-copied (Some value) = refl

-- Whether a key is there once changes are made.
use Rattle.std.proofs.Common.{◌≡◌, ℕ, List, [], ◌∷◌, length, Bool, true, false, cond, not, ◌&&◌, ◌||◌, nat_eq, Option, Some, None, refl, sym, ap, ◌∙◌, arith}
use Rattle.std.proofs.lemmas.Bool.{true≢false, false≢true}
use Rattle.std.proofs.lemmas.Bool.Decides.{nat_tests}
use Rattle.std.proofs.lemmas.Cmp.{nat_list_cmp_total, eq_by_cmp_equiv}
use Rattle.std.proofs.lemmas.Map.Made.{is_some-lookup}
use Rattle.std.specs.Cmp.Lexicographic.{pointwise}
use Rattle.std.specs.FinMap as map
use Rattle.std.specs.List.{list_any}
use Rattle.std.specs.Map.{keys_of}
use Rattle.std.specs.Prelude.{is_some, nat_lt}
use Rattle.keyspace.proofs.Applied.{is_key, is_key-same, same, value_after, get_applied}
use Rattle.keyspace.proofs.FirstChange.{key_test}
use Rattle.keyspace.proofs.InPlace.{get_changed_itself}
use Rattle.keyspace.proofs.Maps.{get_seen}
use Rattle.keyspace.specs.Changes.{Changes, changes_of, applied, with_first}
use Rattle.keyspace.specs.Keyspace.{Keyspace, changed, fields_left, keyspace_of, with_appended, with_fields}
use Rattle.keyspace.specs.Leaving.{beside, has_keys, is_gone, is_put, puts_beside, stays_beside}
use Rattle.keyspace.specs.Putting.{with_pairs}
use Rattle.keyspace.specs.declared.value.Value.{Value}
use Rattle.hash.specs.Pairs.{Changes as FieldChanges}

-- ---- a key that is there

none_there : (m : Keyspace) (k : List ℕ) → map.len m ≡ 0 → is_some (map.get m k) ≡ false
none_there m k none = ap (λ n. is_some (map.get n k)) (map.empty_of_len m none) ∙ ap is_some (map.get-empty _ k)

some_len : (n : ℕ) → (n ≡ 0 → ⊥) → nat_lt 0 n ≡ true
some_len n some = grind (arith, nat_tests)

-- a key has a value
pub has_key : (m : Keyspace) (k : List ℕ) → is_some (map.get m k) ≡ true → has_keys m ≡ true
has_key m k some = some_len (map.len m) (λ none. true≢false (sym some ∙ none_there m k none))

no_value : {A : Type 0} (value : Option A) → is_some value ≡ false → value ≡ None
no_value None none = refl
no_value (Some value) none = absurd (true≢false none)

-- no key has one
pub no_key : (m : Keyspace) → ((k : List ℕ) → is_some (map.get m k) ≡ false) → has_keys m ≡ false
no_key m none =
    let empty : m ≡ map.empty = same m map.empty (λ k. no_value (map.get m k) (none k) ∙ sym (map.get-empty _ k)) in
    ap has_keys empty ∙ ap (nat_lt 0) (map.len-empty _ _)

-- ---- keys beside the one that is gone

get_beside : (gone : Option (List ℕ)) (m : Keyspace) (k : List ℕ) → map.get (beside gone m) k ≡ cond (is_gone gone k) None (map.get m k)
get_beside None m k = refl
get_beside (Some key) m k = map.get-remove nat_list_cmp_total m key k ∙ ap (λ b. cond b None (map.get m k)) (key_test key k (pointwise nat_eq key k) refl)

either : (gone : Bool) (change : Option (Option Value)) (old : Option Value) → is_some (cond gone None (value_after change old)) ≡ ((not gone && is_put change) || ((not gone && not (is_some change)) && is_some old))
either true change old = refl
either false None old = refl
either false (Some None) old = refl
either false (Some (Some value)) old = refl

-- a key has a value that is put, or its old one
key_beside : (gone : Option (List ℕ)) (m : Keyspace) (d : Changes) (k : List ℕ) → is_some (map.get (beside gone (applied m d)) k) ≡ (puts_beside d gone k || (stays_beside d gone k && is_some (map.get m k)))
key_beside gone m d k =
    ap is_some (get_beside gone (applied m d) k ∙ ap (cond (is_gone gone k) None) (get_applied m d k))
    ∙ either (is_gone gone k) (map.get d k) (map.get m k)

-- ---- tests of keys

or_true : (b : Bool) → (b || true) ≡ true
or_true true = refl
or_true false = refl

-- a key that passes
record Passing (test : List ℕ → Bool) (ks : List (List ℕ)) : Type 0 where
  key : List ℕ
  passes : test key ≡ true
  among : list_any (is_key key) ks ≡ true

passing : (test : List ℕ → Bool) (ks : List (List ℕ)) → list_any test ks ≡ true → Passing test ks
passing test [] any = absurd (false≢true any)
passing test (k ∷ ks) any =
    elim (test k) as (λ b. test k ≡ b → (b || list_any test ks) ≡ true → Passing test (k ∷ ks)) [
      | true ↦ λ t h. record { key = k; passes = t; among = ap (λ b. b || list_any (is_key k) ks) ((eq_by_cmp_equiv nat_list_cmp_total).refl k) }
      | false ↦ λ t h.
          let rest = passing test ks h in
          record { key = rest.key; passes = rest.passes; among = ap (λ b. is_key rest.key k || b) rest.among ∙ or_true (is_key rest.key k) }
    ] refl any

left_false : (a b : Bool) → (a || b) ≡ false → a ≡ false
left_false true b none = absurd (true≢false none)
left_false false b none = refl

right_false : (a b : Bool) → (a || b) ≡ false → b ≡ false
right_false true b none = absurd (true≢false none)
right_false false b none = none

-- where none passes, a key of the list doesn't
none_passes : (test : List ℕ → Bool) (ks : List (List ℕ)) → list_any test ks ≡ false → (k : List ℕ) → list_any (is_key k) ks ≡ true → test k ≡ false
none_passes test [] none k among = absurd (false≢true among)
none_passes test (first ∷ ks) none k among =
    elim (is_key k first) as (λ b. is_key k first ≡ b → (b || list_any (is_key k) ks) ≡ true → test k ≡ false) [
      | true ↦ λ t h. ap test (is_key-same k first t) ∙ left_false (test first) (list_any test ks) none
      | false ↦ λ t h. none_passes test ks (right_false (test first) (list_any test ks) none) k h
    ] refl among

-- ---- values that are put

-- the keys of changes, of which the first stands apart
abbrev pub named : Option (List ℕ × Option Value) → List (List ℕ × Option Value) → List (List ℕ)
named None more = keys_of more
named (Some change) more = change.0 ∷ keys_of more

has_change : (es : List (List ℕ × Option Value)) (k : List ℕ) → is_some (map.get (changes_of es) k) ≡ list_any (is_key k) (keys_of es)
has_change es k = ap is_some (get_seen nat_list_cmp_total es k) ∙ is_some-lookup (is_key k) es

some_or : (b : Bool) (change : Option Value) (old : Option (Option Value)) → is_some (cond b (Some change) old) ≡ (b || is_some old)
some_or true change old = refl
some_or false change old = refl

-- a key has a change exactly where it is named
has_name : (first : Option (List ℕ × Option Value)) (es : List (List ℕ × Option Value)) (k : List ℕ) → is_some (map.get (with_first first (changes_of es)) k) ≡ list_any (is_key k) (named first es)
has_name None es k = has_change es k
has_name (Some change) es k =
    ap is_some (map.get-insert nat_list_cmp_total (changes_of es) change.0 change.1 k)
    ∙ some_or (is_key k change.0) change.1 (map.get (changes_of es) k) ∙ ap (λ b. is_key k change.0 || b) (has_change es k)

-- a key without a change gets no value
no_put : (gone : Bool) (change : Option (Option Value)) → is_some change ≡ false → (not gone && is_put change) ≡ false
no_put true change none = refl
no_put false None none = refl
no_put false (Some change) none = absurd (true≢false none)

module _ (first : Option (List ℕ × Option Value)) (es : List (List ℕ × Option Value)) (d : Changes) (is : with_first first (changes_of es) ≡ d) (gone : Option (List ℕ)) where
  -- a value is put at none of the keys that are named
  pub none_put : list_any (puts_beside d gone) (named first es) ≡ false → (k : List ℕ) → puts_beside d gone k ≡ false
  none_put none k =
      elim (list_any (is_key k) (named first es)) as (λ b. list_any (is_key k) (named first es) ≡ b → puts_beside d gone k ≡ false) [
        | true ↦ λ among. none_passes (puts_beside d gone) (named first es) none k among
        | false ↦ λ other. no_put (is_gone gone k) (map.get d k) (ap (λ n. is_some (map.get n k)) (sym is) ∙ has_name first es k ∙ other)
      ] refl

module _ (test : List ℕ → Bool) (first : Option (List ℕ × Option Value)) (es : List (List ℕ × Option Value)) where
  -- the key that stands apart doesn't pass
  pub apart_fails : (k : List ℕ) (change : Option Value) → first ≡ Some (k, change) → test k ≡ false → list_any test (named first es) ≡ list_any test (keys_of es)
  apart_fails k change is fails = ap (λ f. list_any test (named f es)) is ∙ ap (λ b. b || list_any test (keys_of es)) fails

  -- no key stands apart
  pub none_apart : first ≡ None → list_any test (named first es) ≡ list_any test (keys_of es)
  none_apart is = ap (λ f. list_any test (named f es)) is

-- a value is put at the key
pub put_there : (d : Changes) (gone : Option (List ℕ)) (k : List ℕ) → puts_beside d gone k ≡ true → (m : Keyspace) → has_keys (beside gone (applied m d)) ≡ true
put_there d gone k puts m = has_key _ k (key_beside gone m d k ∙ ap (λ b. b || (stays_beside d gone k && is_some (map.get m k))) puts)

-- or at one of several keys
pub one_put : (d : Changes) (gone : Option (List ℕ)) (ks : List (List ℕ)) → list_any (puts_beside d gone) ks ≡ true → (m : Keyspace) → has_keys (beside gone (applied m d)) ≡ true
one_put d gone ks some m =
    let it = passing (puts_beside d gone) ks some in
    put_there d gone it.key it.passes m

-- ---- values that stay

both : (a b : Bool) → a ≡ true → b ≡ true → (false || (a && b)) ≡ true
both a b s t = ap (λ x. x && b) s ∙ t

neither : (a b : Bool) → (b ≡ true → a ≡ false) → (false || (a && b)) ≡ false
neither true true leads = leads refl
neither true false leads = refl
neither false b leads = refl

-- no value is put: then a key is there exactly if one of the store stays
pub any_stays_left : (es : List (List ℕ × Value)) (d : Changes) (gone : Option (List ℕ)) → ((k : List ℕ) → puts_beside d gone k ≡ false) → list_any (stays_beside d gone) (keys_of es) ≡ has_keys (beside gone (applied (keyspace_of es) d))
any_stays_left es d gone no_puts =
    let m = keyspace_of es in
    let has : (k : List ℕ) → is_some (map.get m k) ≡ list_any (is_key k) (keys_of es) = λ k. ap is_some (get_seen nat_list_cmp_total es k) ∙ is_some-lookup (is_key k) es in
    let at : (k : List ℕ) → is_some (map.get (beside gone (applied m d)) k) ≡ (false || (stays_beside d gone k && is_some (map.get m k))) =
    λ k. key_beside gone m d k ∙ ap (λ b. b || (stays_beside d gone k && is_some (map.get m k))) (no_puts k) in
    elim (list_any (stays_beside d gone) (keys_of es)) as (λ b. list_any (stays_beside d gone) (keys_of es) ≡ b → b ≡ has_keys (beside gone (applied m d))) [
      | true ↦ λ some.
          let it = passing (stays_beside d gone) (keys_of es) some in
          sym (has_key _ it.key (at it.key ∙ both _ _ it.passes (has it.key ∙ it.among)))
      | false ↦ λ none.
          sym (no_key _ (λ k. at k ∙ neither _ _ (λ there. none_passes (stays_beside d gone) (keys_of es) none k (sym (has k) ∙ there))))
    ] refl

-- ---- the last step

changed_there : (m : Keyspace) (k : List ℕ) (value : Option Value) → is_some value ≡ true → has_keys (changed m k value) ≡ true
changed_there m k value some = has_key _ k (ap is_some (get_changed_itself m k value) ∙ some)

-- bytes are put behind a string
pub appended_there : (m : Keyspace) (k bytes : List ℕ) → true ≡ has_keys (with_appended m k bytes)
appended_there m k bytes = sym (changed_there m k (Some _) refl)

-- fields of a value are changed, and the value is left
pub fields_there : (m : Keyspace) (k : List ℕ) (changes : FieldChanges) → is_some (fields_left (map.get m k) changes) ≡ true → true ≡ has_keys (with_fields m k changes)
fields_there m k changes some = sym (changed_there m k (fields_left (map.get m k) changes) some)

-- or it is gone
pub fields_gone : (m : Keyspace) (k : List ℕ) (changes : FieldChanges) → is_some (fields_left (map.get m k) changes) ≡ false → has_keys (map.remove m k) ≡ has_keys (with_fields m k changes)
fields_gone m k changes none = sym (ap (λ value. has_keys (changed m k value)) (no_value (fields_left (map.get m k) changes) none))

pairs_there : (pairs : List (List ℕ × Value)) (m : Keyspace) → has_keys m ≡ true → has_keys (with_pairs m pairs) ≡ true
pairs_there [] m some = some
pairs_there (pair ∷ pairs) m some = pairs_there pairs (map.insert m pair.0 pair.1) (changed_there m pair.0 (Some pair.1) refl)

-- values are put at keys
pub pairs_put : (m : Keyspace) (pairs : List (List ℕ × Value)) → (length pairs ≡ 0 → ⊥) → true ≡ has_keys (with_pairs m pairs)
pairs_put m [] some = absurd (some refl)
pairs_put m (pair ∷ pairs) some = sym (pairs_there pairs (map.insert m pair.0 pair.1) (changed_there m pair.0 (Some pair.1) refl))

-- or at no key
pub no_pairs : (m : Keyspace) (pairs : List (List ℕ × Value)) → length pairs ≡ 0 → has_keys m ≡ has_keys (with_pairs m pairs)
no_pairs m [] none = refl
no_pairs m (pair ∷ pairs) none = absurd (omega arith)

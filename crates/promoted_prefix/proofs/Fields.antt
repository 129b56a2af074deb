-- A hash that a request makes is made by a request after changes of its fields.
use Rattle.std.proofs.Common.{◌≡◌, ◌+◌, ◌≤◌, ℕ, Bool, true, false, cond, List, [], ◌∷◌, length, Some, None, refl, sym, ap, subst, arith}
use Rattle.std.specs.Cmp.Lexicographic.{pointwise}
use Rattle.std.specs.Prelude.{nat_eq}
use Rattle.hash.proofs.DistinctLemmas.{distinct-changed}
use Rattle.hash.proofs.SizeLemmas.{size-cons}
use Rattle.hash.specs.Pairs.{HasDistinctFields, Pairs, field_changed, fields_changed}
use Rattle.hash.specs.Size.{size_of}
use Rattle.keyspace.specs.Hashes.{removals, sets}
use Rattle.keyspace.specs.Rebuilding.{rebuilding}
use Rattle.keyspace.specs.declared.value.Value.TheVariants.{Hash}
use Rattle.resp_values.specs.Request.{IsRequest}
use Rattle.promoted_prefix.proofs.Short.{AreShortPairs, IsShort, bulk_least, first_short, less_is, pairs_short}

-- ---- fields that are set

set_at : (pair : List ℕ × List ℕ) (pairs after : Pairs) (value : List ℕ) (here : Bool) → IsShort value → AreShortPairs (pair ∷ pairs) → AreShortPairs after
    → AreShortPairs (cond here ((pair.0, value) ∷ pairs) (pair ∷ after))
set_at pair pairs after value true short old rest = ((old.0.0, short), old.1)
set_at pair pairs after value false short old rest = (old.0, rest)

pub set_short : (pairs : Pairs) (field value : List ℕ) → IsShort field → IsShort value → AreShortPairs pairs → AreShortPairs (field_changed pairs field (Some value))
set_short [] field value short_field short old = ((short_field, short), tt)
set_short (pair ∷ pairs) field value short_field short old =
    set_at pair pairs (field_changed pairs field (Some value)) value (pointwise nat_eq field pair.0) short old (set_short pairs field value short_field short old.1)

pub sets_short : (changes old : Pairs) → AreShortPairs changes → AreShortPairs old → AreShortPairs (fields_changed old (sets changes))
sets_short [] old short short_old = short_old
sets_short (change ∷ changes) old short short_old =
    sets_short changes (field_changed old change.0 (Some change.1)) short.1 (set_short old change.0 change.1 short.0.0 short.0.1 short_old)

pub sets_distinct : (changes old : Pairs) → HasDistinctFields old → HasDistinctFields (fields_changed old (sets changes))
sets_distinct [] old distinct = distinct
sets_distinct (change ∷ changes) old distinct = sets_distinct changes (field_changed old change.0 (Some change.1)) (distinct-changed old change.0 (Some change.1) distinct)

-- ---- fields that are removed

-- the pairs are as they were, or one of them is gone
data IsLess (pairs rest : Pairs) : Type 0 where
  same : rest ≡ pairs → IsLess pairs rest
  gone : AreShortPairs rest → length rest + 1 ≡ length pairs → size_of rest + 12 ≤ size_of pairs → IsLess pairs rest

behind : (pair : List ℕ × List ℕ) (pairs rest : Pairs) → AreShortPairs (pair ∷ pairs) → IsLess pairs rest → IsLess (pair ∷ pairs) (pair ∷ rest)
behind pair pairs rest short (same is) = same (ap (λ (others : Pairs). pair ∷ others) is)
behind pair pairs rest short (gone rest_short count size) = gone (short.0, rest_short) (omega (arith, count)) (omega (arith, size, size-cons pair pairs, size-cons pair rest))

removed_at : (pair : List ℕ × List ℕ) (pairs rest : Pairs) (here : Bool) → AreShortPairs (pair ∷ pairs) → IsLess pairs rest → IsLess (pair ∷ pairs) (cond here pairs (pair ∷ rest))
removed_at pair pairs rest true short less = gone short.1 (omega arith) (omega (arith, size-cons pair pairs, bulk_least pair.0 short.0.0, bulk_least pair.1 short.0.1))
removed_at pair pairs rest false short less = behind pair pairs rest short less

removed : (pairs : Pairs) (field : List ℕ) → AreShortPairs pairs → IsLess pairs (field_changed pairs field None)
removed [] field short = same refl
removed (pair ∷ pairs) field short = removed_at pair pairs (field_changed pairs field None) (pointwise nat_eq field pair.0) short (removed pairs field short.1)

-- no field stands twice, and the request keeps the limits, also where no field is left
pub record IsMade (key : List ℕ) (pairs : Pairs) : Type 0 where
  pub distinct : HasDistinctFields pairs
  pub request : IsRequest (rebuilding key (Hash pairs))

made_without : (key field : List ℕ) (pairs : Pairs) → IsMade key pairs → IsMade key (field_changed pairs field None)
made_without key field pairs made = record {
  distinct = distinct-changed pairs field None made.distinct;
  request = by (field_changed pairs field None) (removed pairs field (pairs_short key pairs made.request));
}
  where
    by : (rest : Pairs) → IsLess pairs rest → IsRequest (rebuilding key (Hash rest))
    by rest (same is) = subst (λ (others : Pairs). IsRequest (rebuilding key (Hash others))) (sym is) made.request
    by rest (gone short count size) = less_is key (first_short _ key _ made.request) pairs rest short count size made.request

pub removals_made : (names : List (List ℕ)) (key : List ℕ) (pairs : Pairs) → IsMade key pairs → IsMade key (fields_changed pairs (removals names))
removals_made [] key pairs made = made
removals_made (name ∷ names) key pairs made = removals_made names key (field_changed pairs name None) (made_without key name pairs made)

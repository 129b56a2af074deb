-- How the size of a hash goes with its changes.
use Rattle.std.proofs.Common.{◌≡◌, ℕ, ◌+◌, ◌-◌, ◌*◌, ◌<◌, ◌≤◌, ◌^◌, List, [], ◌∷◌, ◌++◌, length, length-append, Bool, true, false, cond, if◌then◌else◌, refl, sym, ap, subst, ◌∙◌, arith}
use Rattle.indexmap.specs.IndexMap.{insert_entry}
use Rattle.resp_values.specs.Request.{bulk_spelling, bulks_spelling}
use Rattle.std.specs.Cmp.Lexicographic.{pointwise, bytes_decides}
use Rattle.std.specs.List.{IsDistinct}
use Rattle.std.specs.Map.{remove_entry}
use Rattle.std.specs.Prelude.{Option, Some, None, nat_eq}
use Rattle.hash.proofs.DistinctLemmas.{distinct-changed}
use Rattle.hash.specs.Pairs.{Pairs, value_of, field_changed}
use Rattle.hash.specs.Size.{size_of, words_of}
use Rattle.hash.specs.Sized.{pair_size, AreShort, IsSized}

-- the size of a pair and of those behind it
pub size-cons : (pair : List ℕ × List ℕ) (pairs : Pairs) → size_of (pair ∷ pairs) ≡ pair_size pair.0 (Some pair.1) + size_of pairs
size-cons pair pairs =
    length-append (bulk_spelling pair.0) (bulk_spelling pair.1 ++ bulks_spelling (words_of pairs))
    ∙ ap (λ n. length (bulk_spelling pair.0) + n) (length-append (bulk_spelling pair.1) (bulks_spelling (words_of pairs))) ∙ omega arith

-- a hash of so many fields is no larger than so many times the longest pair
pub size-le : (pairs : Pairs) → AreShort pairs → size_of pairs ≤ length pairs * (2 ^ 64 + 2 ^ 6)
size-le [] short = omega arith
size-le (pair ∷ pairs) short =
    let e = size-cons pair pairs in
    let rest = size-le pairs short.1 in
    omega (arith, short.0)

-- a field is set at the first pair or behind it
size_set_at : (pair : List ℕ × List ℕ) (pairs after : Pairs) (old : Option (List ℕ)) (field value : List ℕ) (b : Bool) → (b ≡ true → field ≡ pair.0)
    → size_of after + pair_size field old ≡ size_of pairs + pair_size field (Some value)
    → size_of (if b then (pair.0, value) ∷ pairs else pair ∷ after) + pair_size field (cond b (Some pair.1) old) ≡ size_of (pair ∷ pairs) + pair_size field (Some value)
size_set_at pair pairs after old field value true same rest =
    let here : size_of ((pair.0, value) ∷ pairs) ≡ pair_size field (Some value) + size_of pairs = size-cons (pair.0, value) pairs ∙ ap (λ f. pair_size f (Some value) + size_of pairs) (sym (same refl)) in
    let before : size_of (pair ∷ pairs) ≡ pair_size field (Some pair.1) + size_of pairs = size-cons pair pairs ∙ ap (λ f. pair_size f (Some pair.1) + size_of pairs) (sym (same refl)) in
    omega (arith, here, before)
size_set_at pair pairs after old field value false same rest =
    let e = size-cons pair after in
    let before = size-cons pair pairs in
    omega (arith, e, before, rest)

size_set : (pairs : Pairs) (field value : List ℕ) → size_of (insert_entry (pointwise nat_eq) pairs field value) + pair_size field (value_of pairs field) ≡ size_of pairs + pair_size field (Some value)
size_set [] field value = let e = size-cons (field, value) [] in omega (arith, e)
size_set (pair ∷ pairs) field value =
    size_set_at pair pairs (insert_entry (pointwise nat_eq) pairs field value) (value_of pairs field) field value (pointwise nat_eq field pair.0) ((bytes_decides field pair.0).0) (size_set pairs field value)

size_removed_at : (pair : List ℕ × List ℕ) (pairs after : Pairs) (old : Option (List ℕ)) (field : List ℕ) (b : Bool) → (b ≡ true → field ≡ pair.0)
    → size_of after + pair_size field old ≡ size_of pairs
    → size_of (cond b pairs (pair ∷ after)) + pair_size field (cond b (Some pair.1) old) ≡ size_of (pair ∷ pairs)
size_removed_at pair pairs after old field true same rest =
    let before : size_of (pair ∷ pairs) ≡ pair_size field (Some pair.1) + size_of pairs = size-cons pair pairs ∙ ap (λ f. pair_size f (Some pair.1) + size_of pairs) (sym (same refl)) in
    omega (arith, before)
size_removed_at pair pairs after old field false same rest =
    let e = size-cons pair after in
    let before = size-cons pair pairs in
    omega (arith, e, before, rest)

size_removed : (pairs : Pairs) (field : List ℕ) → size_of (remove_entry (pointwise nat_eq field) pairs) + pair_size field (value_of pairs field) ≡ size_of pairs
size_removed [] field = refl
size_removed (pair ∷ pairs) field =
    size_removed_at pair pairs (remove_entry (pointwise nat_eq field) pairs) (value_of pairs field) field (pointwise nat_eq field pair.0) ((bytes_decides field pair.0).0) (size_removed pairs field)

-- what the pair of the changed field took goes, and what it takes comes
pub size-changed : (pairs : Pairs) (field : List ℕ) (value : Option (List ℕ)) → size_of (field_changed pairs field value) + pair_size field (value_of pairs field) ≡ size_of pairs + pair_size field value
size-changed pairs field (Some value) = size_set pairs field value
size-changed pairs field None = let e = size_removed pairs field in omega (arith, e)

short_set_at : (pair : List ℕ × List ℕ) (pairs after : Pairs) (field value : List ℕ) (b : Bool) → (b ≡ true → field ≡ pair.0) → pair_size field (Some value) ≤ 2 ^ 64 + 2 ^ 6
    → AreShort (pair ∷ pairs) → AreShort after → AreShort (if b then (pair.0, value) ∷ pairs else pair ∷ after)
short_set_at pair pairs after field value true same fits short rest = (omega (arith, fits, ap (λ f. pair_size f (Some value)) (same refl)), short.1)
short_set_at pair pairs after field value false same fits short rest = (short.0, rest)

short_set : (pairs : Pairs) (field value : List ℕ) → pair_size field (Some value) ≤ 2 ^ 64 + 2 ^ 6 → AreShort pairs → AreShort (insert_entry (pointwise nat_eq) pairs field value)
short_set [] field value fits short = (fits, tt)
short_set (pair ∷ pairs) field value fits short =
    short_set_at pair pairs (insert_entry (pointwise nat_eq) pairs field value) field value (pointwise nat_eq field pair.0) ((bytes_decides field pair.0).0) fits short (short_set pairs field value fits short.1)

short_removed_at : (pair : List ℕ × List ℕ) (pairs after : Pairs) (b : Bool) → AreShort (pair ∷ pairs) → AreShort after → AreShort (cond b pairs (pair ∷ after))
short_removed_at pair pairs after true short rest = short.1
short_removed_at pair pairs after false short rest = (short.0, rest)

short_removed : (pairs : Pairs) (field : List ℕ) → AreShort pairs → AreShort (remove_entry (pointwise nat_eq field) pairs)
short_removed [] field short = tt
short_removed (pair ∷ pairs) field short = short_removed_at pair pairs (remove_entry (pointwise nat_eq field) pairs) (pointwise nat_eq field pair.0) short (short_removed pairs field short.1)

-- a short pair keeps all short
pub short-changed : (pairs : Pairs) (field : List ℕ) (value : Option (List ℕ)) → pair_size field value ≤ 2 ^ 64 + 2 ^ 6 → AreShort pairs → AreShort (field_changed pairs field value)
short-changed pairs field (Some value) fits short = short_set pairs field value fits short
short-changed pairs field None fits short = short_removed pairs field short

-- a removed field leaves neither its own bytes nor those of its value
pub record Removes (pairs : Pairs) (field : List ℕ) (size gone : ℕ) : Type 0 where
  pub old : gone ≤ size
  pub sized : IsSized (field_changed pairs field None) (size - gone)

pub removed : (pairs : Pairs) (field old : List ℕ) (size f o : ℕ) → IsSized pairs size → value_of pairs field ≡ Some old
    → f ≡ length (bulk_spelling field) → o ≡ length (bulk_spelling old) → Removes pairs field size (f + o)
removed pairs field old size f o sized found field_size old_size =
    let e : size_of (field_changed pairs field None) + pair_size field (Some old) ≡ size_of pairs + 0 =
    ap (λ w. size_of (field_changed pairs field None) + pair_size field w) (sym found) ∙ size-changed pairs field None in
    let t = sized.total in
    record {
      old = omega (arith, e, t);
      sized = record {
        distinct = distinct-changed pairs field None sized.distinct;
        total = omega (arith, e, t);
        short = short-changed pairs field None (omega arith) sized.short;
      };
    }

-- a field that isn't there leaves nothing
pub removed_none : (pairs : Pairs) (field : List ℕ) (size : ℕ) → IsSized pairs size → value_of pairs field ≡ None → IsSized (field_changed pairs field None) size
removed_none pairs field size sized none =
    let e = size-changed pairs field None in
    let gone = ap (pair_size field) none in
    let t = sized.total in
    record {
      distinct = distinct-changed pairs field None sized.distinct;
      total = omega (arith, e, gone, t);
      short = short-changed pairs field None (omega arith) sized.short;
    }

-- no pairs take nothing
pub none_sized : (pairs : Pairs) → pairs ≡ [] → IsSized pairs 0
unfolding IsDistinct
none_sized pairs none = subst (λ (empty : Pairs). IsSized empty 0) (sym none) record { distinct = tt; total = refl; short = tt }

-- the bytes of the old value go and those of the new one come, where a field is there
pub record Sets (pairs : Pairs) (field value : List ℕ) (size gone come : ℕ) : Type 0 where
  pub old : gone ≤ size
  pub fits : size - gone + come < 2 ^ 128
  pub sized : IsSized (field_changed pairs field (Some value)) (size - gone + come)

pub set_again : (pairs : Pairs) (field value old : List ℕ) (size f v o : ℕ) → IsSized pairs size → value_of pairs field ≡ Some old
    → f ≡ length (bulk_spelling field) → v ≡ length (bulk_spelling value) → o ≡ length (bulk_spelling old)
    → length pairs < 2 ^ 63 → f < 2 ^ 63 + 2 ^ 5 → v < 2 ^ 63 + 2 ^ 5 → Sets pairs field value size o v
set_again pairs field value old size f v o sized found field_size value_size old_size few short_field short_value =
    let e : size_of (field_changed pairs field (Some value)) + pair_size field (Some old) ≡ size_of pairs + pair_size field (Some value) =
    ap (λ w. size_of (field_changed pairs field (Some value)) + pair_size field w) (sym found) ∙ size-changed pairs field (Some value) in
    let before = (removed pairs field old size f o sized found field_size old_size).old in
    let t = sized.total in
    let most = size-le pairs sized.short in
    record {
      old = omega (arith, before);
      fits = omega (arith, before, t, most);
      sized = record {
        distinct = distinct-changed pairs field (Some value) sized.distinct;
        total = omega (arith, e, before, t);
        short = short-changed pairs field (Some value) (omega arith) sized.short;
      };
    }

-- a new field brings its own bytes and those of its value
pub record Adds (pairs : Pairs) (field value : List ℕ) (size come : ℕ) : Type 0 where
  pub fits : size + come < 2 ^ 128
  pub sized : IsSized (field_changed pairs field (Some value)) (size + come)

pub set_new : (pairs : Pairs) (field value : List ℕ) (size f v : ℕ) → IsSized pairs size → value_of pairs field ≡ None
    → f ≡ length (bulk_spelling field) → v ≡ length (bulk_spelling value)
    → length pairs < 2 ^ 63 → f < 2 ^ 63 + 2 ^ 5 → v < 2 ^ 63 + 2 ^ 5 → Adds pairs field value size (f + v)
set_new pairs field value size f v sized none field_size value_size few short_field short_value =
    let e : size_of (field_changed pairs field (Some value)) + 0 ≡ size_of pairs + pair_size field (Some value) =
    ap (λ w. size_of (field_changed pairs field (Some value)) + pair_size field w) (sym none) ∙ size-changed pairs field (Some value) in
    let t = sized.total in
    let most = size-le pairs sized.short in
    record {
      fits = omega (arith, t, most);
      sized = record {
        distinct = distinct-changed pairs field (Some value) sized.distinct;
        total = omega (arith, e, t);
        short = short-changed pairs field (Some value) (omega arith) sized.short;
      };
    }

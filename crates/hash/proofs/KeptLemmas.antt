-- What is kept of packed pairs, after one change.
use Rattle.std.proofs.Common.{◌≡◌, ℕ, ◌+◌, ◌-◌, ◌<◌, ◌≤◌, ◌^◌, List, [], ◌∷◌, ◌++◌, length, length-append, take, drop, Bool, true, false, cond, refl, sym, ap, subst, ◌∙◌, arith}
use Rattle.std.proofs.lemmas.List.{length-drop, length-take-le}
use Rattle.std.specs.Cmp.Lexicographic.{pointwise, bytes_decides}
use Rattle.std.specs.Fmt.{decimal}
use Rattle.std.specs.List.{slice_range}
use Rattle.std.specs.Prelude.{Option, Some, None, nat_eq}
use Rattle.resp_values.specs.Request.{crlf, bulk_spelling}
use Rattle.hash.specs.Block.{Kept}
use Rattle.hash.specs.Kept.{IsKept, Keeps}
use Rattle.hash.specs.Packed.{word_packed, packed, pairs_in, RemoveOnly, IsShortWord, HaveShortWords, IsPacked}
use Rattle.hash.specs.Pairs.{Pairs, Changes, value_of, field_changed, fields_changed}
use Rattle.hash.specs.Places.{LiesAt, IsNowhere}
use Rattle.hash.specs.Size.{size_of}
use Rattle.hash.specs.Sized.{pair_size, count_of, IsSized}
use Rattle.hash.specs.declared.count.Count.{Count}
use Rattle.hash.specs.declared.packing.Place.{Place}
use Rattle.hash.specs.declared.repacking.TheConstants.{MOST_PACKED}
use Rattle.hash.proofs.DistinctLemmas.{distinct-changed}
use Rattle.hash.proofs.Foreseen.{length-changed}
use Rattle.hash.proofs.PackedLemmas.{packs, is_packed, nothing_in, nothing_packed}
use Rattle.hash.proofs.ShortLemmas.{few, set_there, words_removed, words-changed, overwrites, short_pairs}
use Rattle.hash.proofs.SizeLemmas.{size-changed}

-- words of the same length are as long as bulk strings
pub same_bulk : (a b : List ℕ) → length a ≡ length b → length (bulk_spelling a) ≡ length (bulk_spelling b)
same_bulk a b same =
    let bulk : (word : List ℕ) → length (bulk_spelling word) ≡ length (decimal (length word)) + length word + 5 = λ word.
    let number = length-append (decimal (length word)) crlf in
    let front = length-append (36 ∷ (decimal (length word) ++ crlf)) word in
    let all = length-append ((36 ∷ (decimal (length word) ++ crlf)) ++ word) crlf in
    omega (arith, number, front, all) in
    let digits = ap (λ n. length (decimal n)) same in
    omega (arith, bulk a, bulk b, digits, same)

-- a field that is there is short
field_at : (pair : List ℕ × List ℕ) (later : Option (List ℕ)) (field old : List ℕ) (b : Bool) → (b ≡ true → field ≡ pair.0) → IsShortWord pair.0 → (later ≡ Some old → IsShortWord field)
    → cond b (Some pair.1) later ≡ Some old → IsShortWord field
field_at pair later field old true same fits rest found = subst IsShortWord (sym (same refl)) fits
field_at pair later field old false same fits rest found = rest found

pub short_field : (pairs : Pairs) (field old : List ℕ) → HaveShortWords pairs → value_of pairs field ≡ Some old → IsShortWord field
short_field [] field old short found = cc
short_field (pair ∷ pairs) field old short found = field_at pair (value_of pairs field) field old (pointwise nat_eq field pair.0) ((bytes_decides field pair.0).0) short.0.0 (short_field pairs field old short.1) found

-- the change is packed in these bytes
pub record Follows (kept : Kept) (field : List ℕ) (value : Option (List ℕ)) (after : List ℕ) : Type 0 where
  pub packed : IsPacked after
  pub same : pairs_in after ≡ field_changed (pairs_in kept.bytes) field value
  pub fields : length (pairs_in after) + count_of (value_of (pairs_in kept.bytes) field) ≡ kept.count.fields + count_of value
  pub size : size_of (pairs_in after) + pair_size field (value_of (pairs_in kept.bytes) field) ≡ kept.count.size + pair_size field value

pub follows : (kept : Kept) (field : List ℕ) (value : Option (List ℕ)) (after : List ℕ) → IsKept kept → HaveShortWords (field_changed (pairs_in kept.bytes) field value)
    → after ≡ packed (field_changed (pairs_in kept.bytes) field value) → Follows kept field value after
follows kept field value after is_kept short is =
    let same = packs after (field_changed (pairs_in kept.bytes) field value) is in
    let many = ap length same in
    let much = ap size_of same in
    let fields_before = is_kept.fields in
    let size_before = is_kept.size in
    let one = length-changed (pairs_in kept.bytes) field value in
    let all = size-changed (pairs_in kept.bytes) field value in
    record {
      packed = is_packed after (field_changed (pairs_in kept.bytes) field value) is (distinct-changed (pairs_in kept.bytes) field value is_kept.packed.distinct) short;
      same = same;
      fields = omega (arith, many, fields_before, one);
      size = omega (arith, much, size_before, all);
    }

module _ (kept : Kept) (field : List ℕ) (value : Option (List ℕ)) (after : List ℕ) (is : Follows kept field value after) where
  keeps : (new : Kept) → new.bytes ≡ after → new.count.fields ≡ length (pairs_in after) → new.count.size ≡ size_of (pairs_in after) → Keeps new (field_changed (pairs_in kept.bytes) field value)
  keeps new bytes fields size = record {
    is_kept = record {
      packed = subst IsPacked (sym bytes) is.packed;
      fields = fields ∙ ap (λ (b : List ℕ). length (pairs_in b)) (sym bytes);
      size = size ∙ ap (λ (b : List ℕ). size_of (pairs_in b)) (sym bytes);
    };
    same = ap pairs_in bytes ∙ is.same;
  }

-- a new field comes
pub record Extends (kept : Kept) (field value after : List ℕ) (f v : ℕ) : Type 0 where
  pub few : kept.count.fields + 1 < 2 ^ 16
  pub fits : kept.count.size + f + v < 2 ^ 16
  pub keeps : (new : Kept) → new.bytes ≡ after → new.count.fields ≡ kept.count.fields + 1 → new.count.size ≡ kept.count.size + f + v → Keeps new (field_changed (pairs_in kept.bytes) field (Some value))

pub extends : (kept : Kept) (field value after : List ℕ) (f v : ℕ) → IsKept kept → IsNowhere kept.bytes field → IsShortWord field → IsShortWord value
    → after ≡ kept.bytes ++ (word_packed field ++ word_packed value) → length after ≤ MOST_PACKED → f ≡ length (bulk_spelling field) → v ≡ length (bulk_spelling value) → Extends kept field value after f v
extends kept field value after f v is_kept nowhere fits fits_too written small field_size value_size =
    let none = nowhere.value in
    let is = follows kept field (Some value) after is_kept (words-changed (pairs_in kept.bytes) field (Some value) fits fits_too is_kept.packed.short) (written ∙ sym (nowhere.set value)) in
    let most = few after is.packed small in
    let gone = ap count_of none in
    let nothing = ap (pair_size field) none in
    let fields = is.fields in
    let size = is.size in
    let most_fields = most.fields in
    let most_size = most.size in
    record {
      few = omega (arith, most_fields, fields, gone);
      fits = omega (arith, most_size, size, nothing, field_size, value_size);
      keeps = λ new bytes new_fields new_size. keeps kept field (Some value) after is new bytes (omega (arith, new_fields, fields, gone)) (omega (arith, new_size, size, nothing, field_size, value_size));
    }

-- another value comes in place of the old one
pub record Replaces (kept : Kept) (field value after : List ℕ) (o v : ℕ) : Type 0 where
  pub there : o ≤ kept.count.size
  pub size : size_of (pairs_in after) ≡ kept.count.size - o + v
  pub packed : IsPacked after
  pub keeps : (new : Kept) → new.bytes ≡ after → new.count.fields ≡ kept.count.fields → new.count.size ≡ kept.count.size - o + v → Keeps new (field_changed (pairs_in kept.bytes) field (Some value))

pub replaces : (kept : Kept) (field value after : List ℕ) (place : Place) (o v : ℕ) → IsKept kept → LiesAt kept.bytes field place → IsShortWord value
    → after ≡ take place.value kept.bytes ++ (word_packed value ++ drop place.end kept.bytes)
    → o ≡ length (bulk_spelling (slice_range kept.bytes (place.value + 1) place.end)) → v ≡ length (bulk_spelling value) → Replaces kept field value after o v
replaces kept field value after place o v is_kept lies fits written old_size value_size =
    let found = lies.value in
    let short = set_there (pairs_in kept.bytes) field (slice_range kept.bytes (place.value + 1) place.end) value fits is_kept.packed.short found in
    let is = follows kept field (Some value) after is_kept short (written ∙ sym (lies.set value)) in
    let one = ap count_of found in
    let gone = ap (pair_size field) found in
    let fields = is.fields in
    let size = is.size in
    let before = is_kept.size in
    let removed = size-changed (pairs_in kept.bytes) field None in
    record {
      there = omega (arith, before, removed, gone, old_size);
      size = omega (arith, before, removed, size, gone, old_size, value_size);
      packed = is.packed;
      keeps = λ new bytes new_fields new_size.
          keeps kept field (Some value) after is new bytes (omega (arith, new_fields, fields, one)) (omega (arith, before, removed, new_size, size, gone, old_size, value_size));
    }

-- a field goes
pub record Loses (kept : Kept) (field after : List ℕ) (f o : ℕ) : Type 0 where
  pub one : 1 ≤ kept.count.fields
  pub there : f + o ≤ kept.count.size
  pub keeps : (new : Kept) → new.bytes ≡ after → new.count.fields ≡ kept.count.fields - 1 → new.count.size ≡ kept.count.size - (f + o) → Keeps new (field_changed (pairs_in kept.bytes) field None)

pub loses : (kept : Kept) (field after : List ℕ) (place : Place) (f o : ℕ) → IsKept kept → LiesAt kept.bytes field place → after ≡ take place.at kept.bytes ++ drop place.end kept.bytes
    → f ≡ length (bulk_spelling field) → o ≡ length (bulk_spelling (slice_range kept.bytes (place.value + 1) place.end)) → Loses kept field after f o
loses kept field after place f o is_kept lies written field_size old_size =
    let found = lies.value in
    let is = follows kept field None after is_kept (words_removed (pairs_in kept.bytes) field is_kept.packed.short) (written ∙ sym lies.removed) in
    let one = ap count_of found in
    let gone = ap (pair_size field) found in
    let fields = is.fields in
    let size = is.size in
    record {
      one = omega (arith, fields, one);
      there = omega (arith, size, gone, field_size, old_size);
      keeps = λ new bytes new_fields new_size.
          keeps kept field None after is new bytes (omega (arith, new_fields, fields, one)) (omega (arith, new_size, size, gone, field_size, old_size));
    }

-- a value of the same length is written over the old one
pub overwritten_kept : (kept new : Kept) (field value : List ℕ) (place : Place) → IsKept kept → LiesAt kept.bytes field place → place.end - (place.value + 1) ≡ length value
    → new.bytes ≡ take (place.value + 1) kept.bytes ++ (value ++ drop (place.value + 1 + length value) kept.bytes) → new.count ≡ kept.count → Keeps new (field_changed (pairs_in kept.bytes) field (Some value))
overwritten_kept kept new field value place is_kept lies same written count =
    let over = overwrites kept.bytes field value new.bytes place is_kept.packed lies same written in
    let old : length (slice_range kept.bytes (place.value + 1) place.end) ≡ length value =
    length-take-le (place.end - (place.value + 1)) (drop (place.value + 1) kept.bytes) (omega (arith, lies.some, lies.within, length-drop (place.value + 1) kept.bytes)) ∙ same in
    let bulk = same_bulk (slice_range kept.bytes (place.value + 1) place.end) value old in
    let fields = ap (λ (k : Count). k.fields) count in
    let size = ap (λ (k : Count). k.size) count in
    let many = ap length over.pairs in
    let much = ap size_of over.pairs in
    let one = ap count_of lies.value in
    let gone = ap (pair_size field) lies.value in
    record {
      is_kept = record {
        packed = over.packed;
        fields = omega (arith, fields, is_kept.fields, many, one, length-changed (pairs_in kept.bytes) field (Some value));
        size = omega (arith, size, is_kept.size, much, gone, bulk, size-changed (pairs_in kept.bytes) field (Some value));
      };
      same = over.pairs;
    }

-- no pairs are kept with no numbers
pub nothing_kept : (kept : Kept) → kept.bytes ≡ [] → kept.count.fields ≡ 0 → kept.count.size ≡ 0 → IsKept kept
nothing_kept kept none fields size =
    let nothing = nothing_in kept.bytes none in
    record {
      packed = nothing_packed kept.bytes none;
      fields = fields ∙ sym (ap length nothing);
      size = size ∙ sym (ap size_of nothing);
    }

-- a field that isn't there can't be removed
pub nothing_removed : (bytes field : List ℕ) → IsNowhere bytes field → pairs_in bytes ≡ field_changed (pairs_in bytes) field None
nothing_removed bytes field nowhere = packs bytes (field_changed (pairs_in bytes) field None) (sym nowhere.removed)

-- the size that is kept is that of the pairs
pub kept_sized : (kept : Kept) (pairs : Pairs) → IsKept kept → pairs_in kept.bytes ≡ pairs → (size : ℕ) → size ≡ kept.count.size → IsSized pairs size
kept_sized kept pairs is_kept same size is = subst (λ (p : Pairs). IsSized p size) same record {
  distinct = is_kept.packed.distinct;
  total = is ∙ is_kept.size;
  short = short_pairs (pairs_in kept.bytes) is_kept.packed.short;
}

-- what is known while fields are removed one after another, of which these are left
pub record LeadDown (pairs : Pairs) (left : Changes) (end : Pairs) : Type 0 where
  pub same : fields_changed pairs left ≡ end
  pub only : RemoveOnly left

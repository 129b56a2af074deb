-- Words that are short enough to be packed stay so.
use Rattle.std.proofs.Common.{◌≡◌, ℕ, ◌+◌, ◌-◌, ◌*◌, ◌<◌, ◌≤◌, ◌^◌, List, [], ◌∷◌, ◌++◌, length, length-append, take, drop, Bool, true, false, cond, if◌then◌else◌, sym, ap, subst, ◌∙◌, arith}
use Rattle.indexmap.specs.IndexMap.{insert_entry}
use Rattle.std.proofs.lemmas.Fmt.{length-decimal-le}
use Rattle.std.proofs.lemmas.List.{length-drop, length-take-le}
use Rattle.std.specs.Cmp.Lexicographic.{pointwise}
use Rattle.std.specs.Fmt.{decimal}
use Rattle.std.specs.List.{slice_range}
use Rattle.std.specs.Map.{remove_entry}
use Rattle.std.specs.Prelude.{Option, Some, None, nat_eq}
use Rattle.resp_values.specs.Request.{crlf, bulk_spelling}
use Rattle.hash.specs.Packed.{word_packed, packed, pairs_in, IsShortWord, IsShortValue, HaveShortWords, SetShortWords, IsPacked}
use Rattle.hash.specs.Pairs.{Pairs, Changes, value_of, field_changed, fields_changed}
use Rattle.hash.specs.Places.{LiesAt}
use Rattle.hash.specs.Size.{size_of}
use Rattle.hash.specs.Sized.{AreShort}
use Rattle.hash.specs.declared.packing.Place.{Place}
use Rattle.hash.specs.declared.repacking.TheConstants.{MOST_PACKED}
use Rattle.hash.proofs.DistinctLemmas.{distinct-changed}
use Rattle.hash.proofs.PackedLemmas.{packs, is_packed, few_in}
use Rattle.hash.proofs.PackedPlaces.{overwritten}
use Rattle.hash.proofs.SizeLemmas.{size-cons}

words_set_at : (pair : List ℕ × List ℕ) (pairs after : Pairs) (value : List ℕ) (b : Bool) → IsShortWord value
    → HaveShortWords (pair ∷ pairs) → HaveShortWords after → HaveShortWords (if b then (pair.0, value) ∷ pairs else pair ∷ after)
words_set_at pair pairs after value true fits short rest = ((short.0.0, fits), short.1)
words_set_at pair pairs after value false fits short rest = (short.0, rest)

words_set : (pairs : Pairs) (field value : List ℕ) → IsShortWord field → IsShortWord value → HaveShortWords pairs → HaveShortWords (insert_entry (pointwise nat_eq) pairs field value)
words_set [] field value fits fits_too short = ((fits, fits_too), tt)
words_set (pair ∷ pairs) field value fits fits_too short =
    words_set_at pair pairs (insert_entry (pointwise nat_eq) pairs field value) value (pointwise nat_eq field pair.0) fits_too short (words_set pairs field value fits fits_too short.1)

words_removed_at : (pair : List ℕ × List ℕ) (pairs after : Pairs) (b : Bool) → HaveShortWords (pair ∷ pairs) → HaveShortWords after → HaveShortWords (cond b pairs (pair ∷ after))
words_removed_at pair pairs after true short rest = short.1
words_removed_at pair pairs after false short rest = (short.0, rest)

pub words_removed : (pairs : Pairs) (field : List ℕ) → HaveShortWords pairs → HaveShortWords (remove_entry (pointwise nat_eq field) pairs)
words_removed [] field short = tt
words_removed (pair ∷ pairs) field short =
    words_removed_at pair pairs (remove_entry (pointwise nat_eq field) pairs) (pointwise nat_eq field pair.0) short (words_removed pairs field short.1)

-- a short field with a short value keeps all short
pub words-changed : (pairs : Pairs) (field : List ℕ) (value : Option (List ℕ)) → IsShortWord field → IsShortValue value → HaveShortWords pairs → HaveShortWords (field_changed pairs field value)
words-changed pairs field (Some value) fits fits_too short = words_set pairs field value fits fits_too short
words-changed pairs field None fits fits_too short = words_removed pairs field short

-- packed pairs stay packed
pub packed_changed : (bytes field : List ℕ) (value : Option (List ℕ)) (after : List ℕ) → IsPacked bytes → IsShortWord field → IsShortValue value
    → after ≡ packed (field_changed (pairs_in bytes) field value) → IsPacked after
packed_changed bytes field value after before fits fits_too is =
    is_packed after (field_changed (pairs_in bytes) field value) is (distinct-changed (pairs_in bytes) field value before.distinct) (words-changed (pairs_in bytes) field value fits fits_too before.short)

-- what is known while changes are made one after another, of which these are left
pub record Leads (bytes : List ℕ) (left : Changes) (end : Pairs) : Type 0 where
  pub same : fields_changed (pairs_in bytes) left ≡ end
  pub packed : IsPacked bytes
  pub short : SetShortWords left

pub leads_on : (bytes after field : List ℕ) (value : Option (List ℕ)) (all left : Changes) (end : Pairs) → Leads bytes all end → all ≡ (field, value) ∷ left
    → after ≡ packed (field_changed (pairs_in bytes) field value) → Leads after left end
leads_on bytes after field value all left end leads next is =
    let fits : SetShortWords ((field, value) ∷ left) = subst SetShortWords next leads.short in
    record {
      same = ap (λ (pairs : Pairs). fields_changed pairs left) (packs after (field_changed (pairs_in bytes) field value) is) ∙ ap (fields_changed (pairs_in bytes)) (sym next) ∙ leads.same;
      packed = packed_changed bytes field value after leads.packed fits.0.0 fits.0.1 is;
      short = fits.1;
    }

-- a value that is there is short
there_at : (pair : List ℕ × List ℕ) (later : Option (List ℕ)) (old : List ℕ) (b : Bool) → IsShortWord pair.1 → (later ≡ Some old → IsShortWord old) → cond b (Some pair.1) later ≡ Some old → IsShortWord old
there_at pair later old true fits rest found = let same : pair.1 ≡ old = cc in subst IsShortWord same fits
there_at pair later old false fits rest found = rest found

pub short_there : (pairs : Pairs) (field old : List ℕ) → HaveShortWords pairs → value_of pairs field ≡ Some old → IsShortWord old
short_there [] field old short found = cc
short_there (pair ∷ pairs) field old short found = there_at pair (value_of pairs field) old (pointwise nat_eq field pair.0) short.0.1 (short_there pairs field old short.1) found

set_there_at : (pair : List ℕ × List ℕ) (pairs after : Pairs) (later : Option (List ℕ)) (old value : List ℕ) (b : Bool) → IsShortWord value → HaveShortWords (pair ∷ pairs)
    → (later ≡ Some old → HaveShortWords after) → cond b (Some pair.1) later ≡ Some old → HaveShortWords (if b then (pair.0, value) ∷ pairs else pair ∷ after)
set_there_at pair pairs after later old value true fits short rest found = ((short.0.0, fits), short.1)
set_there_at pair pairs after later old value false fits short rest found = (short.0, rest found)

pub set_there : (pairs : Pairs) (field old value : List ℕ) → IsShortWord value → HaveShortWords pairs → value_of pairs field ≡ Some old → HaveShortWords (insert_entry (pointwise nat_eq) pairs field value)
set_there [] field old value fits short found = cc
set_there (pair ∷ pairs) field old value fits short found =
    set_there_at pair pairs (insert_entry (pointwise nat_eq) pairs field value) (value_of pairs field) old value (pointwise nat_eq field pair.0) fits short
    (set_there pairs field old value fits short.1) found

-- what is known once a value is written over an old one of the same length
pub record Overwrites (bytes field value after : List ℕ) : Type 0 where
  pub packed : IsPacked after
  pub pairs : pairs_in after ≡ field_changed (pairs_in bytes) field (Some value)

pub overwrites : (bytes field value after : List ℕ) (place : Place) → IsPacked bytes → LiesAt bytes field place → place.end - (place.value + 1) ≡ length value
    → after ≡ take (place.value + 1) bytes ++ (value ++ drop (place.value + 1 + length value) bytes) → Overwrites bytes field value after
overwrites bytes field value after place before lies same is =
    let written : after ≡ packed (field_changed (pairs_in bytes) field (Some value)) = is ∙ overwritten bytes field value place lies same in
    let old : length (slice_range bytes (place.value + 1) place.end) ≡ length value =
    length-take-le (place.end - (place.value + 1)) (drop (place.value + 1) bytes) (omega (arith, lies.some, lies.within, length-drop (place.value + 1) bytes)) ∙ same in
    let fits : IsShortWord value = omega (arith, old, short_there (pairs_in bytes) field (slice_range bytes (place.value + 1) place.end) before.short lies.value) in
    record {
      packed = is_packed after (field_changed (pairs_in bytes) field (Some value)) written (distinct-changed (pairs_in bytes) field (Some value) before.distinct)
          (set_there (pairs_in bytes) field (slice_range bytes (place.value + 1) place.end) value fits before.short lies.value);
      pairs = packs after (field_changed (pairs_in bytes) field (Some value)) written;
    }

-- one more change with a short field and a short value
pub short_more : (changes : Changes) (field : List ℕ) (value : Option (List ℕ)) → SetShortWords changes → IsShortWord field → IsShortValue value → SetShortWords (changes ++ (field, value) ∷ [])
short_more [] field value short fits fits_too = ((fits, fits_too), tt)
short_more (change ∷ changes) field value short fits fits_too = (short.0, short_more changes field value short.1 fits fits_too)

-- a short word is a short bulk string
bulk_le : (word : List ℕ) → IsShortWord word → length (bulk_spelling word) ≤ length word + 8
bulk_le word short =
    let digits = length-decimal-le 3 (length word) (omega arith) (omega arith) (omega arith) in
    let number = length-append (decimal (length word)) crlf in
    let front = length-append (36 ∷ (decimal (length word) ++ crlf)) word in
    let all = length-append ((36 ∷ (decimal (length word) ++ crlf)) ++ word) crlf in
    omega (arith, digits, number, front, all)

short_bulk : (word : List ℕ) → IsShortWord word → length (bulk_spelling word) < 2 ^ 9
short_bulk word short = omega (arith, bulk_le word short, short)

-- short words make short pairs
pub short_pairs : (pairs : Pairs) → HaveShortWords pairs → AreShort pairs
short_pairs [] short = tt
short_pairs (pair ∷ pairs) short = (omega (arith, short_bulk pair.0 short.0.0, short_bulk pair.1 short.0.1), short_pairs pairs short.1)

-- the bulk strings of a pair take at most eight times the bytes that it takes packed
size_le_packed : (pairs : Pairs) → HaveShortWords pairs → size_of pairs ≤ 8 * length (packed pairs)
size_le_packed [] short = omega arith
size_le_packed (pair ∷ pairs) short =
    let field = length-append (word_packed pair.0) (word_packed pair.1 ++ packed pairs) in
    let value = length-append (word_packed pair.1) (packed pairs) in
    omega (arith, size-cons pair pairs, bulk_le pair.0 short.0.0, bulk_le pair.1 short.0.1, size_le_packed pairs short.1, field, value)

-- so packed pairs are few, and their size is small
pub record AreFew (bytes : List ℕ) : Type 0 where
  pub fields : length (pairs_in bytes) < 2 ^ 16
  pub size : size_of (pairs_in bytes) < 2 ^ 16

pub few : (bytes : List ℕ) → IsPacked bytes → length bytes ≤ MOST_PACKED → AreFew bytes
few bytes packed small = record {
  fields = omega (arith, few_in bytes packed.packing, small);
  size = omega (arith, size_le_packed (pairs_in bytes) packed.short, ap length packed.packing.whole, small);
}

-- what is known while packed pairs are counted, of which these are left
pub record Counts (bytes : List ℕ) (fields size : ℕ) (left : Pairs) : Type 0 where
  pub many : fields + length left ≡ length (pairs_in bytes)
  pub total : size + size_of left ≡ size_of (pairs_in bytes)
  pub short : HaveShortWords left

-- the next pair is counted
pub record CountsOn (bytes : List ℕ) (fields size more : ℕ) (left : Pairs) : Type 0 where
  pub few : fields + 1 < 2 ^ 16
  pub fits : size + more < 2 ^ 16
  pub counts : Counts bytes (fields + 1) (size + more) left

pub counts_on : (bytes field value : List ℕ) (fields size f v : ℕ) (all left : Pairs) → IsPacked bytes → length bytes ≤ MOST_PACKED → Counts bytes fields size all → all ≡ (field, value) ∷ left
    → f ≡ length (bulk_spelling field) → v ≡ length (bulk_spelling value) → CountsOn bytes fields size (f + v) left
counts_on bytes field value fields size f v all left packed small counts next field_size value_size =
    let more = ap size_of next in
    let one = ap length next in
    let pair = size-cons (field, value) left in
    let most = few bytes packed small in
    let total = counts.total in
    let many = counts.many in
    let most_fields = most.fields in
    let most_size = most.size in
    record {
      few = omega (arith, one, many, most_fields);
      fits = omega (arith, more, pair, most_size, total);
      counts = record {
        many = omega (arith, one, many);
        total = omega (arith, more, pair, total);
        short = (subst HaveShortWords next counts.short).1;
      };
    }

-- Pairs and the bytes that they are packed in.
use Rattle.std.proofs.Common.{◌≡◌, ℕ, ◌+◌, ◌-◌, ◌*◌, ◌<◌, ◌≤◌, List, [], ◌∷◌, ◌++◌, length, length-append, take, drop, get_or, refl, sym, ap, subst, ◌∙◌, append_assoc, arith}
use Rattle.std.proofs.Math.Seq.{take-append_seam, drop-append_seam, get_or-append_seam, drop-drop}
use Rattle.std.proofs.lemmas.List.{get_or-drop, take_at, drop_at}
use Rattle.std.specs.List.{IsDistinct, slice_range}
use Rattle.std.specs.Prelude.{zero, suc}
use Rattle.hash.specs.Packed.{word_packed, packed, first_word, behind_word, first_pairs, pairs_in, IsPacking, IsPacked, HaveShortWords}
use Rattle.hash.specs.Pairs.{Pairs, HasDistinctFields}
use Rattle.hash.specs.Places.{BeginsWithPair}

-- each pair takes two bytes or more
pub length-packed : (pairs : Pairs) → 2 * length pairs ≤ length (packed pairs)
length-packed [] = omega arith
length-packed (pair ∷ pairs) =
    let field = length-append pair.0 (word_packed pair.1 ++ packed pairs) in
    let value = length-append pair.1 (packed pairs) in
    omega (arith, length-packed pairs, field, value)

first-packed : (most : ℕ) (pairs : Pairs) → length pairs ≤ most → first_pairs most (packed pairs) ≡ pairs
first-packed zero [] few = refl
first-packed zero (pair ∷ pairs) few = absurd (omega arith)
first-packed (suc most) [] few = refl
first-packed (suc most) (pair ∷ pairs) few =
    let behind : List ℕ = word_packed pair.1 ++ packed pairs in
    ap (λ (word : List ℕ). (word, first_word (drop (length pair.0) (pair.0 ++ behind))) ∷ first_pairs most (behind_word (drop (length pair.0) (pair.0 ++ behind)))) (take-append_seam pair.0 behind)
    ∙ ap (λ (bytes : List ℕ). (pair.0, first_word bytes) ∷ first_pairs most (behind_word bytes)) (drop-append_seam pair.0 behind)
    ∙ ap (λ (word : List ℕ). (pair.0, word) ∷ first_pairs most (drop (length pair.1) (pair.1 ++ packed pairs))) (take-append_seam pair.1 (packed pairs))
    ∙ ap (λ (bytes : List ℕ). (pair.0, pair.1) ∷ first_pairs most bytes) (drop-append_seam pair.1 (packed pairs))
    ∙ ap (λ (others : Pairs). pair ∷ others) (first-packed most pairs (omega arith))

-- what was packed is found again
pub pairs_in-packed : (pairs : Pairs) → pairs_in (packed pairs) ≡ pairs
unfolding pairs_in
pairs_in-packed pairs = first-packed (length (packed pairs)) pairs (omega (arith, length-packed pairs))

pub packs : (bytes : List ℕ) (pairs : Pairs) → bytes ≡ packed pairs → pairs_in bytes ≡ pairs
packs bytes pairs is = ap pairs_in is ∙ pairs_in-packed pairs

pub is_packing : (bytes : List ℕ) (pairs : Pairs) → bytes ≡ packed pairs → IsPacking bytes
is_packing bytes pairs is = record { whole = ap packed (packs bytes pairs is) ∙ sym is }

pub is_packed : (bytes : List ℕ) (pairs : Pairs) → bytes ≡ packed pairs → HasDistinctFields pairs → HaveShortWords pairs → IsPacked bytes
is_packed bytes pairs is distinct short = record {
  packing = is_packing bytes pairs is;
  distinct = subst HasDistinctFields (sym (packs bytes pairs is)) distinct;
  short = subst HaveShortWords (sym (packs bytes pairs is)) short;
}

-- no bytes are no pairs
pub nothing_in : (bytes : List ℕ) → bytes ≡ [] → pairs_in bytes ≡ []
nothing_in bytes none = packs bytes [] none

pub nothing_packed : (bytes : List ℕ) → bytes ≡ [] → IsPacked bytes
unfolding IsDistinct
nothing_packed bytes none = is_packed bytes [] none tt tt

-- fewer pairs than bytes
pub few_in : (bytes : List ℕ) → IsPacking bytes → 2 * length (pairs_in bytes) ≤ length bytes
few_in bytes packing = omega (arith, length-packed (pairs_in bytes), ap length packing.whole)

-- ---- the first pair

begins : (bytes : List ℕ) (pairs : Pairs) → packed pairs ≡ bytes → 0 < length bytes
    → BeginsWithPair bytes (1 + get_or bytes 0 0) (1 + get_or bytes 0 0 + 1 + get_or bytes (1 + get_or bytes 0 0) 0)
begins bytes [] is some = absurd (omega (arith, ap length is))
begins bytes (pair ∷ pairs) is some =
    let next : 1 + length pair.0 ≡ suc (length pair.0) = omega arith in
    let len : get_or (packed (pair ∷ pairs)) (1 + length pair.0) 0 ≡ length pair.1 =
    ap (λ k. get_or (packed (pair ∷ pairs)) k 0) next ∙ get_or-append_seam pair.0 (length pair.1) (pair.1 ++ packed pairs) 0 in
    subst (λ (b : List ℕ). BeginsWithPair b (1 + get_or b 0 0) (1 + get_or b 0 0 + 1 + get_or b (1 + get_or b 0 0) 0)) is
    record { field = pair.0; word = pair.1; others = pairs; is = refl; starts = refl; ends = ap (λ n. 1 + length pair.0 + 1 + n) len }

-- the first byte is the length of the first field, and the one behind that is the length of its value
pub begins_with_pair : (bytes : List ℕ) → IsPacking bytes → 0 < length bytes
    → BeginsWithPair bytes (1 + get_or bytes 0 0) (1 + get_or bytes 0 0 + 1 + get_or bytes (1 + get_or bytes 0 0) 0)
begins_with_pair bytes packing some = begins bytes (pairs_in bytes) packing.whole some

-- so the one behind the first field is there
pub value_within : (bytes : List ℕ) → IsPacking bytes → 0 < length bytes → 1 + get_or bytes 0 0 < length bytes
value_within bytes packing some =
    let first = begins_with_pair bytes packing some in
    let field = length-append (word_packed first.field) (word_packed first.word ++ packed first.others) in
    let all : length bytes ≡ length (word_packed first.field ++ (word_packed first.word ++ packed first.others)) = ap length first.is in
    let is : 1 + get_or bytes 0 0 ≡ 1 + length first.field = first.starts in
    omega (arith, field, all, is)

module _ (bytes : List ℕ) (value end : ℕ) (first : BeginsWithPair bytes value end) where
  in_one : bytes ≡ (word_packed first.field ++ word_packed first.word) ++ packed first.others
  in_one = first.is ∙ sym (append_assoc (word_packed first.field) (word_packed first.word) (packed first.others))

  len_both : length (word_packed first.field ++ word_packed first.word) ≡ end
  len_both = omega (arith, length-append (word_packed first.field) (word_packed first.word), first.starts, first.ends)

  len_field : length (word_packed first.field) ≡ value
  len_field = omega (arith, first.starts)

  -- it ends within the bytes
  pub first_within : end ≤ length bytes
  first_within = omega (arith, len_both, ap length in_one, length-append (word_packed first.field ++ word_packed first.word) (packed first.others))

  pub first_pair_in : pairs_in bytes ≡ (first.field, first.word) ∷ first.others
  first_pair_in = packs bytes ((first.field, first.word) ∷ first.others) first.is

  pub behind_first : drop end bytes ≡ packed first.others
  behind_first = ap (drop end) in_one ∙ drop_at (word_packed first.field ++ word_packed first.word) (packed first.others) end len_both

  pub others_packing : IsPacking (drop end bytes)
  others_packing = is_packing (drop end bytes) first.others behind_first

  pub others_in : pairs_in (drop end bytes) ≡ first.others
  others_in = packs (drop end bytes) first.others behind_first

  pub take_both : take end bytes ≡ word_packed first.field ++ word_packed first.word
  take_both = ap (take end) in_one ∙ take_at (word_packed first.field ++ word_packed first.word) (packed first.others) end len_both

  pub take_field : take value bytes ≡ word_packed first.field
  take_field = ap (take value) first.is ∙ take_at (word_packed first.field) (word_packed first.word ++ packed first.others) value len_field

  drop_field : drop value bytes ≡ word_packed first.word ++ packed first.others
  drop_field = ap (drop value) first.is ∙ drop_at (word_packed first.field) (word_packed first.word ++ packed first.others) value len_field

  pub len_word : get_or bytes value 0 ≡ end - (value + 1)
  len_word = ap (λ n. get_or bytes n 0) (omega arith) ∙ sym (get_or-drop value bytes 0 0) ∙ ap (λ (l : List ℕ). get_or l 0 0) drop_field ∙ omega (arith, first.ends)

  pub field_range : slice_range bytes 1 value ≡ first.field
  field_range =
      ap (λ (l : List ℕ). take (value - 1) (drop 1 l)) first.is
      ∙ take_at first.field (word_packed first.word ++ packed first.others) (value - 1) (omega (arith, first.starts))

  pub word_range : slice_range bytes (value + 1) end ≡ first.word
  word_range =
      ap (take (end - (value + 1))) (sym (drop-drop 1 value bytes) ∙ ap (drop 1) drop_field)
      ∙ take_at first.word (packed first.others) (end - (value + 1)) (omega (arith, first.ends))

  -- a walk takes the pair and leaves the others
  pub walks : pairs_in bytes ≡ (slice_range bytes 1 value, slice_range bytes (value + 1) end) ∷ pairs_in (drop end bytes)
  walks =
      first_pair_in ∙ ap (λ (word : List ℕ). (word, first.word) ∷ first.others) (sym field_range)
      ∙ ap (λ (word : List ℕ). (slice_range bytes 1 value, word) ∷ first.others) (sym word_range)
      ∙ ap (λ (others : Pairs). (slice_range bytes 1 value, slice_range bytes (value + 1) end) ∷ others) (sym others_in)

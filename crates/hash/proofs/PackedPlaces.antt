-- Where the pair of a field lies among packed pairs.
use Rattle.std.proofs.Common.{◌≡◌, ℕ, ◌+◌, ◌-◌, ◌≤◌, List, [], ◌∷◌, ◌++◌, length, take, drop, get_or, Bool, true, false, cond, if◌then◌else◌, refl, sym, ap, subst, ◌∙◌, append_assoc, append-nil, arith}
use Rattle.indexmap.specs.IndexMap.{insert_entry}
use Rattle.std.proofs.Math.Seq.{take-add, drop-drop}
use Rattle.std.proofs.lemmas.List.{length-drop, get_or-drop, take_more, take_all, drop_all}
use Rattle.std.specs.Cmp.Lexicographic.{pointwise}
use Rattle.std.specs.List.{slice_range}
use Rattle.std.specs.Map.{remove_entry}
use Rattle.std.specs.Prelude.{Option, Some, None, nat_eq}
use Rattle.hash.specs.Packed.{word_packed, packed, pairs_in, IsPacking}
use Rattle.hash.specs.Pairs.{Pairs, value_of, field_changed}
use Rattle.hash.specs.Places.{BeginsWithPair, IsBehind, LiesAt, IsNowhere}
use Rattle.hash.specs.declared.packing.Place.{Place}
use Rattle.hash.proofs.PackedLemmas.{packs, nothing_in, first_within, first_pair_in, behind_first, others_packing, take_both, take_field, len_word, field_range, word_range}

-- none lies before the first
pub behind_none : (bytes field : List ℕ) → IsPacking bytes → IsBehind bytes field 0
behind_none bytes field packing = record { within = omega arith; packing = packing; value = refl; changed = λ value. refl }

-- a pair of another field stays in front
changed_behind : (pair : List ℕ × List ℕ) (others : Pairs) (field : List ℕ) (value : Option (List ℕ)) → pointwise nat_eq field pair.0 ≡ false
    → field_changed (pair ∷ others) field value ≡ pair ∷ field_changed others field value
changed_behind pair others field (Some value) other = ap (λ (b : Bool). if b then (pair.0, value) ∷ others else pair ∷ insert_entry (pointwise nat_eq) others field value) other
changed_behind pair others field None other = ap (λ (b : Bool). cond b others (pair ∷ remove_entry (pointwise nat_eq field) others)) other

module _ (bytes field : List ℕ) (at value end : ℕ) (behind : IsBehind bytes field at) (first : BeginsWithPair (drop at bytes) value end) where
  here : pairs_in (drop at bytes) ≡ (first.field, first.word) ∷ first.others
  here = first_pair_in (drop at bytes) value end first

  rest : drop (at + end) bytes ≡ drop end (drop at bytes)
  rest = sym (drop-drop end at bytes)

  rest_packed : drop (at + end) bytes ≡ packed first.others
  rest_packed = rest ∙ behind_first (drop at bytes) value end first

  rest_in : pairs_in (drop (at + end) bytes) ≡ first.others
  rest_in = packs (drop (at + end) bytes) first.others rest_packed

  ends_within : at + end ≤ length bytes
  ends_within = omega (arith, behind.within, first_within (drop at bytes) value end first, length-drop at bytes)

  front : take (at + end) bytes ≡ take at bytes ++ (word_packed first.field ++ word_packed first.word)
  front = take-add at end bytes ∙ ap (λ (l : List ℕ). take at bytes ++ l) (take_both (drop at bytes) value end first)

  changed_here : (value : Option (List ℕ)) → packed (field_changed (pairs_in bytes) field value) ≡ take at bytes ++ packed (field_changed ((first.field, first.word) ∷ first.others) field value)
  changed_here value = behind.changed value ∙ ap (λ (pairs : Pairs). take at bytes ++ packed (field_changed pairs field value)) here

  value_here : value_of (pairs_in bytes) field ≡ cond (pointwise nat_eq field first.field) (Some first.word) (value_of first.others field)
  value_here = behind.value ∙ ap (λ (pairs : Pairs). value_of pairs field) here

  -- the field lies behind a pair of another one
  behind_more : pointwise nat_eq field first.field ≡ false → IsBehind bytes field (at + end)
  behind_more other = record {
    within = ends_within;
    packing = subst IsPacking (sym rest) (others_packing (drop at bytes) value end first);
    value = value_here ∙ ap (λ b. cond b (Some first.word) (value_of first.others field)) other ∙ ap (λ (pairs : Pairs). value_of pairs field) (sym rest_in);
    changed = λ v.
        changed_here v ∙ ap (λ (pairs : Pairs). take at bytes ++ packed pairs) (changed_behind (first.field, first.word) first.others field v other)
        ∙ ap (λ (l : List ℕ). take at bytes ++ l) (sym (append_assoc (word_packed first.field) (word_packed first.word) (packed (field_changed first.others field v))))
        ∙ sym (append_assoc (take at bytes) (word_packed first.field ++ word_packed first.word) (packed (field_changed first.others field v)))
        ∙ ap (λ (l : List ℕ). l ++ packed (field_changed first.others field v)) (sym front)
        ∙ ap (λ (pairs : Pairs). take (at + end) bytes ++ packed (field_changed pairs field v)) (sym rest_in);
  }

  value_front : take (at + value) bytes ≡ take at bytes ++ word_packed first.field
  value_front = take-add at value bytes ∙ ap (λ (l : List ℕ). take at bytes ++ l) (take_field (drop at bytes) value end first)

  value_len : get_or bytes (at + value) 0 ≡ at + end - (at + value + 1)
  value_len = sym (get_or-drop at bytes value 0) ∙ len_word (drop at bytes) value end first ∙ omega arith

  value_range : slice_range bytes (at + value + 1) (at + end) ≡ first.word
  value_range =
      ap (λ n. take n (drop (at + value + 1) bytes)) (omega arith) ∙ ap (take (end - (value + 1))) (ap (λ n. drop n bytes) (omega arith) ∙ sym (drop-drop (value + 1) at bytes))
      ∙ word_range (drop at bytes) value end first

  -- the pair is that of the field
  lies_here : pointwise nat_eq field first.field ≡ true → LiesAt bytes field (record { at = at; value = at + value; end = at + end })
  lies_here same = record {
    before = omega arith;
    some = omega (arith, first.starts, first.ends);
    within = ends_within;
    len = take_more bytes (at + value) 0 (omega (arith, ends_within, first.ends)) ∙ ap (λ n. take (at + value) bytes ++ n ∷ []) value_len;
    value = value_here ∙ ap (λ b. cond b (Some first.word) (value_of first.others field)) same ∙ ap Some (sym value_range);
    set = λ v.
        changed_here (Some v)
        ∙ ap (λ (b : Bool). take at bytes ++ packed (if b then (first.field, v) ∷ first.others else (first.field, first.word) ∷ insert_entry (pointwise nat_eq) first.others field v)) same
        ∙ sym (append_assoc (take at bytes) (word_packed first.field) (word_packed v ++ packed first.others))
        ∙ ap (λ (l : List ℕ). l ++ (word_packed v ++ packed first.others)) (sym value_front)
        ∙ ap (λ (l : List ℕ). take (at + value) bytes ++ (word_packed v ++ l)) (sym rest_packed);
    removed =
        changed_here None
        ∙ ap (λ (b : Bool). take at bytes ++ packed (cond b first.others ((first.field, first.word) ∷ remove_entry (pointwise nat_eq field) first.others))) same
        ∙ ap (λ (l : List ℕ). take at bytes ++ l) (sym rest_packed);
  }

-- the same, as the code reads the bytes that are left
module _ (bytes field : List ℕ) (at value end : ℕ) (behind : IsBehind bytes field at) (left : List ℕ) (is : drop at bytes ≡ left) where
  pub behind_first_left : BeginsWithPair left value end → pointwise nat_eq field (slice_range left 1 value) ≡ false → IsBehind bytes field (at + end)
  behind_first_left =
      let Leads : List ℕ → Type 0 = λ l. BeginsWithPair l value end → pointwise nat_eq field (slice_range l 1 value) ≡ false → IsBehind bytes field (at + end) in
      subst Leads is (λ first other. behind_more bytes field at value end behind first (ap (pointwise nat_eq field) (sym (field_range (drop at bytes) value end first)) ∙ other))

  pub lies_first_left : BeginsWithPair left value end → pointwise nat_eq field (slice_range left 1 value) ≡ true → LiesAt bytes field (record { at = at; value = at + value; end = at + end })
  lies_first_left =
      let Leads : List ℕ → Type 0 = λ l. BeginsWithPair l value end → pointwise nat_eq field (slice_range l 1 value) ≡ true → LiesAt bytes field (record { at = at; value = at + value; end = at + end }) in
      subst Leads is (λ first same. lies_here bytes field at value end behind first (ap (pointwise nat_eq field) (sym (field_range (drop at bytes) value end first)) ∙ same))

-- the field lies behind all pairs, so nowhere
pub nowhere : (bytes field : List ℕ) (at : ℕ) → IsBehind bytes field at → length bytes ≤ at → IsNowhere bytes field
nowhere bytes field at behind past =
    let none : pairs_in (drop at bytes) ≡ [] = nothing_in (drop at bytes) (drop_all at bytes past) in
    let all : take at bytes ≡ bytes = take_all at bytes past in
    record {
      value = behind.value ∙ ap (λ (pairs : Pairs). value_of pairs field) none;
      set = λ v.
          behind.changed (Some v) ∙ ap (λ (pairs : Pairs). take at bytes ++ packed (field_changed pairs field (Some v))) none
          ∙ ap (λ (l : List ℕ). l ++ (word_packed field ++ (word_packed v ++ []))) all ∙ ap (λ (l : List ℕ). bytes ++ (word_packed field ++ l)) (append-nil (word_packed v));
      removed =
          behind.changed None ∙ ap (λ (pairs : Pairs). take at bytes ++ packed (field_changed pairs field None)) none
          ∙ append-nil (take at bytes) ∙ all;
    }

-- a value of the same length is written over the old one
pub overwritten : (bytes field value : List ℕ) (place : Place) → LiesAt bytes field place → place.end - (place.value + 1) ≡ length value
    → take (place.value + 1) bytes ++ (value ++ drop (place.value + 1 + length value) bytes) ≡ packed (field_changed (pairs_in bytes) field (Some value))
overwritten bytes field value place lies same =
    ap (λ n. take (place.value + 1) bytes ++ (value ++ drop n bytes)) (omega (arith, lies.some, same))
    ∙ ap (λ (l : List ℕ). l ++ (value ++ drop place.end bytes)) lies.len
    ∙ append_assoc (take place.value bytes) ((place.end - (place.value + 1)) ∷ []) (value ++ drop place.end bytes)
    ∙ ap (λ n. take place.value bytes ++ n ∷ (value ++ drop place.end bytes)) same
    ∙ sym (lies.set value)

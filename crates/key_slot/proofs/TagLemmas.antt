-- The tag that the code finds is the one that the standard describes.
use Rattle.std.proofs.Common.{◌≡◌, ◌≢◌, refl, sym, ap, ◌∙◌, inl, inr, subst, ℕ, ◌+◌, ◌<◌, ◌≤◌, ◌==◌, Bool, true, false, cond, if◌then◌else◌, nat_lt, List, [], ◌∷◌, ◌++◌, length, take, drop, get_or, All, Some, None, position, unwrap_or, arith, length-append, length-take, take_at, drop_of_length-le, get_or-take, eqb-true, eq-eqb, ne_eqb, ltb-true, ltb-false, lt-ltb}
use Rattle.std.specs.List.{list_any, position_or_len, before_first, after_first}
use Rattle.std.proofs.lemmas.Bool.{and_parts, and_from, and_left, cases_Bool, both_ways}
use Rattle.std.proofs.lemmas.List.{get_or_append_left, get_or_at}
use Rattle.std.proofs.Math.Seq.{drop-append-add}
use Rattle.std.proofs.lemmas.List.Sums.{position_or_len_is, fails_before_first, passes_at_first, split_at_first}
use Rattle.std.proofs.lemmas.List.Folds.{list_any_none, list_any_at}
use Rattle.key_slot.specs.HashTag.{opening, closing, IsTagged, IsTagOf, after_opening, before_closing, has_tag, braced, hash_tag}

-- ---- the first place of a byte

-- the byte is there exactly where it has a first place
pub list_any-first : (x : ℕ) (xs : List ℕ) → list_any (λ b. b == x) xs ≡ nat_lt (position_or_len (λ b. b == x) xs) (length xs)
list_any-first x xs =
    let at = position_or_len (λ b. b == x) xs in
    elim (cases_Bool (nat_lt at (length xs))) [
      | inl found ↦ list_any_at (λ b. b == x) xs at 0 (ltb-true at (length xs) found) (passes_at_first (λ b. b == x) xs 0 (ltb-true at (length xs) found)) ∙ sym found
      | inr missing ↦ list_any_none (λ b. b == x) xs (λ k d lt. fails_before_first (λ b. b == x) xs k d (omega (arith, ltb-false at (length xs) missing))) ∙ sym missing
    ]

-- where it stands behind bytes that are others, that is its first place
first_place : (x : ℕ) (p q : List ℕ) → All (λ b. b ≢ x) p → position_or_len (λ b. b == x) (p ++ x ∷ q) ≡ length p
first_place x p q others =
    position_or_len_is (λ b. b == x) (p ++ x ∷ q) (length p) 0 (omega (arith, length-append p (x ∷ q)))
    (λ k lt. ap (λ b. b == x) (get_or_append_left p (x ∷ q) 0 k lt) ∙ ne_eqb (get_or p k 0) x (others k 0 lt))
    (λ lt. eq-eqb (get_or (p ++ x ∷ q) (length p) 0) x (get_or_at p x q 0 (length p) refl))

pub split-first : (x : ℕ) (p q : List ℕ) → All (λ b. b ≢ x) p
    → (list_any (λ b. b == x) (p ++ x ∷ q) ≡ true) × (before_first (λ b. b == x) (p ++ x ∷ q) ≡ p) × (after_first (λ b. b == x) (p ++ x ∷ q) ≡ q)
split-first x p q others =
    let place = first_place x p q others in (
      list_any_at (λ b. b == x) (p ++ x ∷ q) (length p) 0 (omega (arith, length-append p (x ∷ q))) (eq-eqb (get_or (p ++ x ∷ q) (length p) 0) x (get_or_at p x q 0 (length p) refl)),
      ap (λ n. take n (p ++ x ∷ q)) place ∙ take_at p (x ∷ q) (length p) refl,
      ap (λ (n : ℕ). drop (n + 1) (p ++ x ∷ q)) place ∙ drop-append-add p (x ∷ q) 1,
    )

-- a list with that byte is what stands before the first one, the byte, and what stands after it
pub first-split : (x : ℕ) (xs : List ℕ) → list_any (λ b. b == x) xs ≡ true
    → (xs ≡ before_first (λ b. b == x) xs ++ x ∷ after_first (λ b. b == x) xs) × All (λ b. b ≢ x) (before_first (λ b. b == x) xs)
first-split x xs there =
    let at : ℕ = position_or_len (λ b. b == x) xs in
    let inside : at < length xs = ltb-true at (length xs) (sym (list_any-first x xs) ∙ there) in
    let here : get_or xs at 0 ≡ x = eqb-true (get_or xs at 0) x (passes_at_first (λ b. b == x) xs 0 inside) in (
      split_at_first (λ b. b == x) xs 0 inside ∙ ap (λ b. take at xs ++ b ∷ drop (at + 1) xs) here,
      λ k d lt same.
          let early : k < at = omega (arith, length-take at xs) in
          both_ways (get_or xs k d == x) (fails_before_first (λ b. b == x) xs k d early) (eq-eqb (get_or xs k d) x (sym (get_or-take at xs k d early) ∙ same)),
    )

some-when : (t : Bool) (n i : ℕ) → cond t (Some n) None ≡ Some i → (t ≡ true) × (n ≡ i)
some-when true n i e = (refl, (cc))
some-when false n i e = absurd (cc)

none-when : (t : Bool) (n : ℕ) → cond t (Some n) None ≡ None → t ≡ false
none-when true n e = absurd (cc)
none-when false n e = refl

position-found : (x : ℕ) (xs : List ℕ) (i : ℕ) → position (λ b. b == x) xs ≡ Some i → (list_any (λ b. b == x) xs ≡ true) × (position_or_len (λ b. b == x) xs ≡ i)
position-found x xs i e =
    let both = some-when (nat_lt (position_or_len (λ b. b == x) xs) (length xs)) (position_or_len (λ b. b == x) xs) i e in
    (list_any-first x xs ∙ both.0, both.1)

position-missing : (x : ℕ) (xs : List ℕ) → position (λ b. b == x) xs ≡ None → list_any (λ b. b == x) xs ≡ false
position-missing x xs e =
    list_any-first x xs ∙ none-when (nat_lt (position_or_len (λ b. b == x) xs) (length xs)) (position_or_len (λ b. b == x) xs) e

-- ---- the tag

some_long : (tag : List ℕ) → tag ≢ [] → 0 < length tag
some_long [] ne = absurd (ne refl)
some_long (b ∷ tag) ne = omega arith

-- where nothing follows a first `{`, there is no `}` either
opening-there : (key : List ℕ) → list_any (λ b. b == closing) (after_opening key) ≡ true → list_any (λ b. b == opening) key ≡ true
opening-there key closed =
    let at : ℕ = position_or_len (λ b. b == opening) key in
    elim (cases_Bool (list_any (λ b. b == opening) key)) [
      | inl there ↦ there
      | inr missing ↦
          let past : length key ≤ at + 1 = omega (arith, ltb-false at (length key) (sym (list_any-first opening key) ∙ missing)) in
          absurd (both_ways (list_any (λ b. b == closing) (after_opening key)) (ap (list_any (λ b. b == closing)) (drop_of_length-le key past)) closed)
    ]

-- a key with a tag is split as the standard says
pub has_tag-tagged : (key : List ℕ) → has_tag key ≡ true → IsTagged key (before_closing key)
has_tag-tagged key has =
    let parts = and_parts (list_any (λ b. b == closing) (after_opening key)) (nat_lt 0 (length (before_closing key))) has in
    let first = first-split opening key (opening-there key parts.0) in
    let second = first-split closing (after_opening key) parts.0 in
    let long : 0 < length (before_closing key) = ltb-true 0 (length (before_closing key)) parts.1 in
    record {
      p = before_first (λ b. b == opening) key;
      q = after_first (λ b. b == closing) (after_opening key);
      parts = first.0 ∙ ap (λ r. before_first (λ b. b == opening) key ++ opening ∷ r) second.0;
      first_opening = first.1;
      first_closing = second.1;
      some = λ empty. let none : length (before_closing key) ≡ 0 = ap length empty in absurd (omega arith);
    }

-- a key that is split so has that tag
pub tagged-has_tag : (key tag : List ℕ) → IsTagged key tag → (has_tag key ≡ true) × (tag ≡ before_closing key)
tagged-has_tag key tag is =
    let rest = split-first closing tag is.q is.first_closing in
    let after : after_opening key ≡ tag ++ closing ∷ is.q = ap after_opening is.parts ∙ (split-first opening is.p (tag ++ closing ∷ is.q) is.first_opening).2 in
    let before : before_closing key ≡ tag = ap (before_first (λ b. b == closing)) after ∙ rest.1 in (
      and_from (list_any (λ b. b == closing) (after_opening key)) (nat_lt 0 (length (before_closing key)))
          (ap (list_any (λ b. b == closing)) after ∙ rest.0)
          (lt-ltb 0 (length (before_closing key)) (subst (λ t. 0 < length t) (sym before) (some_long tag is.some))),
      sym before,
    )

-- what the code finds by two places
pub braced-unclosed : (key rest : List ℕ) (i : ℕ) → position (λ b. b == opening) key ≡ Some i → rest ≡ drop (i + 1) key → position (λ b. b == closing) rest ≡ None → braced key ≡ None
braced-unclosed key rest i opens is missing =
    let after : after_opening key ≡ rest = ap (λ (n : ℕ). drop (n + 1) key) (position-found opening key i opens).1 ∙ sym is in
    let unclosed : list_any (λ b. b == closing) (after_opening key) ≡ false = ap (list_any (λ b. b == closing)) after ∙ position-missing closing rest missing in
    ap (λ b. if b then Some (before_closing key) else None) (and_left (list_any (λ b. b == closing) (after_opening key)) (nat_lt 0 (length (before_closing key))) unclosed)

pub braced-found : (key rest : List ℕ) (i n : ℕ) → position (λ b. b == opening) key ≡ Some i → rest ≡ drop (i + 1) key → position (λ b. b == closing) rest ≡ Some n → n ≤ length rest → 0 < n
    → braced key ≡ Some (take n rest)
braced-found key rest i n opens is closes inside some =
    let after : after_opening key ≡ rest = ap (λ (k : ℕ). drop (k + 1) key) (position-found opening key i opens).1 ∙ sym is in
    let found = position-found closing rest n closes in
    let before : before_closing key ≡ take n rest = ap (before_first (λ b. b == closing)) after ∙ ap (λ k. take k rest) found.1 in
    let long : 0 < length (take n rest) = omega (arith, length-take n rest) in
    let has : has_tag key ≡ true =
    and_from (list_any (λ b. b == closing) (after_opening key)) (nat_lt 0 (length (before_closing key)))
    (ap (list_any (λ b. b == closing)) after ∙ found.0)
    (ap (λ t. nat_lt 0 (length t)) before ∙ lt-ltb 0 (length (take n rest)) long) in
    ap (λ b. if b then Some (before_closing key) else None) has ∙ ap Some before

hash_tag-braced : (key : List ℕ) (b : Bool) → has_tag key ≡ b → hash_tag key ≡ unwrap_or (if b then Some (before_closing key) else None) key
unfolding hash_tag
hash_tag-braced key b is = ap (λ c. unwrap_or (if c then Some (before_closing key) else None) key) is

-- the function gives a tag
pub IsTagOf-hash_tag : (key : List ℕ) → IsTagOf key (hash_tag key)
IsTagOf-hash_tag key =
    elim (cases_Bool (has_tag key)) [
      | inl has ↦ inl (subst (λ t. IsTagged key t) (sym (hash_tag-braced key true has)) (has_tag-tagged key has))
      | inr none ↦ inr (hash_tag-braced key false none, λ t tagged. both_ways (has_tag key) none (tagged-has_tag key t tagged).0)
    ]

-- a key has one tag
pub hash_tag-only : (key other : List ℕ) → IsTagOf key other → other ≡ hash_tag key
hash_tag-only key other (inl tagged) =
    let both = tagged-has_tag key other tagged in
    both.1 ∙ sym (hash_tag-braced key true both.0)
hash_tag-only key other (inr whole) =
    elim (cases_Bool (has_tag key)) [
      | inl has ↦ absurd (whole.1 (before_closing key) (has_tag-tagged key has))
      | inr none ↦ whole.0 ∙ sym (hash_tag-braced key false none)
    ]

-- What there is of each node, put in the order of the nodes.
use Rattle.std.proofs.Common.{◌≡◌, ◌≢◌, ◌<◌, ◌+◌, ◌∙◌, ◌==◌, ◌++◌, ℕ, zero, suc, Bool, true, false, cond, List, [], ◌∷◌, length, map, append-nil, refl, sym, ap, subst, arith}
use Rattle.std.proofs.lemmas.Bool.{eq-eqb, lt-ltb, ltb-true, ne_eqb}
use Rattle.std.proofs.lemmas.List.{map-append}
use Rattle.std.proofs.lemmas.List.Sorted.{IsPermutation-more, IsPermutation-refl, sum_by-IsPermutation}
use Rattle.std.proofs.lemmas.List.Sums.{sum_by-cons}
use Rattle.std.specs.List.{range_with_len, sum_by}
use Rattle.std.specs.List.Sorted.{IsPermutation}
use Rattle.std.specs.Prelude.{nat_lt, slice_index_or}
use Rattle.tickets.specs.Tickets.{once_below, times}
use Rattle.tickets.proofs.TotalLemmas.{once_below-next, times-append}
use Rattle.audit.specs.Merge.{AreEachOnce, IsWithout}

abbrev pub one_if : Bool → ℕ
one_if test = cond test 1 0

pub none_below_zero : (n : ℕ) → once_below n 0 ≡ 0
none_below_zero n = by_test (nat_lt n 0) refl
  where
    by_test : (test : Bool) → nat_lt n 0 ≡ test → one_if test ≡ 0
    by_test true is = let less = ltb-true n 0 is in absurd (omega (arith, less))
    by_test false is = refl

not_below : (n : ℕ) → nat_lt n n ≡ false
not_below n = by_test (nat_lt n n) refl
  where
    by_test : (test : Bool) → nat_lt n n ≡ test → test ≡ false
    by_test true is = let less = ltb-true n n is in absurd (omega (arith, less))
    by_test false is = refl

-- ---- the numbers of the nodes

one_more : (a n : ℕ) → range_with_len a (suc n) ≡ range_with_len a n ++ (a + n) ∷ []
one_more a zero = ap (λ k. k ∷ []) (omega arith)
one_more a (suc n) = ap (λ l. a ∷ l) (one_more (a + 1) n ∙ ap (λ k. range_with_len (a + 1) n ++ k ∷ []) (omega arith))

-- each stands there once
pub times_in_order : (n count : ℕ) → times n (range_with_len 0 count) ≡ once_below n count
times_in_order n zero = sym (none_below_zero n)
times_in_order n (suc count) =
    ap (times n) (one_more 0 count) ∙ times-append n (range_with_len 0 count) ((0 + count) ∷ []) ∙ ap (λ (last : ℕ). times n (range_with_len 0 count) + times n (last ∷ [])) (omega arith)
    ∙ ap (λ (before : ℕ). before + times n (count ∷ [])) (times_in_order n count) ∙ sym (once_below-next n count) ∙ ap (once_below n) (omega arith)

-- what is of the first so many nodes stands in order, and the rest is left
pub record AreOrderedSoFar {A : Type 0} (node : A → ℕ) (all ordered left : List A) (number : ℕ) : Type 0 where
  pub order : map node ordered ≡ range_with_len 0 number
  pub same : IsPermutation all (ordered ++ left)

module _ {A : Type 0} (node : A → ℕ) where
  -- ---- what is of one node

  -- none of the first is of the node
  abbrev pub NoneBefore : ℕ → ℕ → List A → Type 0
  NoneBefore number place all = (i : ℕ) (other : A) → i < place → node (slice_index_or all i other) ≢ number

  pub none_at_all : (number : ℕ) (all : List A) → NoneBefore number (length all) all → times number (map node all) ≡ 0
  none_at_all number [] none = refl
  none_at_all number (one ∷ all) none =
      let here : node one ≢ number = none 0 one (omega arith) in
      let first : one_if (number == node one) ≡ 0 = ap one_if (ne_eqb number (node one) (λ same. here (sym same))) in
      let rest = none_at_all number all (λ i other below. none (suc i) other (omega (arith, below))) in
      omega (arith, first, rest)

  -- ---- in another order there are as many of each node

  times_are : (n : ℕ) (all : List A) → times n (map node all) ≡ sum_by (λ (one : A). one_if (n == node one)) all
  times_are n [] = refl
  times_are n (one ∷ all) = ap (λ (rest : ℕ). one_if (n == node one) + rest) (times_are n all) ∙ sym (sum_by-cons (λ (one : A). one_if (n == node one)) one all)

  pub same_times : (n : ℕ) (all others : List A) → IsPermutation all others → times n (map node all) ≡ times n (map node others)
  same_times n all others same = times_are n all ∙ sym (sum_by-IsPermutation (λ (one : A). one_if (n == node one)) all others same) ∙ sym (times_are n others)

  -- ---- one after the other

  pub none_ordered : (all ordered : List A) → ordered ≡ [] → AreOrderedSoFar node all ordered all 0
  none_ordered all ordered none = subst (λ (ones : List A). AreOrderedSoFar node all ones all 0) (sym none) (record { order = refl; same = IsPermutation-refl all })

  pub one_more_ordered : (all ordered more left fewer : List A) (number : ℕ) (one : A) → AreOrderedSoFar node all ordered left number → node one ≡ number → IsWithout left one fewer → more ≡ ordered ++ one ∷ []
      → AreOrderedSoFar node all more fewer (number + 1)
  one_more_ordered all ordered more left fewer number one so_far at without grown =
      let next : suc number ≡ number + 1 = omega arith in
      let last : node one ≡ 0 + number = omega (arith, at) in
      subst (λ (ones : List A). AreOrderedSoFar node all ones fewer (number + 1)) (sym grown)
      (subst (λ (ones : List A). AreOrderedSoFar node all (ordered ++ one ∷ []) ones (number + 1)) (sym without.is) (record {
        order = map-append node ordered (one ∷ []) ∙ ap (λ (numbers : List ℕ). numbers ++ node one ∷ []) so_far.order ∙ ap (λ (n : ℕ). range_with_len 0 number ++ n ∷ []) last ∙ sym (one_more 0 number)
            ∙ ap (range_with_len 0) next;
        same = IsPermutation-more all ordered left without.place one without.within (sym without.at) so_far.same;
      }))

  pub all_ordered : (all ordered left : List A) (number : ℕ) → AreOrderedSoFar node all ordered left number → length left ≡ 0 → IsPermutation all ordered
  all_ordered all ordered [] number so_far none = subst (IsPermutation all) (append-nil ordered) so_far.same
  all_ordered all ordered (first ∷ left) number so_far none = absurd (omega (arith, none))

  times_so_far : (n : ℕ) (all ordered left : List A) (number : ℕ) → AreOrderedSoFar node all ordered left number → times n (map node all) ≡ once_below n number + times n (map node left)
  times_so_far n all ordered left number so_far =
      same_times n all (ordered ++ left) so_far.same ∙ ap (times n) (map-append node ordered left) ∙ times-append n (map node ordered) (map node left)
      ∙ ap (λ (numbers : List ℕ). times n numbers + times n (map node left)) so_far.order ∙ ap (λ (before : ℕ). before + times n (map node left)) (times_in_order n number)

  -- a node of which there is none
  pub one_missing : (all ordered left : List A) (count number : ℕ) → AreOrderedSoFar node all ordered left number → number < count → times number (map node left) ≡ 0 → AreEachOnce count (map node all) → ⊥
  one_missing all ordered left count number so_far below none once =
      let counted = times_so_far number all ordered left number so_far in
      let here : once_below number number ≡ 0 = ap one_if (not_below number) in
      let wanted : once_below number count ≡ 1 = ap one_if (lt-ltb number count below) in
      let one = once number in
      omega (arith, counted, here, wanted, one, none)

  -- one that is left
  pub one_too_many : (all ordered left : List A) (count number : ℕ) → AreOrderedSoFar node all ordered left number → number ≡ count → 0 < length left → AreEachOnce count (map node all) → ⊥
  one_too_many all ordered [] count number so_far end some once = omega (arith, some)
  one_too_many all ordered (first ∷ left) count number so_far end some once =
      let counted = times_so_far (node first) all ordered (first ∷ left) number so_far in
      let one = once (node first) in
      let here : one_if (node first == node first) ≡ 1 = ap one_if (eq-eqb (node first) (node first) refl) in
      let same : once_below (node first) number ≡ once_below (node first) count = ap (once_below (node first)) end in
      omega (arith, counted, one, here, same)

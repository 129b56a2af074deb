-- What a search by ticket finds in a journal.
use Rattle.std.proofs.Common.{◌≡◌, ◌≢◌, ◌<◌, ◌≤◌, ◌==◌, ◌∙◌, ℕ, zero, suc, Bool, true, false, cond, List, [], ◌∷◌, length, All, Option, Some, None, refl, sym, ap, subst, arith}
use Rattle.std.proofs.lemmas.Bool.{eq-eqb, eqb-true, lt-ltb, ltb-false, ltb-true}
use Rattle.std.proofs.lemmas.List.Elements.{All-head, All-tail}
use Rattle.std.specs.List.{HoldsAt, find}
use Rattle.std.specs.List.Sorted.{IsNonDecreasingBy, IsPartitionPoint}
use Rattle.std.specs.Ordering.{nat_cmp, ordering_index}
use Rattle.std.specs.Prelude.{nat_lt, slice_index_or}
use Rattle.std.specs.declared.cmp.Ordering.{Ordering}
use Rattle.std.specs.declared.cmp.Ordering.TheVariants.{Less, Equal, Greater}
use Rattle.cell_parts.specs.Journal.{Rises, ticket_of, tickets_of}
use Rattle.cell_parts.specs.declared.entry.Entry.{Entry as JournalEntry}
use Rattle.audit.specs.Merge.{has_ticket}
use Rattle.audit.proofs.Rising.{found_among, found_is_among, found_ticket}

-- ---- numbers that are compared

module _ (n m : ℕ) where
  abbrev chosen : Bool → Bool → Ordering
  chosen below same = cond below Less (cond same Equal Greater)

  equal_by : (below same : Bool) → (n == m) ≡ same → chosen below same ≡ Equal → n ≡ m
  equal_by true same is chose = absurd (omega (arith, ap ordering_index chose))
  equal_by false true is chose = eqb-true n m is
  equal_by false false is chose = absurd (omega (arith, ap ordering_index chose))

  pub equal_is : nat_cmp n m ≡ Equal → n ≡ m
  equal_is = equal_by (nat_lt n m) (n == m) refl

  less_by : (below same : Bool) → nat_lt n m ≡ below → chosen below same ≡ Less → n < m
  less_by true same is chose = ltb-true n m is
  less_by false true is chose = absurd (omega (arith, ap ordering_index chose))
  less_by false false is chose = absurd (omega (arith, ap ordering_index chose))

  less_is : nat_cmp n m ≡ Less → n < m
  less_is = less_by (nat_lt n m) (n == m) refl

  greater_by : (below same : Bool) → nat_lt n m ≡ below → (n == m) ≡ same → chosen below same ≡ Greater → n ≢ m
  greater_by true same is same_is chose = absurd (omega (arith, ap ordering_index chose))
  greater_by false true is same_is chose = absurd (omega (arith, ap ordering_index chose))
  greater_by false false is same_is chose = λ equal. omega (arith, ap one_if (sym same_is ∙ eq-eqb n m equal))
    where
      one_if : Bool → ℕ
      one_if test = cond test 1 0

  greater_is : nat_cmp n m ≡ Greater → n ≢ m
  greater_is = greater_by (nat_lt n m) (n == m) refl refl

  -- 0, 1 and 2, as it is below, the same, and above
  index_below : n < m → ordering_index (nat_cmp n m) ≡ 0
  index_below below = ap (λ (b : Bool). ordering_index (cond b Less (cond (n == m) Equal Greater))) (lt-ltb n m below)

  index_from : (below same : Bool) → nat_lt n m ≡ below → m ≤ n → 1 ≤ ordering_index (chosen below same)
  index_from true same is above = let less = ltb-true n m is in absurd (omega (arith, less, above))
  index_from false true is above = omega arith
  index_from false false is above = omega arith

  index_above : (below same : Bool) → nat_lt n m ≡ below → (n == m) ≡ same → m < n → 2 ≤ ordering_index (chosen below same)
  index_above true same is same_is above = let less = ltb-true n m is in absurd (omega (arith, less, above))
  index_above false true is same_is above = let equal = eqb-true n m same_is in absurd (omega (arith, equal, above))
  index_above false false is same_is above = omega arith

  index_most : (below same : Bool) → ordering_index (chosen below same) ≤ 2
  index_most true same = omega arith
  index_most false true = omega arith
  index_most false false = omega arith

  index_same : (below same : Bool) → nat_lt n m ≡ below → (n == m) ≡ same → n ≤ m → ordering_index (chosen below same) ≤ 1
  index_same true same is same_is upto = omega arith
  index_same false true is same_is upto = omega arith
  index_same false false is same_is upto =
      let above = ltb-false n m is in
      absurd (greater_by false false is same_is refl (omega (arith, above, upto)))

index_rises : (one other m : ℕ) → one ≤ other → ordering_index (nat_cmp one m) ≤ ordering_index (nat_cmp other m)
index_rises one other m upto = by_below (nat_lt one m) (nat_lt m one) refl refl
  where
    by_below : (below above : Bool) → nat_lt one m ≡ below → nat_lt m one ≡ above → ordering_index (nat_cmp one m) ≤ ordering_index (nat_cmp other m)
    by_below true above is other_way = let least = index_below one m (ltb-true one m is) in omega (arith, least)
    by_below false true is other_way =
        let past : m < one = ltb-true m one other_way in
        let most = index_most one m (nat_lt one m) (one == m) in
        let least = index_above other m (nat_lt other m) (other == m) refl refl (omega (arith, past, upto)) in
        omega (arith, most, least)
    by_below false false is other_way =
        let from : m ≤ one = ltb-false one m is in
        let to : one ≤ m = ltb-false m one other_way in
        let most = index_same one m (nat_lt one m) (one == m) refl refl to in
        let least = index_from other m (nat_lt other m) (other == m) refl (omega (arith, from, upto)) in
        omega (arith, most, least)

-- ---- journals

abbrev compared : ℕ → JournalEntry → Ordering
compared ticket entry = nat_cmp (ticket_of entry) ticket

rises_at : (entries : List JournalEntry) → Rises (tickets_of entries) → (i j : ℕ) (other : JournalEntry) → i ≤ j → j < length entries → ticket_of (slice_index_or entries i other) ≤ ticket_of (slice_index_or entries j other)
rises_at [] rises i j other upto below = absurd (omega (arith, below))
rises_at (entry ∷ entries) rises zero zero other upto below = omega arith
rises_at (entry ∷ entries) rises zero (suc j) other upto below = above_first entries rises.0 j (omega (arith, below))
  where
    above_first : (others : List JournalEntry) → All (λ later. ticket_of entry < later) (tickets_of others) → (k : ℕ) → k < length others → ticket_of entry ≤ ticket_of (slice_index_or others k other)
    above_first [] all k within = absurd (omega (arith, within))
    above_first (one ∷ others) all zero within = let first : ticket_of entry < ticket_of one = All-head (λ later. ticket_of entry < later) (ticket_of one) (tickets_of others) all in omega (arith, first)
    above_first (one ∷ others) all (suc k) within = above_first others (All-tail (λ later. ticket_of entry < later) (ticket_of one) (tickets_of others) all) k (omega (arith, within))
rises_at (entry ∷ entries) rises (suc i) zero other upto below = absurd (omega (arith, upto))
rises_at (entry ∷ entries) rises (suc i) (suc j) other upto below = rises_at entries rises.1 i j other (omega (arith, upto)) (omega (arith, below))

non_decreasing : (ticket : ℕ) (entries : List JournalEntry) → Rises (tickets_of entries) → IsNonDecreasingBy (λ (entry : JournalEntry). ordering_index (compared ticket entry)) entries
non_decreasing ticket entries rises i j other upto below = index_rises _ _ ticket (rises_at entries rises i j other upto below)

-- where a search finds one, that is the entry
pub found_there : (ticket place : ℕ) (entries : List JournalEntry) (entry : JournalEntry) → Rises (tickets_of entries) → place < length entries → HoldsAt (λ (e : JournalEntry). compared ticket e ≡ Equal) entries place
    → entry ≡ slice_index_or entries place entry → find (has_ticket ticket) entries ≡ Some entry
found_there ticket place entries entry rises below holds at =
    let equal : ticket_of entry ≡ ticket = equal_is (ticket_of entry) ticket (subst (λ (e : JournalEntry). compared ticket e ≡ Equal) (sym at) (holds entry)) in
    found_among ticket entries entry rises (place, below, sym at) equal

-- and where it finds none, there is none
pub found_nowhere : (ticket place : ℕ) (entries : List JournalEntry) → Rises (tickets_of entries)
    → (IsNonDecreasingBy (λ (entry : JournalEntry). ordering_index (compared ticket entry)) entries → IsPartitionPoint (λ (e : JournalEntry). compared ticket e ≡ Less) (λ (e : JournalEntry). compared ticket e ≡ Greater) entries place)
    → find (has_ticket ticket) entries ≡ None
found_nowhere ticket place entries rises parts = by_found (find (has_ticket ticket) entries) refl
  where
    point : IsPartitionPoint (λ (e : JournalEntry). compared ticket e ≡ Less) (λ (e : JournalEntry). compared ticket e ≡ Greater) entries place
    point = parts (non_decreasing ticket entries rises)

    by_side : (entry : JournalEntry) → ticket_of entry ≡ ticket → (i : ℕ) → i < length entries → slice_index_or entries i entry ≡ entry → (before : Bool) → nat_lt i place ≡ before → ⊥
    by_side entry equal i below at true before =
        let less = less_is (ticket_of entry) ticket (subst (λ (e : JournalEntry). compared ticket e ≡ Less) at (point.0 i entry (omega arith) (ltb-true i place before))) in
        omega (arith, less, equal)
    by_side entry equal i below at false before =
        greater_is (ticket_of entry) ticket (subst (λ (e : JournalEntry). compared ticket e ≡ Greater) at (point.1 i entry (ltb-false i place before) below)) equal

    by_found : (o : Option JournalEntry) → find (has_ticket ticket) entries ≡ o → find (has_ticket ticket) entries ≡ None
    by_found None is = is
    by_found (Some entry) is =
        let among = found_is_among ticket entries entry is in
        absurd (by_side entry (found_ticket ticket entries entry is) among.0 among.1 among.2 (nat_lt among.0 place) refl)

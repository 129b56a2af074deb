-- Readings of values from the front of bytes, and how they are put together.
use Rattle.std.proofs.Common.{◌≡◌, ◌≢◌, ◌⊎◌, inl, inr, ℕ, zero, suc, ◌<◌, ◌==◌, true, false, cond, List, [], ◌∷◌, ◌++◌, length, refl, sym, ap, subst, ◌∙◌, append_assoc, append-nil, arith}
use Rattle.std.specs.List.{AllByRecursion, flat_map}
use Rattle.std.proofs.lemmas.Bool.{eqb-true, eq-eqb, ne_eqb}
use Rattle.std.proofs.lemmas.List.{length-append}
use Rattle.resp_header.specs.declared.fault.Fault.{Fault}
use Rattle.resp_header.specs.declared.fault.Fault.TheVariants.{Protocol}
use Rattle.resp_header.specs.Reading.{Seen, Wants, Bad, Found, MatchSeen, and_then}
use Rattle.resp2.specs.ReplyReading.{as_found, marked, or_else, times}

-- more bytes, and at least one, end a value
pub record EndsIn {X : Type 0} (valid : X → Type 0) (spelled : X → List ℕ) (bytes : List ℕ) : Type 0 where
  pub value : X
  pub more : List ℕ
  pub is_valid : valid value
  pub wanted : 0 < length more
  pub ends : bytes ++ more ≡ spelled value

-- what a reading says of the bytes
abbrev pub Means : {X : Type 0} → (X → Type 0) → (X → List ℕ) → List ℕ → Seen X → Type 0
Means valid spelled bytes seen = MatchSeen seen (EndsIn valid spelled bytes) (λ _. Unit {0}) (λ x rest. valid x × (bytes ≡ spelled x ++ rest))

-- values are found exactly where they are spelled, what wants more can be ended, and what is bad stays so
pub record IsReader {X : Type 0} (valid : X → Type 0) (spelled : X → List ℕ) (read : List ℕ → Seen X) : Type 0 where
  pub means : (bytes : List ℕ) → Means valid spelled bytes (read bytes)
  pub again : (x : X) (rest : List ℕ) → valid x → read (spelled x ++ rest) ≡ Found x rest
  pub stays : (bytes more : List ℕ) (fault : Fault) → read bytes ≡ Bad fault → read (bytes ++ more) ≡ Bad fault

-- what was found is found again with more bytes behind it
pub found_again : {X : Type 0} (valid : X → Type 0) (spelled : X → List ℕ) (read : List ℕ → Seen X) → IsReader valid spelled read
    → (bytes more : List ℕ) (x : X) (rest : List ℕ) → read bytes ≡ Found x rest → read (bytes ++ more) ≡ Found x (rest ++ more)
found_again valid spelled read reader bytes more x rest found =
    let means : valid x × (bytes ≡ spelled x ++ rest) = subst (Means valid spelled bytes) found (reader.means bytes) in
    ap read (ap (λ (w : List ℕ). w ++ more) means.1 ∙ append_assoc (spelled x) rest more) ∙ reader.again x (rest ++ more) means.0

-- ---- another value

as_found_bad : {X Y : Type 0} (f : X → Y) (seen : Seen X) (fault : Fault) → as_found f seen ≡ Bad fault → seen ≡ Bad fault
as_found_bad f Wants fault is = absurd cc
as_found_bad f (Bad other) fault is = let same : other ≡ fault = cc in ap (λ (k : Fault). Bad k) same
as_found_bad f (Found x rest) fault is = absurd cc

module _ {X Y : Type 0} (valid : X → Type 0) (spelled : X → List ℕ) (others : Y → Type 0) (writes : Y → List ℕ) (f : X → Y)
    (same : (x : X) → valid x → writes (f x) ≡ spelled x) (to : (x : X) → valid x → others (f x)) (from : (y : Y) → others y → (x : X) × valid x × (y ≡ f x)) where
  as_found_means : (bytes : List ℕ) (seen : Seen X) → Means valid spelled bytes seen → Means others writes bytes (as_found f seen)
  as_found_means bytes Wants means =
      record { value = f means.value; more = means.more; is_valid = to means.value means.is_valid; wanted = means.wanted; ends = means.ends ∙ sym (same means.value means.is_valid) }
  as_found_means bytes (Bad fault) means = tt
  as_found_means bytes (Found x rest) means = (to x means.0, means.1 ∙ ap (λ (w : List ℕ). w ++ rest) (sym (same x means.0)))

  pub as_reader : (read : List ℕ → Seen X) → IsReader valid spelled read → IsReader others writes (λ bytes. as_found f (read bytes))
  as_reader read reader =
      record {
        means = λ bytes. as_found_means bytes (read bytes) (reader.means bytes);
        again = λ y rest is.
            let x = from y is in
            let text : writes y ≡ spelled x.0 = ap writes x.2 ∙ same x.0 x.1 in
            ap (λ (w : List ℕ). as_found f (read (w ++ rest))) text ∙ ap (as_found f) (reader.again x.0 rest x.1) ∙ ap (λ (z : Y). Found z rest) (sym x.2);
        stays = λ bytes more fault is. ap (as_found f) (reader.stays bytes more fault (as_found_bad f (read bytes) fault is));
      }

-- ---- one value behind another

abbrev pub both : {X Y : Type 0} → Seen X → (X → List ℕ → Seen Y) → Seen (X × Y)
both seen next = and_then seen (λ x rest. as_found (λ y. (x, y)) (next x rest))

module _ {X Y : Type 0} (valid : X → Type 0) (spelled : X → List ℕ) (others : X → Y → Type 0) (writes : X → Y → List ℕ)
    (read : List ℕ → Seen X) (next : X → List ℕ → Seen Y) (reader : IsReader valid spelled read)
    (behind : (x : X) → valid x → IsReader (others x) (writes x) (next x)) (some : (x : X) → valid x → (y : Y) × others x y) where
  abbrev pub BothAre : X × Y → Type 0
  BothAre z = valid z.0 × others z.0 z.1

  abbrev pub both_spelled : X × Y → List ℕ
  both_spelled z = spelled z.0 ++ writes z.0 z.1

  second_means : (x : X) (rest : List ℕ) → valid x → (seen : Seen Y) → Means (others x) (writes x) rest seen
      → Means BothAre both_spelled (spelled x ++ rest) (as_found (λ y. (x, y)) seen)
  second_means x rest is Wants means =
      record {
        value = (x, means.value);
        more = means.more;
        is_valid = (is, means.is_valid);
        wanted = means.wanted;
        ends = append_assoc (spelled x) rest means.more ∙ ap (λ (w : List ℕ). spelled x ++ w) means.ends;
      }
  second_means x rest is (Bad fault) means = tt
  second_means x rest is (Found y last) means =
      ((is, means.0), ap (λ (w : List ℕ). spelled x ++ w) means.1 ∙ sym (append_assoc (spelled x) (writes x y) last))

  both_mean : (bytes : List ℕ) (seen : Seen X) → Means valid spelled bytes seen → Means BothAre both_spelled bytes (both seen next)
  both_mean bytes Wants means =
      let y = some means.value means.is_valid in
      record {
        value = (means.value, y.0);
        more = means.more ++ writes means.value y.0;
        is_valid = (means.is_valid, y.1);
        wanted = let wanted = means.wanted in omega (arith, length-append means.more (writes means.value y.0));
        ends = sym (append_assoc bytes means.more (writes means.value y.0)) ∙ ap (λ (w : List ℕ). w ++ writes means.value y.0) means.ends;
      }
  both_mean bytes (Bad fault) means = tt
  both_mean bytes (Found x rest) means =
      subst (λ (w : List ℕ). Means BothAre both_spelled w (as_found (λ y. (x, y)) (next x rest))) (sym means.1)
      (second_means x rest means.0 (next x rest) ((behind x means.0).means rest))

  both_stay : (bytes more : List ℕ) (fault : Fault) (seen : Seen X) → read bytes ≡ seen → both seen next ≡ Bad fault → both (read (bytes ++ more)) next ≡ Bad fault
  both_stay bytes more fault Wants is bad = absurd cc
  both_stay bytes more fault (Bad other) is bad =
      let same : other ≡ fault = cc in
      ap (λ (u : Seen X). both u next) (reader.stays bytes more other is) ∙ ap (λ (k : Fault). Bad k) same
  both_stay bytes more fault (Found x rest) is bad =
      let means : valid x × (bytes ≡ spelled x ++ rest) = subst (Means valid spelled bytes) is (reader.means bytes) in
      ap (λ (u : Seen X). both u next) (found_again valid spelled read reader bytes more x rest is)
      ∙ ap (as_found (λ y. (x, y))) ((behind x means.0).stays rest more fault (as_found_bad (λ y. (x, y)) (next x rest) fault bad))

  pub both_reader : IsReader BothAre both_spelled (λ bytes. both (read bytes) next)
  both_reader =
      record {
        means = λ bytes. both_mean bytes (read bytes) (reader.means bytes);
        again = λ z rest is.
            ap (λ (w : List ℕ). both (read w) next) (append_assoc (spelled z.0) (writes z.0 z.1) rest)
            ∙ ap (λ (u : Seen X). both u next) (reader.again z.0 (writes z.0 z.1 ++ rest) is.0)
            ∙ ap (as_found (λ y. (z.0, y))) ((behind z.0 is.0).again z.1 rest is.1);
        stays = λ bytes more fault is. both_stay bytes more fault (read bytes) refl is;
      }

-- the same reading in other words
pub same_reading : {X : Type 0} (valid : X → Type 0) (spelled : X → List ℕ) (one other : List ℕ → Seen X) → ((bytes : List ℕ) → one bytes ≡ other bytes)
    → IsReader valid spelled one → IsReader valid spelled other
same_reading {X} valid spelled one other same reader =
    record {
      means = λ bytes. subst (λ (s : Seen X). Means valid spelled bytes s) (same bytes) (reader.means bytes);
      again = λ x rest is. sym (same (spelled x ++ rest)) ∙ reader.again x rest is;
      stays = λ bytes more fault is. sym (same (bytes ++ more)) ∙ reader.stays bytes more fault (same bytes ∙ is);
    }

second_found : {X Y Z : Type 0} (f : X × Y → Z) (x : X) (seen : Seen Y) → as_found f (as_found (λ y. (x, y)) seen) ≡ as_found (λ y. f (x, y)) seen
second_found f x Wants = refl
second_found f x (Bad fault) = refl
second_found f x (Found y rest) = refl

-- a value that is made of both
pub made_of_both : {X Y Z : Type 0} (f : X × Y → Z) (seen : Seen X) (next : X → List ℕ → Seen Y)
    → as_found f (both seen next) ≡ and_then seen (λ x rest. as_found (λ y. f (x, y)) (next x rest))
made_of_both f Wants next = refl
made_of_both f (Bad fault) next = refl
made_of_both f (Found x rest) next = second_found f x (next x rest)

-- ---- one mark or another in front

module _ {X : Type 0} (mark : ℕ) (valid : X → Type 0) (spelled : X → List ℕ) (read : List ℕ → Seen X) (reader : IsReader valid spelled read)
    (some : (x : X) × valid x) where
  abbrev pub marked_spelled : X → List ℕ
  marked_spelled x = mark ∷ spelled x

  behind_mark : (bs : List ℕ) (seen : Seen X) → Means valid spelled bs seen → Means valid marked_spelled (mark ∷ bs) seen
  behind_mark bs Wants means =
      record { value = means.value; more = means.more; is_valid = means.is_valid; wanted = means.wanted; ends = ap (λ (w : List ℕ). mark ∷ w) means.ends }
  behind_mark bs (Bad fault) means = tt
  behind_mark bs (Found x rest) means = (means.0, ap (λ (w : List ℕ). mark ∷ w) means.1)

  marked_means : (bytes : List ℕ) → Means valid marked_spelled bytes (marked mark read bytes)
  marked_means [] = record { value = some.0; more = mark ∷ spelled some.0; is_valid = some.1; wanted = omega arith; ends = refl }
  marked_means (b ∷ bs) =
      elim (b == mark) as (λ t. b == mark ≡ t → Means valid marked_spelled (b ∷ bs) (cond t (read bs) (Bad Protocol))) [
        | true ↦ λ is. subst (λ (c : ℕ). Means valid marked_spelled (c ∷ bs) (read bs)) (sym (eqb-true b mark is)) (behind_mark bs (read bs) (reader.means bs))
        | false ↦ λ is. tt
      ] refl

  marked_stays : (bytes more : List ℕ) (fault : Fault) → marked mark read bytes ≡ Bad fault → marked mark read (bytes ++ more) ≡ Bad fault
  marked_stays [] more fault is = absurd cc
  marked_stays (b ∷ bs) more fault is =
      elim (b == mark) as (λ t. cond t (read bs) (Bad Protocol) ≡ Bad fault → cond t (read (bs ++ more)) (Bad Protocol) ≡ Bad fault) [
        | true ↦ λ bad. reader.stays bs more fault bad
        | false ↦ λ bad. bad
      ] is

  pub marked_reader : IsReader valid marked_spelled (marked mark read)
  marked_reader =
      record {
        means = marked_means;
        again = λ x rest is. rw (eq-eqb mark mark refl) (reader.again x rest is);
        stays = marked_stays;
      }

  -- or another mark, and then another value
  module _ (others : X → Type 0) (all : X → List ℕ) (other : List ℕ → Seen X) (other_reader : IsReader others all other)
      (here : (x : X) → valid x → all x ≡ mark ∷ spelled x) (elsewhere : (x : X) → others x → (first : ℕ) × (tail : List ℕ) × (first ≢ mark) × (all x ≡ first ∷ tail)) where
    abbrev pub OneOf : X → Type 0
    OneOf x = valid x ⊎ others x

    first_means : (bytes : List ℕ) (seen : Seen X) → Means valid marked_spelled bytes seen → Means OneOf all bytes seen
    first_means bytes Wants means =
        record { value = means.value; more = means.more; is_valid = inl means.is_valid; wanted = means.wanted; ends = means.ends ∙ sym (here means.value means.is_valid) }
    first_means bytes (Bad fault) means = tt
    first_means bytes (Found x rest) means = (inl means.0, means.1 ∙ ap (λ (w : List ℕ). w ++ rest) (sym (here x means.0)))

    other_means : (bytes : List ℕ) (seen : Seen X) → Means others all bytes seen → Means OneOf all bytes seen
    other_means bytes Wants means =
        record { value = means.value; more = means.more; is_valid = inr means.is_valid; wanted = means.wanted; ends = means.ends }
    other_means bytes (Bad fault) means = tt
    other_means bytes (Found x rest) means = (inr means.0, means.1)

    one_means : (bytes : List ℕ) → Means OneOf all bytes (or_else mark read other bytes)
    one_means [] = record { value = some.0; more = mark ∷ spelled some.0; is_valid = inl some.1; wanted = omega arith; ends = sym (here some.0 some.1) }
    one_means (b ∷ bs) =
        elim (b == mark) as (λ t. b == mark ≡ t → Means OneOf all (b ∷ bs) (cond t (read bs) (other (b ∷ bs)))) [
          | true ↦ λ is. subst (λ (c : ℕ). Means OneOf all (c ∷ bs) (read bs)) (sym (eqb-true b mark is))
              (first_means (mark ∷ bs) (read bs) (behind_mark bs (read bs) (reader.means bs)))
          | false ↦ λ is. other_means (b ∷ bs) (other (b ∷ bs)) (other_reader.means (b ∷ bs))
        ] refl

    one_stays : (bytes more : List ℕ) (fault : Fault) → or_else mark read other bytes ≡ Bad fault → or_else mark read other (bytes ++ more) ≡ Bad fault
    one_stays [] more fault is = absurd cc
    one_stays (b ∷ bs) more fault is =
        elim (b == mark) as (λ t. cond t (read bs) (other (b ∷ bs)) ≡ Bad fault → cond t (read (bs ++ more)) (other ((b ∷ bs) ++ more)) ≡ Bad fault) [
          | true ↦ λ bad. reader.stays bs more fault bad
          | false ↦ λ bad. other_reader.stays (b ∷ bs) more fault bad
        ] is

    one_again : (x : X) (rest : List ℕ) → OneOf x → or_else mark read other (all x ++ rest) ≡ Found x rest
    one_again x rest (inl is) =
        ap (λ (w : List ℕ). or_else mark read other (w ++ rest)) (here x is) ∙ rw (eq-eqb mark mark refl) (reader.again x rest is)
    one_again x rest (inr is) =
        let first = elsewhere x is in
        ap (λ (w : List ℕ). or_else mark read other (w ++ rest)) first.3
        ∙ rw (ne_eqb first.0 mark first.2) (ap (λ (w : List ℕ). other (w ++ rest)) (sym first.3) ∙ other_reader.again x rest is)

    pub one_reader : IsReader OneOf all (or_else mark read other)
    one_reader = record { means = one_means; again = one_again; stays = one_stays }

-- ---- so many values

abbrev pub AreSoMany : {X : Type 0} → (X → Type 0) → ℕ → List X → Type 0
AreSoMany valid count xs = (length xs ≡ count) × AllByRecursion valid xs

none_reader : {X : Type 0} (valid : X → Type 0) (spelled : X → List ℕ) (read : List ℕ → Seen X) → IsReader (AreSoMany valid 0) (flat_map spelled) (times read 0)
none_reader {X} valid spelled read =
    record {
      means = λ bytes. ((refl, tt), refl);
      again = again;
      stays = λ bytes more fault is. absurd cc;
    }
  where
    again : (xs : List X) (rest : List ℕ) → AreSoMany valid 0 xs → times read 0 (flat_map spelled xs ++ rest) ≡ Found xs rest
    again [] rest are = refl
    again (x ∷ xs) rest are = absurd (let none = are.0 in omega (arith, none))

module _ {X : Type 0} (valid : X → Type 0) (spelled : X → List ℕ) (read : List ℕ → Seen X) (reader : IsReader valid spelled read) (some : (x : X) × valid x) where
  abbrev added : X × List X → List X
  added z = z.0 ∷ z.1

  so_many : (count : ℕ) → (xs : List X) × AreSoMany valid count xs
  so_many zero = ([], (refl, tt))
  so_many (suc count) = let others = so_many count in (some.0 ∷ others.0, ((let len = others.1.0 in omega (arith, len)), (some.1, others.1.1)))

  taken_apart : (count : ℕ) (xs : List X) → AreSoMany valid (suc count) xs
      → (z : X × List X) × (valid z.0 × AreSoMany valid count z.1) × (xs ≡ added z)
  taken_apart count [] are = absurd (let len = are.0 in omega (arith, len))
  taken_apart count (x ∷ xs) are = ((x, xs), (are.1.0, ((let len = are.0 in omega (arith, len)), are.1.1)), refl)

  pub times_reader : (count : ℕ) → IsReader (AreSoMany valid count) (flat_map spelled) (times read count)
  times_reader zero = none_reader valid spelled read
  times_reader (suc count) =
      let two = both_reader valid spelled (λ x. AreSoMany valid count) (λ x. flat_map spelled) read (λ x. times read count) reader
      (λ x is. times_reader count) (λ x is. so_many count) in
      let all = as_reader (λ z. valid z.0 × AreSoMany valid count z.1) (λ z. spelled z.0 ++ flat_map spelled z.1) (AreSoMany valid (suc count)) (flat_map spelled) added
      (λ z is. refl) (λ z is. ((let len = is.1.0 in omega (arith, len)), (is.0, is.1.1))) (taken_apart count) (λ bytes. both (read bytes) (λ x. times read count)) two in
      record {
        means = λ bytes. subst (λ (s : Seen (List X)). Means (AreSoMany valid (suc count)) (flat_map spelled) bytes s) (one_more (read bytes) count) (all.means bytes);
        again = λ xs rest are. sym (one_more (read (flat_map spelled xs ++ rest)) count) ∙ all.again xs rest are;
        stays = λ bytes more fault is. sym (one_more (read (bytes ++ more)) count) ∙ all.stays bytes more fault (one_more (read bytes) count ∙ is);
      }
    where
      joined : (x : X) (seen : Seen (List X)) → as_found added (as_found (λ y. (x, y)) seen) ≡ as_found (λ xs. x ∷ xs) seen
      joined x Wants = refl
      joined x (Bad fault) = refl
      joined x (Found xs rest) = refl

      one_more : (seen : Seen X) (count : ℕ) → as_found added (both seen (λ x. times read count)) ≡ and_then seen (λ x rest. as_found (λ xs. x ∷ xs) (times read count rest))
      one_more Wants count = refl
      one_more (Bad fault) count = refl
      one_more (Found x rest) count = joined x (times read count rest)

-- ---- what a reading decides

-- more bytes may make a list of values of these bytes
pub record IsBeginningOf {X : Type 0} (valid : X → Type 0) (spelled : X → List ℕ) (bytes : List ℕ) : Type 0 where
  pub values : List X
  pub rest : List ℕ
  pub each : AllByRecursion valid values
  pub ends : bytes ++ rest ≡ flat_map spelled values

module _ {X : Type 0} (valid : X → Type 0) (spelled : X → List ℕ) (read : List ℕ → Seen X) (reader : IsReader valid spelled read) where
  -- no spelling begins another
  pub one_way : (x y : X) (rest more : List ℕ) → valid x → valid y → spelled x ++ rest ≡ spelled y ++ more → (x ≡ y) × (rest ≡ more)
  one_way x y rest more is also same =
      let found : Found x rest ≡ Found y more = sym (reader.again x rest is) ∙ ap read same ∙ reader.again y more also in
      let value : x ≡ y = cc in
      let left : rest ≡ more = cc in
      (value, left)

  -- what wants more is a beginning
  pub waiting_begins : (bytes : List ℕ) → read bytes ≡ Wants → IsBeginningOf valid spelled bytes
  waiting_begins bytes is =
      let means : EndsIn valid spelled bytes = subst (Means valid spelled bytes) is (reader.means bytes) in
      record { values = means.value ∷ []; rest = means.more; each = (means.is_valid, tt); ends = means.ends ∙ sym (append-nil (spelled means.value)) }

  no_bytes : (bytes rest : List ℕ) → bytes ++ rest ≡ [] → bytes ≡ []
  no_bytes [] rest is = refl
  no_bytes (b ∷ bs) rest is = absurd cc

  -- and what is bad is none
  pub bad_begins_nothing : (x : X) → valid x → (bytes : List ℕ) (fault : Fault) → read bytes ≡ Bad fault → ¬ IsBeginningOf valid spelled bytes
  bad_begins_nothing x is bytes fault bad begins = by_values begins.values begins.each begins.ends
    where
      bad_before : (y : X) (others : List ℕ) → valid y → bytes ++ begins.rest ≡ spelled y ++ others → ⊥
      bad_before y others valid_y same =
          let found : Bad fault ≡ Found y others = sym (reader.stays bytes begins.rest fault bad) ∙ ap read same ∙ reader.again y others valid_y in
          absurd cc

      by_values : (values : List X) → AllByRecursion valid values → bytes ++ begins.rest ≡ flat_map spelled values → ⊥
      by_values [] each same =
          let nothing = no_bytes bytes begins.rest same in
          let found : Bad fault ≡ Found x [] =
          sym (reader.stays [] (spelled x ++ []) fault (ap read (sym nothing) ∙ bad)) ∙ reader.again x [] is in
          absurd cc
      by_values (y ∷ values) each same = bad_before y (flat_map spelled values) each.0 same

-- What is spelled is read, or is bad where a number passes its bounds.
use Rattle.std.proofs.Common.{◌≡◌, ℕ, zero, suc, ◌+◌, ◌-◌, ◌*◌, ◌/◌, ◌%◌, ◌^◌, ◌<◌, ◌≤◌, ◌⊎◌, inl, inr, false, cond, ltb, eqb, List, [], ◌∷◌, ◌++◌, length, refl, sym, ap, subst, ◌∙◌, append_assoc, arith}
use Rattle.std.proofs.Math.Nat.{pow-succ', mul-le-mul_right}
use Rattle.std.specs.Fmt.{digits, digits_onto, digit_glyph, decimal}
use Rattle.std.proofs.lemmas.Bool.{ltb-false, lt-ltb, le-ltb, ne_eqb, eq-eqb, cases_lt}
use Rattle.std.proofs.lemmas.Fmt.{decimal_by_steps_wide}
use Rattle.std.proofs.lemmas.List.{length-append, append-nil}
use Rattle.resp_header.specs.declared.fault.Fault.{Fault}
use Rattle.resp_header.specs.declared.fault.Fault.TheVariants.{Protocol}
use Rattle.resp2.proofs.HeaderReading.{by_test}
use Rattle.resp_header.specs.Reading.{Seen, Wants, Bad, Found, MatchSeen, digits_at, number_at, header_at, header_onto}

-- it is bad
abbrev pub IsBad : {X : Type 0} → Seen X → Type 0
IsBad seen = MatchSeen seen ⊥ (λ _. Unit {0}) (λ _ _. ⊥)

bad_is : {X : Type 0} (s : Seen X) (fault : Fault) → s ≡ Bad fault → IsBad s
bad_is {X} s fault e = subst (λ (u : Seen X). IsBad u) (sym e) tt

-- one more digit behind others
digit_step : (above : Fault) (most n d : ℕ) (tail : List ℕ) → 0 < n → d < 10
    → digits_at above most n ((48 + d) ∷ tail) ≡ cond (ltb most (10 * n + d)) (Bad above) (digits_at above most (10 * n + d) tail)
digit_step above most n d tail some digit =
    let cr : eqb (48 + d) 13 ≡ false = ne_eqb (48 + d) 13 (λ e. omega arith) in
    let zero_is : eqb n 0 ≡ false = ne_eqb n 0 (λ e. omega arith) in
    let from : ltb (48 + d) 48 ≡ false = le-ltb (48 + d) 48 (omega arith) in
    let to : ltb 57 (48 + d) ≡ false = le-ltb 57 (48 + d) (omega arith) in
    let value : 48 + d - 48 ≡ d = omega arith in
    rw (cr, zero_is, from, to, value) refl

first_step : (above : Fault) (least most d : ℕ) (tail : List ℕ) → d < 10
    → number_at above least most ((48 + d) ∷ tail) ≡ cond (ltb d least) (Bad Protocol) (cond (ltb most d) (Bad above) (digits_at above most d tail))
first_step above least most d tail digit =
    let from : ltb (48 + d) 48 ≡ false = le-ltb (48 + d) 48 (omega arith) in
    let to : ltb 57 (48 + d) ≡ false = le-ltb 57 (48 + d) (omega arith) in
    let value : 48 + d - 48 ≡ d = omega arith in
    rw (from, to, value) refl

-- digits are read as their number within the bounds, and are bad past them
record Reads (above : Fault) (least most n : ℕ) (ds : List ℕ) : Type 0 where
  within : (tail : List ℕ) → least ≤ n → n ≤ most → number_at above least most (ds ++ tail) ≡ digits_at above most n tail
  past : (tail : List ℕ) → (n < least) ⊎ (most < n) → IsBad (number_at above least most (ds ++ tail))

reads_one : (above : Fault) (least most n : ℕ) → n < 10 → Reads above least most n ((48 + n) ∷ [])
reads_one above least most n digit = record {
  within = λ tail low high. first_step above least most n tail digit ∙ rw (le-ltb n least low, le-ltb most n high) refl;
  past = λ tail out. elim out [
    | inl below ↦ bad_is (number_at above least most ((48 + n) ∷ tail)) Protocol (first_step above least most n tail digit ∙ rw (lt-ltb n least below) refl)
    | inr over ↦ elim (cases_lt n least) [
      | inl below ↦ bad_is (number_at above least most ((48 + n) ∷ tail)) Protocol (first_step above least most n tail digit ∙ rw (lt-ltb n least below) refl)
      | inr low ↦ bad_is (number_at above least most ((48 + n) ∷ tail)) above (first_step above least most n tail digit ∙ rw (le-ltb n least low, lt-ltb most n over) refl)
    ]
  ];
}

reads_more : (above : Fault) (least most n : ℕ) (ds : List ℕ) → least ≤ 1 → 10 ≤ n → Reads above least most (n / 10) ds → Reads above least most n (ds ++ ((48 + n % 10) ∷ []))
reads_more above least most n ds small large front =
    let digit : n % 10 < 10 = omega arith in
    let value : 10 * (n / 10) + n % 10 ≡ n = omega arith in
    let some : 0 < n / 10 = omega arith in
    let low : least ≤ n / 10 = omega arith in
    let step : (tail : List ℕ) → n / 10 ≤ most → number_at above least most ((ds ++ ((48 + n % 10) ∷ [])) ++ tail) ≡ cond (ltb most n) (Bad above) (digits_at above most n tail) =
    λ tail high. ap (number_at above least most) (append_assoc ds ((48 + n % 10) ∷ []) tail)
    ∙ front.within ((48 + n % 10) ∷ tail) low high
    ∙ digit_step above most (n / 10) (n % 10) tail some digit
    ∙ ap (λ (v : ℕ). cond (ltb most v) (Bad above) (digits_at above most v tail)) value in
    record {
      within = λ tail _ high. step tail (omega arith) ∙ rw (le-ltb most n high) refl;
      past = λ tail out. elim out [
        | inl below ↦ absurd (omega arith)
        | inr over ↦ elim (cases_lt most (n / 10)) [
          | inl before ↦ subst (λ (t : List ℕ). IsBad (number_at above least most t)) (sym (append_assoc ds ((48 + n % 10) ∷ []) tail)) (front.past ((48 + n % 10) ∷ tail) (inr before))
          | inr high ↦ bad_is _ above (step tail high ∙ rw (lt-ltb most n over) refl)
        ]
      ];
    }

reads_decimal : (above : Fault) (least most n : ℕ) → least ≤ 1 → n < 10 ^ 64 → Reads above least most n (decimal n)
reads_decimal above least most n small fits =
    decimal_by_steps_wide (Reads above least most) (reads_one above least most) (λ m ds large front. reads_more above least most m ds small large front) n fits

-- ---- numbers past what `decimal` writes whole: 64 digits, and so past any bound

-- each byte is a digit
abbrev AreDigits : List ℕ → Type 0
AreDigits [] = Unit {0}
AreDigits (b ∷ bs) = (d : ℕ) × (d < 10) × (b ≡ 48 + d) × AreDigits bs

AreDigits-append : (xs ys : List ℕ) → AreDigits xs → AreDigits ys → AreDigits (xs ++ ys)
AreDigits-append [] ys p q = q
AreDigits-append (x ∷ xs) ys p q = (p.0, p.1, p.2, AreDigits-append xs ys p.3 q)

-- with too little room for all digits, the last k are written
record Fills (k n : ℕ) (acc : List ℕ) : Type 0 where
  digits : List ℕ
  len : length digits ≡ k
  all : AreDigits digits
  spelled : digits_onto k 10 false n acc ≡ digits ++ acc

glyph_is : (n : ℕ) → digit_glyph false (n % 10) ≡ 48 + n % 10
glyph_is n = rw (lt-ltb (n % 10) 10 (omega arith)) refl

fills : (k n : ℕ) (acc : List ℕ) → 10 ^ k ≤ n → Fills k n acc
fills zero n acc large = record { digits = []; len = refl; all = tt; spelled = refl }
fills (suc k) n acc large =
    let power : 10 ^ suc k ≡ 10 * 10 ^ k = pow-succ' 10 k in
    let some : 0 < 10 ^ k = pow_some k in
    let front : 10 ^ k ≤ n / 10 = omega arith in
    let more : eqb (n / 10) 0 ≡ false = ne_eqb (n / 10) 0 (λ e. omega arith) in
    let ih = fills k (n / 10) ((48 + n % 10) ∷ acc) front in
    record {
      digits = ih.digits ++ ((48 + n % 10) ∷ []);
      len = length-append ih.digits ((48 + n % 10) ∷ []) ∙ omega (arith, ih.len);
      all = AreDigits-append ih.digits ((48 + n % 10) ∷ []) ih.all (n % 10, omega arith, refl, tt);
      spelled = rw (more, glyph_is n) (ih.spelled ∙ sym (append_assoc ih.digits ((48 + n % 10) ∷ []) acc));
    }
  where
    pow_some : (k : ℕ) → 0 < 10 ^ k
    pow_some zero = omega arith
    pow_some (suc k) = let ih = pow_some k in rw (pow-succ' 10 k) (omega arith)

-- so many digits behind a number pass its bound
digits_pass : (above : Fault) (most n : ℕ) (ds tail : List ℕ) → 0 < n → n ≤ most → AreDigits ds → most < n * 10 ^ length ds → IsBad (digits_at above most n (ds ++ tail))
digits_pass above most n [] tail some high all past = absurd (omega arith)
digits_pass above most n (b ∷ bs) tail some high all past =
    let d = all.0 in
    let step = digit_step above most n d (bs ++ tail) some all.1 in
    subst (λ (c : ℕ). IsBad (digits_at above most n (c ∷ (bs ++ tail)))) (sym all.2)
    (elim (cases_lt most (10 * n + d)) [
      | inl over ↦ bad_is _ above (step ∙ rw (lt-ltb most (10 * n + d) over) refl)
      | inr fits ↦
          subst (λ (u : Seen ℕ). IsBad u) (sym (step ∙ rw (le-ltb most (10 * n + d) fits) refl))
          (digits_pass above most (10 * n + d) bs tail (omega arith) fits all.3
          (let power : 10 ^ suc (length bs) ≡ 10 * 10 ^ length bs = pow-succ' 10 (length bs) in
          let before : most < n * (10 * 10 ^ length bs) = subst (λ (p : ℕ). most < n * p) power past in
          let grown : (10 * n) * 10 ^ length bs ≤ (10 * n + d) * 10 ^ length bs = mul-le-mul_right (10 ^ length bs) (omega arith) in
          omega (arith, before, grown)))
    ])

-- 64 digits are bad, whatever they write
long_digits : (above : Fault) (least most : ℕ) (ds tail : List ℕ) → most < 10 ^ 62 → AreDigits ds → length ds ≡ 64 → IsBad (number_at above least most (ds ++ tail))
long_digits above least most [] tail small all len = absurd (omega arith)
long_digits above least most (b ∷ []) tail small all len = absurd (omega arith)
long_digits above least most (b ∷ c ∷ ds) tail small all len =
    let first = all.0 in
    let second = all.3.0 in
    let step = first_step above least most first ((48 + second) ∷ (ds ++ tail)) all.1 in
    let seen : Seen ℕ = digits_at above most first ((48 + second) ∷ (ds ++ tail)) in
    subst (λ (x : ℕ). IsBad (number_at above least most (x ∷ c ∷ (ds ++ tail)))) (sym all.2)
    (subst (λ (y : ℕ). IsBad (number_at above least most ((48 + first) ∷ y ∷ (ds ++ tail)))) (sym all.3.2)
    (subst (λ (u : Seen ℕ). IsBad u) (sym step)
    (by_test (λ (u : Seen ℕ). IsBad u) (ltb first least) (Bad Protocol) _ (λ _. tt)
    (λ _. by_test (λ (u : Seen ℕ). IsBad u) (ltb most first) (Bad above) _ (λ _. tt)
    (λ within. behind first second ds tail all.3.1 all.3.3 (omega arith) (ltb-false _ _ within))))))
  where
    behind : (first second : ℕ) (ds tail : List ℕ) → second < 10 → AreDigits ds → length ds ≡ 62 → first ≤ most → IsBad (digits_at above most first ((48 + second) ∷ (ds ++ tail)))
    behind zero second ds tail digit all len within =
        bad_is _ Protocol (rw (ne_eqb (48 + second) 13 (λ e. omega arith)) refl)
    behind (suc first) second ds tail digit all len within =
        let step = digit_step above most (suc first) second (ds ++ tail) (omega arith) digit in
        subst (λ (u : Seen ℕ). IsBad u) (sym step)
        (by_test (λ (u : Seen ℕ). IsBad u) (ltb most (10 * suc first + second)) (Bad above) _ (λ _. tt)
        (λ fits. digits_pass above most (10 * suc first + second) ds tail (omega arith) (ltb-false _ _ fits) all
        (rw len (omega (arith, mul-le-mul_right {m = 1} {n = 10 * suc first + second} (10 ^ 62) (omega arith))))))

decimal_is : (n k : ℕ) → k ≡ 64 → digits_onto k 10 false n [] ≡ decimal n
unfolding digits
decimal_is n k e = ap (λ (j : ℕ). digits_onto j 10 false n []) e

large_is_bad : (above : Fault) (least most n : ℕ) (tail : List ℕ) → most < 10 ^ 62 → 10 ^ 64 ≤ n → IsBad (number_at above least most (decimal n ++ tail))
large_is_bad above least most n tail small large = at_width 64 refl
  where
    at_width : (k : ℕ) → k ≡ 64 → IsBad (number_at above least most (decimal n ++ tail))
    at_width k e =
        let f = fills k n [] (rw e large) in
        let text : f.digits ≡ decimal n = sym (append-nil f.digits) ∙ sym f.spelled ∙ decimal_is n k e in
        subst (λ (t : List ℕ). IsBad (number_at above least most (t ++ tail))) text (long_digits above least most f.digits tail small f.all (f.len ∙ e))

-- ---- headers

pub header_again : (mark : ℕ) (above : Fault) (least most n : ℕ) (rest : List ℕ) → least ≤ 1 → n < 2 ^ 64 → least ≤ n → n ≤ most
    → header_at mark above least most (header_onto mark n rest) ≡ Found n rest
header_again mark above least most n rest small fits low high =
    let reads = reads_decimal above least most n small (omega arith) in
    rw (eq-eqb mark mark refl, reads.within (13 ∷ 10 ∷ rest) low high) refl

-- it is bad, or this number is found and this is left
abbrev Decides : ℕ → List ℕ → Seen ℕ → Type 0
Decides n rest seen = MatchSeen seen ⊥ (λ _. Unit {0}) (λ m last. (m ≡ n) × (last ≡ rest))

bad_decides : (n : ℕ) (rest : List ℕ) (s : Seen ℕ) → IsBad s → Decides n rest s
bad_decides n rest Wants h = h
bad_decides n rest (Bad fault) h = tt
bad_decides n rest (Found m last) h = absurd h

number_decides : (above : Fault) (least most n : ℕ) (rest : List ℕ) → least ≤ 1 → n < 10 ^ 64 → Decides n rest (number_at above least most (decimal n ++ (13 ∷ 10 ∷ rest)))
number_decides above least most n rest small fits =
    let reads = reads_decimal above least most n small fits in
    elim (cases_lt n least) [
      | inl below ↦ bad_decides n rest _ (reads.past (13 ∷ 10 ∷ rest) (inl below))
      | inr low ↦ elim (cases_lt most n) [
        | inl over ↦ bad_decides n rest _ (reads.past (13 ∷ 10 ∷ rest) (inr over))
        | inr high ↦ subst (Decides n rest) (sym (reads.within (13 ∷ 10 ∷ rest) low high)) (refl, refl)
      ]
    ]

-- the bytes that spell a header decide, and find nothing else
pub header_decides : (mark : ℕ) (above : Fault) (least most n : ℕ) (rest : List ℕ) → least ≤ 1 → most < 10 ^ 62
    → MatchSeen (header_at mark above least most (header_onto mark n rest)) ⊥ (λ _. Unit {0}) (λ m last. (m ≡ n) × (last ≡ rest))
header_decides mark above least most n rest small bound =
    rw (eq-eqb mark mark refl)
    (elim (cases_lt n (10 ^ 64)) [
      | inl fits ↦ number_decides above least most n rest small fits
      | inr large ↦ bad_decides n rest _ (large_is_bad above least most n (13 ∷ 10 ∷ rest) bound large)
    ])

-- a number above the bound is bad, whatever follows its digits
pub header_passes : (mark : ℕ) (above : Fault) (least most n : ℕ) (rest : List ℕ) → least ≤ 1 → most < 10 ^ 62 → most < n
    → IsBad (header_at mark above least most (mark ∷ (decimal n ++ rest)))
header_passes mark above least most n rest small bound over =
    rw (eq-eqb mark mark refl)
    (elim (cases_lt n (10 ^ 64)) [
      | inl fits ↦ (reads_decimal above least most n small fits).past rest (inr over)
      | inr large ↦ large_is_bad above least most n rest bound large
    ])

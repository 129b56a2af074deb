-- What a header that is read says of the bytes, and that a header that is spelled is read.
use Rattle.std.proofs.Common.{◌≡◌, ℕ, ◌+◌, ◌-◌, ◌*◌, ◌/◌, ◌%◌, ◌^◌, ◌<◌, ◌≤◌, Bool, true, false, cond, ltb, eqb, ◌||◌, List, [], ◌∷◌, ◌++◌, length, refl, sym, ap, subst, ◌∙◌, append_assoc, arith}
use Rattle.std.specs.Prelude.{decimal, drop, Option, Some, Ok}
use Rattle.std.proofs.lemmas.Bool.{ltb-true, ltb-false, eqb-true, eqb-false}
use Rattle.std.proofs.lemmas.Fmt.{decimal_step_wide, decimal_digit}
use Rattle.std.proofs.lemmas.List.{append-nil}
use Rattle.resp_header.specs.declared.fault.Fault.{Fault}
use Rattle.resp_header.specs.declared.fault.Fault.TheVariants.{Protocol, TooLong}
use Rattle.resp_header.specs.declared.header.Header.{Header}
use Rattle.resp_header.specs.Header.{Gives}
use Rattle.resp_header.specs.Reading.{Seen, Wants, Bad, Found, MatchSeen, after_cr, digits_at, number_at, header_at, header_onto}

-- by cases on a test, with what it tells
pub by_test : {A : Type 0} (P : A → Type 0) (t : Bool) (x y : A) → (t ≡ true → P x) → (t ≡ false → P y) → P (cond t x y)
by_test P true x y on_true on_false = on_true refl
by_test P false x y on_true on_false = on_false refl

-- both parts of a test failed
pub or_parts : (x y : Bool) → (x || y) ≡ false → (x ≡ false) × (y ≡ false)
or_parts true y e = absurd cc
or_parts false y e = (refl, e)

-- one more digit
pub decimal_more : (n d : ℕ) → 0 < n → d < 10 → 10 * n + d < 10 ^ 64 → decimal (10 * n + d) ≡ decimal n ++ ((48 + d) ∷ [])
decimal_more n d some digit fits =
    let front : (10 * n + d) / 10 ≡ n = omega arith in
    let last : (10 * n + d) % 10 ≡ d = omega arith in
    decimal_step_wide (10 * n + d) (omega arith) fits ∙ rw (front, last) refl

-- more bytes end the text in a number within its bounds
pub record CanEnd (least most : ℕ) (text : List ℕ) : Type 0 where
  pub number : ℕ
  pub more : List ℕ
  pub low : least ≤ number
  pub high : number ≤ most
  pub wanted : 0 < length more
  pub spelled : text ++ more ≡ decimal number ++ (13 ∷ 10 ∷ [])

-- the text begins with a number above its bound, by one digit
pub record Passes (most : ℕ) (text : List ℕ) : Type 0 where
  pub number : ℕ
  pub rest : List ℕ
  pub above : most < number
  pub near : number ≤ 10 * most + 9
  pub spelled : text ≡ decimal number ++ rest

-- the text begins with this number and the end of its line
pub record Spells (least most : ℕ) (text : List ℕ) (number : ℕ) (rest : List ℕ) : Type 0 where
  pub low : least ≤ number
  pub high : number ≤ most
  pub spelled : text ≡ decimal number ++ (13 ∷ 10 ∷ rest)

abbrev pub NumberMeans : Fault → ℕ → ℕ → List ℕ → Seen ℕ → Type 0
NumberMeans above least most text seen =
    MatchSeen seen (CanEnd least most text) (λ fault. fault ≡ TooLong → (above ≡ TooLong) × Passes most text) (λ n rest. Spells least most text n rest)

after_cr_means : (above : Fault) (least most n : ℕ) (bs : List ℕ) → least ≤ n → n ≤ most → NumberMeans above least most (decimal n ++ (13 ∷ bs)) (after_cr n bs)
after_cr_means above least most n [] low high =
    record { number = n; more = 10 ∷ []; low = low; high = high; wanted = omega arith; spelled = append_assoc (decimal n) (13 ∷ []) (10 ∷ []) }
after_cr_means above least most n (b ∷ bs) low high =
    by_test (NumberMeans above least most (decimal n ++ (13 ∷ b ∷ bs))) (eqb b 10) (Found n bs) (Bad Protocol)
    (λ e. record { low = low; high = high; spelled = ap (λ (c : ℕ). decimal n ++ (13 ∷ c ∷ bs)) (eqb-true b 10 e) })
    (λ e p. absurd cc)

digits_mean : (above : Fault) (least most n : ℕ) (bs : List ℕ) → most < 10 ^ 62 → least ≤ n → n ≤ most → NumberMeans above least most (decimal n ++ bs) (digits_at above most n bs)
digits_mean above least most n [] small low high =
    record { number = n; more = 13 ∷ 10 ∷ []; low = low; high = high; wanted = omega arith; spelled = ap (λ (t : List ℕ). t ++ (13 ∷ 10 ∷ [])) (append-nil (decimal n)) }
digits_mean above least most n (b ∷ bs) small low high =
    by_test (NumberMeans above least most (decimal n ++ (b ∷ bs))) (eqb b 13) (after_cr n bs) _
    (λ e. subst (λ (c : ℕ). NumberMeans above least most (decimal n ++ (c ∷ bs)) (after_cr n bs)) (sym (eqb-true b 13 e)) (after_cr_means above least most n bs low high))
    (λ _. by_test (NumberMeans above least most (decimal n ++ (b ∷ bs))) (eqb n 0 || (ltb b 48 || ltb 57 b)) (Bad Protocol) _
    (λ _ p. absurd cc)
    (λ digit.
    let parts = or_parts (eqb n 0) (ltb b 48 || ltb 57 b) digit in
    let range = or_parts (ltb b 48) (ltb 57 b) parts.1 in
    let from : 48 ≤ b = ltb-false b 48 range.0 in
    let to : b ≤ 57 = ltb-false 57 b range.1 in
    let zero_is : n ≡ 0 → ⊥ = eqb-false n 0 parts.0 in
    let some : 0 < n = omega arith in
    let glyph : 48 + (b - 48) ≡ b = omega arith in
    let next : decimal (10 * n + (b - 48)) ≡ decimal n ++ (b ∷ []) = decimal_more n (b - 48) some (omega arith) (omega arith) ∙ ap (λ (c : ℕ). decimal n ++ (c ∷ [])) glyph in
    let text : decimal (10 * n + (b - 48)) ++ bs ≡ decimal n ++ (b ∷ bs) = ap (λ (t : List ℕ). t ++ bs) next ∙ append_assoc (decimal n) (b ∷ []) bs in
    by_test (NumberMeans above least most (decimal n ++ (b ∷ bs))) (ltb most (10 * n + (b - 48))) (Bad above) (digits_at above most (10 * n + (b - 48)) bs)
    (λ over p. (p, record { number = 10 * n + (b - 48); rest = bs; above = ltb-true _ _ over; near = omega arith; spelled = sym text }))
    (λ within.
    let fits : 10 * n + (b - 48) ≤ most = ltb-false _ _ within in
    subst (λ (t : List ℕ). NumberMeans above least most t (digits_at above most (10 * n + (b - 48)) bs)) text
    (digits_mean above least most (10 * n + (b - 48)) bs small (omega arith) fits))))

pub number_means : (above : Fault) (least most : ℕ) (bs : List ℕ) → 0 < most → least ≤ 1 → most < 10 ^ 62 → NumberMeans above least most bs (number_at above least most bs)
number_means above least most [] some small bound =
    record { number = 1; more = decimal 1 ++ (13 ∷ 10 ∷ []); low = small; high = some; wanted = rw (decimal_digit 1 (omega arith)) (omega arith); spelled = refl }
number_means above least most (b ∷ bs) some small bound =
    by_test (NumberMeans above least most (b ∷ bs)) (ltb b 48 || ltb 57 b) (Bad Protocol) _
    (λ _ p. absurd cc)
    (λ digit.
    let range = or_parts (ltb b 48) (ltb 57 b) digit in
    let from : 48 ≤ b = ltb-false b 48 range.0 in
    let to : b ≤ 57 = ltb-false 57 b range.1 in
    let glyph : 48 + (b - 48) ≡ b = omega arith in
    let first : decimal (b - 48) ≡ b ∷ [] = decimal_digit (b - 48) (omega arith) ∙ ap (λ (c : ℕ). c ∷ []) glyph in
    let text : decimal (b - 48) ++ bs ≡ b ∷ bs = ap (λ (t : List ℕ). t ++ bs) first in
    by_test (NumberMeans above least most (b ∷ bs)) (ltb (b - 48) least) (Bad Protocol) _
    (λ _ p. absurd cc)
    (λ low.
    by_test (NumberMeans above least most (b ∷ bs)) (ltb most (b - 48)) (Bad above) (digits_at above most (b - 48) bs)
    (λ over p. (p, record { number = b - 48; rest = bs; above = ltb-true _ _ over; near = omega arith; spelled = sym text }))
    (λ within.
    subst (λ (t : List ℕ). NumberMeans above least most t (digits_at above most (b - 48) bs)) text
    (digits_mean above least most (b - 48) bs bound (ltb-false _ _ low) (ltb-false _ _ within)))))

-- what a header that is read says of the bytes
abbrev pub HeaderMeans : ℕ → Fault → ℕ → ℕ → List ℕ → Seen ℕ → Type 0
HeaderMeans mark above least most bytes seen =
    MatchSeen seen
    ((number : ℕ) × (more : List ℕ) × (least ≤ number) × (number ≤ most) × (0 < length more) × (bytes ++ more ≡ header_onto mark number []))
    (λ fault. fault ≡ TooLong → (above ≡ TooLong) × (number : ℕ) × (rest : List ℕ) × (most < number) × (number ≤ 10 * most + 9) × (bytes ≡ mark ∷ (decimal number ++ rest)))
    (λ n rest. (least ≤ n) × (n ≤ most) × (bytes ≡ header_onto mark n rest))

number_behind : (mark : ℕ) (above : Fault) (least most : ℕ) (bs : List ℕ) (seen : Seen ℕ) → NumberMeans above least most bs seen → HeaderMeans mark above least most (mark ∷ bs) seen
number_behind mark above least most bs Wants m = (m.number, m.more, m.low, m.high, m.wanted, ap (λ (t : List ℕ). mark ∷ t) m.spelled)
number_behind mark above least most bs (Bad fault) m = λ p. ((m p).0, (m p).1.number, (m p).1.rest, (m p).1.above, (m p).1.near, ap (λ (t : List ℕ). mark ∷ t) (m p).1.spelled)
number_behind mark above least most bs (Found n rest) m = (m.low, m.high, ap (λ (t : List ℕ). mark ∷ t) m.spelled)

pub header_means : (mark : ℕ) (above : Fault) (least most : ℕ) (bytes : List ℕ) → 0 < most → least ≤ 1 → most < 2 ^ 64
    → HeaderMeans mark above least most bytes (header_at mark above least most bytes)
header_means mark above least most [] some small bound = (1, header_onto mark 1 [], small, some, omega arith, refl)
header_means mark above least most (b ∷ bs) some small bound =
    by_test (HeaderMeans mark above least most (b ∷ bs)) (eqb b mark) (number_at above least most bs) (Bad Protocol)
    (λ e. subst (λ (c : ℕ). HeaderMeans mark above least most (c ∷ bs) (number_at above least most bs)) (sym (eqb-true b mark e))
    (number_behind mark above least most bs (number_at above least most bs) (number_means above least most bs some small (omega arith))))
    (λ _ p. absurd cc)

pub header_takes : (mark : ℕ) (above : Fault) (least most n : ℕ) (bytes rest : List ℕ) → 0 < most → least ≤ 1 → most < 2 ^ 64
    → header_at mark above least most bytes ≡ Found n rest → (least ≤ n) × (n ≤ most) × (bytes ≡ header_onto mark n rest)
header_takes mark above least most n bytes rest some small bound e =
    subst (HeaderMeans mark above least most bytes) e (header_means mark above least most bytes some small bound)

-- a header, once it is read
pub header_is : (mark : ℕ) (above : Fault) (least most : ℕ) (bytes input : List ℕ) (found : Option Header) (header : Header) → 0 < most → least ≤ 1 → most < 2 ^ 64
    → bytes ≡ input → Gives bytes (Ok found) (header_at mark above least most bytes) → found ≡ Some header
    → (least ≤ header.number) × (header.number ≤ most) × (input ≡ header_onto mark header.number (drop header.len input))
header_is mark above least most bytes input found header some small bound same gives is =
    let at : List ℕ → Type 0 = λ t. t ≡ header_onto mark header.number (drop header.len t) in
    let read = subst (λ (o : Option Header). Gives bytes (Ok o) (header_at mark above least most bytes)) is gives in
    let takes = header_takes mark above least most header.number bytes (drop header.len bytes) some small bound read.0 in
    (takes.0, takes.1, subst at same takes.2)

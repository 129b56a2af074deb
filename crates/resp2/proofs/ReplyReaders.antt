-- Replies are found where they are spelled, and nowhere else.
use Rattle.std.proofs.Common.{◌≡◌, ◌≢◌, ◌⊎◌, inl, inr, ℕ, ℤ, pos, negsuc, zero, suc, ◌+◌, ◌-◌, ◌%◌, ◌^◌, ◌<◌, ◌≤◌, ◌==◌, ◌&&◌, Bool, true, false, cond, List, [], ◌∷◌, ◌++◌, length, drop, refl, sym, ap, subst, ◌∙◌, append_assoc, append-nil, arith}
use Rattle.std.specs.Prelude.{IsTrue, decimal}
use Rattle.std.specs.Fmt.{signed_decimal}
use Rattle.std.specs.List.{AllByRecursion, flat_map}
use Rattle.std.proofs.lemmas.Bool.{eqb-true, eq-eqb}
use Rattle.std.proofs.lemmas.Fmt.{decimal_by_steps_wide}
use Rattle.std.proofs.lemmas.Grind.{flat_map-append}
use Rattle.resp_values.specs.declared.array.Element.{Element}
use Rattle.resp_values.specs.declared.array.Element.TheVariants as element
use Rattle.resp_header.specs.declared.fault.Fault.{Fault}
use Rattle.resp_header.specs.declared.fault.Fault.TheVariants.{Protocol}
use Rattle.resp_values.specs.Line.{is_one_line, is_text_byte}
use Rattle.resp_header.specs.Reading.{Seen, Wants, Bad, Found, after_cr, number_at}
use Rattle.resp2.specs.Reading.{body_at}
use Rattle.resp2.specs.ReplyReading.{as_found, marked, or_else, times, most_number, text_at, integer_at, simple_at, error_at, number_element_at, bytes_at, line_feed_at, null_at, bulk_or_null_at, leaf_at, array_by, reply_at}
use Rattle.resp_values.specs.Request.{crlf}
use Rattle.resp_values.specs.Reply.{element_spelling}
use Rattle.resp2.proofs.HeaderReading.{NumberMeans, number_means}
use Rattle.resp2.proofs.HeaderRoundTrip.{header_again}
use Rattle.resp2.proofs.MoreBytes.{Goes, number_goes, body_goes}
use Rattle.resp2.proofs.Readers.{AreSoMany, IsReader, Means, as_reader, both, both_reader, made_of_both, same_reading, marked_reader, one_reader, times_reader}
use Rattle.resp2.proofs.RequestReading.{BodyMeans, body_means}
use Rattle.resp2.proofs.RequestRoundTrip.{body_again}

-- what more bytes leave bad
stays_by : {X : Type 0} (more : List ℕ) (seen again : Seen X) (fault : Fault) → Goes (Unit {0}) more seen again → seen ≡ Bad fault → again ≡ Bad fault
stays_by {X} more seen again fault goes is = subst (λ (s : Seen X). Goes (Unit {0}) more s again) is goes (λ _. tt)

-- ---- texts

abbrev pub IsText : List ℕ → Type 0
IsText text = IsTrue (is_one_line text)

abbrev pub line_of : List ℕ → List ℕ
line_of text = text ++ crlf

cr_means : (bs : List ℕ) → Means IsText line_of (13 ∷ bs) (after_cr [] bs)
cr_means [] = record { value = []; more = 10 ∷ []; is_valid = refl; wanted = omega arith; ends = refl }
cr_means (b ∷ bs) =
    elim (b == 10) as (λ t. b == 10 ≡ t → Means IsText line_of (13 ∷ b ∷ bs) (cond t (Found [] bs) (Bad Protocol))) [
      | true ↦ λ is. (refl, ap (λ (c : ℕ). 13 ∷ c ∷ bs) (eqb-true b 10 is))
      | false ↦ λ is. tt
    ] refl

text_byte : (b : ℕ) → b == 13 ≡ false → b == 10 ≡ false → is_text_byte b ≡ true
text_byte b cr lf = rw (cr, lf) refl

and_is : (a b : Bool) → a ≡ true → b ≡ true → (a && b) ≡ true
and_is a b is also = rw (is, also) refl

text_behind : (b : ℕ) (bs : List ℕ) (seen : Seen (List ℕ)) → is_text_byte b ≡ true → Means IsText line_of bs seen
    → Means IsText line_of (b ∷ bs) (as_found (λ text. b ∷ text) seen)
text_behind b bs Wants is means =
    record {
      value = b ∷ means.value;
      more = means.more;
      is_valid = and_is (is_text_byte b) (is_one_line means.value) is means.is_valid;
      wanted = means.wanted;
      ends = ap (λ (w : List ℕ). b ∷ w) means.ends;
    }
text_behind b bs (Bad fault) is means = tt
text_behind b bs (Found text rest) is means = (and_is (is_text_byte b) (is_one_line text) is means.0, ap (λ (w : List ℕ). b ∷ w) means.1)

text_means : (bytes : List ℕ) → Means IsText line_of bytes (text_at bytes)
text_means [] = record { value = []; more = crlf; is_valid = refl; wanted = omega arith; ends = refl }
text_means (b ∷ bs) =
    elim (b == 13) as (λ t. b == 13 ≡ t → Means IsText line_of (b ∷ bs) (cond t (after_cr [] bs) (cond (b == 10) (Bad Protocol) (as_found (λ text. b ∷ text) (text_at bs))))) [
      | true ↦ λ cr. subst (λ (c : ℕ). Means IsText line_of (c ∷ bs) (after_cr [] bs)) (sym (eqb-true b 13 cr)) (cr_means bs)
      | false ↦ λ cr.
          elim (b == 10) as (λ t. b == 10 ≡ t → Means IsText line_of (b ∷ bs) (cond t (Bad Protocol) (as_found (λ text. b ∷ text) (text_at bs)))) [
            | true ↦ λ lf. tt
            | false ↦ λ lf. text_behind b bs (text_at bs) (text_byte b cr lf) (text_means bs)
          ] refl
    ] refl

not_cr : (b : ℕ) → is_text_byte b ≡ true → b == 13 ≡ false
not_cr b is =
    elim (b == 13) as (λ t. cond t false (cond (b == 10) false true) ≡ true → t ≡ false) [
      | true ↦ λ e. absurd cc
      | false ↦ λ e. refl
    ] is

not_lf : (b : ℕ) → b == 13 ≡ false → is_text_byte b ≡ true → b == 10 ≡ false
not_lf b cr is =
    elim (b == 10) as (λ t. cond (b == 13) false (cond t false true) ≡ true → t ≡ false) [
      | true ↦ λ e. absurd (let same : cond false false false ≡ true = subst (λ (t : Bool). cond t false false ≡ true) cr e in cc)
      | false ↦ λ e. refl
    ] is

first_of : (a b : Bool) → (a && b) ≡ true → a ≡ true
first_of true b is = refl
first_of false b is = absurd cc

second_of : (a b : Bool) → (a && b) ≡ true → b ≡ true
second_of true b is = is
second_of false b is = absurd cc

text_again : (text rest : List ℕ) → IsText text → text_at (line_of text ++ rest) ≡ Found text rest
text_again [] rest is = refl
text_again (b ∷ text) rest is =
    let byte = first_of (is_text_byte b) (is_one_line text) is in
    let cr = not_cr b byte in
    rw (cr, not_lf b cr byte) (ap (as_found (λ others. b ∷ others)) (text_again text rest (second_of (is_text_byte b) (is_one_line text) is)))

abbrev text_end : List ℕ → Seen (List ℕ)
text_end bs = after_cr [] bs

cr_stays : (bs more : List ℕ) (fault : Fault) → text_end bs ≡ Bad fault → text_end (bs ++ more) ≡ Bad fault
cr_stays [] more fault is = absurd cc
cr_stays (b ∷ bs) more fault is = ends (b == 10) (Found [] bs) (Found [] (bs ++ more)) (λ e. absurd cc) is
  where
    ends : (t : Bool) (one other : Seen (List ℕ)) → (one ≡ Bad fault → other ≡ Bad fault) → cond t one (Bad Protocol) ≡ Bad fault → cond t other (Bad Protocol) ≡ Bad fault
    ends true one other goes bad = goes bad
    ends false one other goes bad = bad

byte_bad : (b : ℕ) (seen : Seen (List ℕ)) (fault : Fault) → as_found (λ text. b ∷ text) seen ≡ Bad fault → seen ≡ Bad fault
byte_bad b Wants fault is = absurd cc
byte_bad b (Bad other) fault is = let same : other ≡ fault = cc in ap (λ (k : Fault). Bad k) same
byte_bad b (Found text rest) fault is = absurd cc

text_stays : (bytes more : List ℕ) (fault : Fault) → text_at bytes ≡ Bad fault → text_at (bytes ++ more) ≡ Bad fault
text_stays [] more fault is = absurd cc
text_stays (b ∷ bs) more fault is =
    elim (b == 13) as (λ t. cond t (after_cr [] bs) (cond (b == 10) (Bad Protocol) (as_found (λ text. b ∷ text) (text_at bs))) ≡ Bad fault
    → cond t (after_cr [] (bs ++ more)) (cond (b == 10) (Bad Protocol) (as_found (λ text. b ∷ text) (text_at (bs ++ more)))) ≡ Bad fault) [
      | true ↦ λ bad. cr_stays bs more fault bad
      | false ↦ λ bad.
          elim (b == 10) as (λ t. cond t (Bad Protocol) (as_found (λ text. b ∷ text) (text_at bs)) ≡ Bad fault
          → cond t (Bad Protocol) (as_found (λ text. b ∷ text) (text_at (bs ++ more))) ≡ Bad fault) [
            | true ↦ λ lf. lf
            | false ↦ λ other. ap (as_found (λ text. b ∷ text)) (text_stays bs more fault (byte_bad b (text_at bs) fault other))
          ] bad
    ] is

pub text_reader : IsReader IsText line_of text_at
text_reader = record { means = text_means; again = text_again; stays = text_stays }

-- ---- numbers

abbrev pub IsWithin : ℕ → ℕ → ℕ → Type 0
IsWithin least most n = (least ≤ n) × (n ≤ most)

abbrev pub number_line : ℕ → List ℕ
number_line n = decimal n ++ crlf

number_behind : (least most : ℕ) (bs : List ℕ) (seen : Seen ℕ) → NumberMeans Protocol least most bs seen → Means (IsWithin least most) number_line bs seen
number_behind least most bs Wants m = record { value = m.number; more = m.more; is_valid = (m.low, m.high); wanted = m.wanted; ends = m.spelled }
number_behind least most bs (Bad fault) m = tt
number_behind least most bs (Found n rest) m = ((m.low, m.high), m.spelled ∙ sym (append_assoc (decimal n) crlf rest))

number_again : (least most n : ℕ) (rest : List ℕ) → least ≤ 1 → most < 2 ^ 64 → IsWithin least most n → number_at Protocol least most (number_line n ++ rest) ≡ Found n rest
number_again least most n rest small bound is =
    ap (number_at Protocol least most) (append_assoc (decimal n) crlf rest)
    ∙ subst (λ (t : Bool). cond t (number_at Protocol least most (decimal n ++ (13 ∷ 10 ∷ rest))) (Bad Protocol) ≡ Found n rest) (eq-eqb 42 42 refl)
    (header_again 42 Protocol least most n rest small (let high = is.1 in omega arith) is.0 is.1)

pub number_reader : (least most : ℕ) → 0 < most → least ≤ 1 → most < 2 ^ 64 → IsReader (IsWithin least most) number_line (number_at Protocol least most)
number_reader least most some small bound =
    record {
      means = λ bytes. number_behind least most bytes _ (number_means Protocol least most bytes some small (omega arith));
      again = λ n rest is. number_again least most n rest small bound is;
      stays = λ bytes more fault is. stays_by more _ _ fault (number_goes (Unit {0}) Protocol least most most bytes more (omega arith) (λ _. refl)) is;
    }

-- ---- the bytes of a bulk string

abbrev pub HasLength : ℕ → List ℕ → Type 0
HasLength n word = length word ≡ n

body_behind : (n : ℕ) (bytes : List ℕ) (seen : Seen (List ℕ)) → BodyMeans n bytes seen → Means (HasLength n) line_of bytes seen
body_behind n bytes Wants m = record { value = m.word; more = m.more; is_valid = m.len; wanted = m.wanted; ends = m.spelled }
body_behind n bytes (Bad fault) m = tt
body_behind n bytes (Found word rest) m = (m.len, m.spelled ∙ sym (append_assoc word crlf rest))

pub body_reader : (n : ℕ) → IsReader (HasLength n) line_of (body_at n)
body_reader n =
    record {
      means = λ bytes. body_behind n bytes _ (body_means n bytes);
      again = λ word rest is.
          ap (body_at n) (append_assoc word crlf rest)
          ∙ subst (λ (k : ℕ). body_at k (word ++ (13 ∷ 10 ∷ rest)) ≡ Found word rest) is (body_again word rest);
      stays = λ bytes more fault is. stays_by more _ _ fault (body_goes (Unit {0}) n bytes more) is;
    }

-- ---- integers

-- numbers of 64 bits with a sign
abbrev pub IsInteger : ℤ → Type 0
IsInteger (pos n) = n ≤ 2 ^ 63 - 1
IsInteger (negsuc n) = suc n ≤ 2 ^ 63

abbrev pub integer_line : ℤ → List ℕ
integer_line number = signed_decimal number ++ crlf

-- behind a minus
abbrev IsNegative : ℤ → Type 0
IsNegative (pos n) = ⊥
IsNegative (negsuc n) = suc n ≤ 2 ^ 63

abbrev magnitude_line : ℤ → List ℕ
magnitude_line (pos n) = []
magnitude_line (negsuc n) = decimal (suc n) ++ crlf

abbrev to_negative : ℕ → ℤ
to_negative n = negsuc (n - 1)

negative_line : (n : ℕ) → IsWithin 1 (2 ^ 63) n → magnitude_line (to_negative n) ≡ number_line n
negative_line n is = let low = is.0 in ap (λ (k : ℕ). decimal k ++ crlf) (omega arith)

negative_is : (n : ℕ) → IsWithin 1 (2 ^ 63) n → IsNegative (to_negative n)
negative_is n is = let low = is.0 in let high = is.1 in omega arith

negative_from : (z : ℤ) → IsNegative z → (n : ℕ) × IsWithin 1 (2 ^ 63) n × (z ≡ to_negative n)
negative_from (pos n) is = absurd is
negative_from (negsuc n) is = (suc n, (omega arith, is), ap (λ (k : ℕ). negsuc k) (omega arith))

negative_reader : IsReader IsNegative magnitude_line (λ bytes. as_found to_negative (number_at Protocol 1 (2 ^ 63) bytes))
negative_reader =
    as_reader (IsWithin 1 (2 ^ 63)) number_line IsNegative magnitude_line to_negative negative_line negative_is negative_from (number_at Protocol 1 (2 ^ 63))
    (number_reader 1 (2 ^ 63) (omega arith) (omega arith) (omega arith))

abbrev IsNatural : ℤ → Type 0
IsNatural (pos n) = n ≤ 2 ^ 63 - 1
IsNatural (negsuc n) = ⊥

natural_from : (z : ℤ) → IsNatural z → (n : ℕ) × IsWithin 0 (2 ^ 63 - 1) n × (z ≡ pos n)
natural_from (pos n) is = (n, (omega arith, is), refl)
natural_from (negsuc n) is = absurd is

natural_reader : IsReader IsNatural integer_line (λ bytes. as_found pos (number_at Protocol 0 (2 ^ 63 - 1) bytes))
natural_reader =
    as_reader (IsWithin 0 (2 ^ 63 - 1)) number_line IsNatural integer_line pos (λ n is. refl) (λ n is. is.1) natural_from (number_at Protocol 0 (2 ^ 63 - 1))
    (number_reader 0 (2 ^ 63 - 1) (omega arith) (omega arith) (omega arith))

-- a number begins with a digit
pub record BeginsWithDigit (text : List ℕ) : Type 0 where
  pub first : ℕ
  pub tail : List ℕ
  pub digit : 48 ≤ first
  pub is : text ≡ first ∷ tail

pub decimal_begins : (n : ℕ) → n < 10 ^ 64 → BeginsWithDigit (decimal n)
decimal_begins n small =
    decimal_by_steps_wide (λ m ds. BeginsWithDigit ds) (λ m one. record { first = 48 + m; tail = []; digit = omega arith; is = refl })
    (λ m ds large front. record { first = front.first; tail = front.tail ++ ((48 + m % 10) ∷ []); digit = front.digit; is = ap (λ (w : List ℕ). w ++ ((48 + m % 10) ∷ [])) front.is })
    n small

natural_elsewhere : (z : ℤ) → IsNatural z → (first : ℕ) × (tail : List ℕ) × (first ≢ 45) × (integer_line z ≡ first ∷ tail)
natural_elsewhere (negsuc n) is = absurd is
natural_elsewhere (pos n) is =
    let begins = decimal_begins n (omega arith) in
    let digit = begins.digit in
    (begins.first, begins.tail ++ crlf, (λ e. omega (arith, e)), ap (λ (w : List ℕ). w ++ crlf) begins.is)

negative_here : (z : ℤ) → IsNegative z → integer_line z ≡ 45 ∷ magnitude_line z
negative_here (pos n) is = absurd is
negative_here (negsuc n) is = refl

signed_is : (z : ℤ) → IsInteger z → IsNegative z ⊎ IsNatural z
signed_is (pos n) is = inr is
signed_is (negsuc n) is = inl is

signed_from : (z : ℤ) → IsNegative z ⊎ IsNatural z → IsInteger z
signed_from (pos n) (inl is) = absurd is
signed_from (pos n) (inr is) = is
signed_from (negsuc n) (inl is) = is
signed_from (negsuc n) (inr is) = absurd is

either_reader : IsReader (λ z. IsNegative z ⊎ IsNatural z) integer_line integer_at
either_reader =
    one_reader 45 IsNegative magnitude_line (λ bytes. as_found to_negative (number_at Protocol 1 (2 ^ 63) bytes)) negative_reader (negsuc 0, omega arith)
    IsNatural integer_line (λ bytes. as_found pos (number_at Protocol 0 (2 ^ 63 - 1) bytes)) natural_reader negative_here natural_elsewhere

-- the same values, said in another way
valid_means : {X : Type 0} (valid others : X → Type 0) (spelled : X → List ℕ) → ((x : X) → valid x → others x) → (bytes : List ℕ) (seen : Seen X)
    → Means valid spelled bytes seen → Means others spelled bytes seen
valid_means valid others spelled to bytes Wants means =
    record { value = means.value; more = means.more; is_valid = to means.value means.is_valid; wanted = means.wanted; ends = means.ends }
valid_means valid others spelled to bytes (Bad fault) means = tt
valid_means valid others spelled to bytes (Found x rest) means = (to x means.0, means.1)

pub said_again : {X : Type 0} (valid others : X → Type 0) (spelled : X → List ℕ) (read : List ℕ → Seen X) → ((x : X) → valid x → others x) → ((x : X) → others x → valid x)
    → IsReader valid spelled read → IsReader others spelled read
said_again valid others spelled read to from reader =
    record {
      means = λ bytes. valid_means valid others spelled to bytes (read bytes) (reader.means bytes);
      again = λ x rest is. reader.again x rest (from x is);
      stays = reader.stays;
    }

pub integer_reader : IsReader IsInteger integer_line integer_at
integer_reader = said_again (λ z. IsNegative z ⊎ IsNatural z) IsInteger integer_line integer_at signed_from signed_is either_reader

-- ---- replies that hold no others

-- all elements of a reply
abbrev pub all_spelled : List Element → List ℕ
all_spelled elements = flat_map element_spelling elements

-- without the mark in front
abbrev pub behind_mark : List Element → List ℕ
behind_mark elements = drop 1 (all_spelled elements)

abbrev pub IsSimple : List Element → Type 0
IsSimple elements = (text : List ℕ) × IsText text × (elements ≡ element.Simple text ∷ [])

abbrev pub IsError : List Element → Type 0
IsError elements = (text : List ℕ) × IsText text × (elements ≡ element.Error text ∷ [])

abbrev pub IsNumber : List Element → Type 0
IsNumber elements = (number : ℤ) × IsInteger number × (elements ≡ element.Integer number ∷ [])

abbrev pub IsNull : List Element → Type 0
IsNull elements = elements ≡ element.Null ∷ []

abbrev pub IsBulk : List Element → Type 0
IsBulk elements = (word : List ℕ) × (length word ≤ most_number) × (elements ≡ element.Bulk word ∷ [])

simple_reader : IsReader IsSimple behind_mark simple_at
simple_reader =
    as_reader IsText line_of IsSimple behind_mark (λ text. element.Simple text ∷ []) (λ text is. append-nil (line_of text)) (λ text is. (text, is, refl)) (λ y is. is) text_at text_reader

error_reader : IsReader IsError behind_mark error_at
error_reader =
    as_reader IsText line_of IsError behind_mark (λ text. element.Error text ∷ []) (λ text is. append-nil (line_of text)) (λ text is. (text, is, refl)) (λ y is. is) text_at text_reader

number_element_reader : IsReader IsNumber behind_mark number_element_at
number_element_reader =
    as_reader IsInteger integer_line IsNumber behind_mark (λ number. element.Integer number ∷ []) (λ number is. append-nil (integer_line number)) (λ number is. (number, is, refl)) (λ y is. is)
    integer_at integer_reader

found_reader : IsReader IsNull (λ _. []) (λ rest. Found (element.Null ∷ []) rest)
found_reader =
    record {
      means = λ bytes. (refl, refl);
      again = λ elements rest is. ap (λ (found : List Element). Found found rest) (sym is);
      stays = λ bytes more fault is. absurd cc;
    }

null_reader : IsReader IsNull (λ _. 49 ∷ 13 ∷ 10 ∷ []) null_at
null_reader =
    let some : (elements : List Element) × IsNull elements = (element.Null ∷ [], refl) in
    marked_reader 49 IsNull (λ _. 13 ∷ 10 ∷ []) (marked 13 line_feed_at)
    (marked_reader 13 IsNull (λ _. 10 ∷ []) line_feed_at
    (marked_reader 10 IsNull (λ _. []) (λ rest. Found (element.Null ∷ []) rest) found_reader some) some) some

abbrev to_bulk : ℕ × List ℕ → List Element
to_bulk z = element.Bulk z.1 ∷ []

bulk_line : (z : ℕ × List ℕ) → IsWithin 0 most_number z.0 × HasLength z.0 z.1 → behind_mark (to_bulk z) ≡ number_line z.0 ++ line_of z.1
bulk_line z is =
    append-nil (behind_mark_of z.1) ∙ append_assoc (number_line (length z.1)) z.1 crlf ∙ ap (λ (n : ℕ). number_line n ++ line_of z.1) is.1
  where
    behind_mark_of : List ℕ → List ℕ
    behind_mark_of word = (number_line (length word) ++ word) ++ crlf

bulk_from : (elements : List Element) → IsBulk elements → (z : ℕ × List ℕ) × (IsWithin 0 most_number z.0 × HasLength z.0 z.1) × (elements ≡ to_bulk z)
bulk_from elements is = ((length is.0, is.0), ((omega arith, is.1), refl), is.2)

bytes_reader : IsReader IsBulk behind_mark bytes_at
bytes_reader =
    same_reading IsBulk behind_mark (λ bytes. as_found to_bulk (both (number_at Protocol 0 most_number bytes) body_at)) bytes_at
    (λ bytes. made_of_both to_bulk (number_at Protocol 0 most_number bytes) body_at)
    (as_reader (λ z. IsWithin 0 most_number z.0 × HasLength z.0 z.1) (λ z. number_line z.0 ++ line_of z.1) IsBulk behind_mark to_bulk bulk_line
    (λ z is. (z.1, subst (λ (n : ℕ). n ≤ most_number) (sym is.1) is.0.1, refl)) bulk_from
    (λ bytes. both (number_at Protocol 0 most_number bytes) body_at)
    (both_reader (IsWithin 0 most_number) number_line HasLength (λ n. line_of) (number_at Protocol 0 most_number) body_at
    (number_reader 0 most_number (omega arith) (omega arith) (omega arith)) (λ n is. body_reader n) some_body))
  where
    zeros : (n : ℕ) → (word : List ℕ) × HasLength n word
    zeros zero = ([], refl)
    zeros (suc n) = let rest = zeros n in (0 ∷ rest.0, (let len = rest.1 in omega (arith, len)))

    some_body : (n : ℕ) → IsWithin 0 most_number n → (word : List ℕ) × HasLength n word
    some_body n is = zeros n

-- behind a `$` stands a length or `-1`
abbrev null_tail : List Element → List ℕ
null_tail _ = 49 ∷ 13 ∷ 10 ∷ []

null_here : (elements : List Element) → IsNull elements → behind_mark elements ≡ 45 ∷ null_tail elements
null_here elements is = ap behind_mark is

bulk_elsewhere : (elements : List Element) → IsBulk elements → (first : ℕ) × (tail : List ℕ) × (first ≢ 45) × (behind_mark elements ≡ first ∷ tail)
bulk_elsewhere elements is =
    let few = is.1 in
    let begins = decimal_begins (length is.0) (omega arith) in
    let digit = begins.digit in
    let line : behind_mark (element.Bulk is.0 ∷ []) ≡ number_line (length is.0) ++ line_of is.0 =
    bulk_line (length is.0, is.0) ((omega arith, is.1), refl) in (
      begins.first,
      (begins.tail ++ crlf) ++ line_of is.0,
      (λ e. omega (arith, e)),
      ap behind_mark is.2 ∙ line ∙ ap (λ (w : List ℕ). (w ++ crlf) ++ line_of is.0) begins.is,
    )

abbrev IsBulkOrNull : List Element → Type 0
IsBulkOrNull elements = IsNull elements ⊎ IsBulk elements

bulk_or_null_reader : IsReader IsBulkOrNull behind_mark bulk_or_null_at
bulk_or_null_reader =
    one_reader 45 IsNull null_tail null_at null_reader (element.Null ∷ [], refl) IsBulk behind_mark bytes_at bytes_reader null_here bulk_elsewhere

-- ---- replies by their marks

bulk_marked : (elements : List Element) → IsBulkOrNull elements → all_spelled elements ≡ 36 ∷ behind_mark elements
bulk_marked elements (inl is) = ap all_spelled is ∙ ap (λ (others : List Element). 36 ∷ behind_mark others) (sym is)
bulk_marked elements (inr is) = ap all_spelled is.2 ∙ ap (λ (others : List Element). 36 ∷ behind_mark others) (sym is.2)

number_marked : (elements : List Element) → IsNumber elements → all_spelled elements ≡ 58 ∷ behind_mark elements
number_marked elements is = ap all_spelled is.2 ∙ ap (λ (others : List Element). 58 ∷ behind_mark others) (sym is.2)

error_marked : (elements : List Element) → IsError elements → all_spelled elements ≡ 45 ∷ behind_mark elements
error_marked elements is = ap all_spelled is.2 ∙ ap (λ (others : List Element). 45 ∷ behind_mark others) (sym is.2)

simple_marked : (elements : List Element) → IsSimple elements → all_spelled elements ≡ 43 ∷ behind_mark elements
simple_marked elements is = ap all_spelled is.2 ∙ ap (λ (others : List Element). 43 ∷ behind_mark others) (sym is.2)

-- a reply of which this is the mark
abbrev HasMark : (ℕ → Type 0) → List Element → Type 0
HasMark marks elements = (first : ℕ) × (tail : List ℕ) × marks first × (all_spelled elements ≡ first ∷ tail)

abbrev pub IsLeaf : List Element → Type 0
IsLeaf elements = IsSimple elements ⊎ (IsError elements ⊎ (IsNumber elements ⊎ IsBulkOrNull elements))

some_null : (elements : List Element) × IsBulkOrNull elements
some_null = (element.Null ∷ [], inl refl)

bulk_last : IsReader IsBulkOrNull all_spelled (marked 36 bulk_or_null_at)
bulk_last =
    record {
      means = λ bytes. renamed bytes (marked 36 bulk_or_null_at bytes) (reader.means bytes);
      again = λ elements rest is. ap (λ (w : List ℕ). marked 36 bulk_or_null_at (w ++ rest)) (bulk_marked elements is) ∙ reader.again elements rest is;
      stays = reader.stays;
    }
  where
    reader : IsReader IsBulkOrNull (λ elements. 36 ∷ behind_mark elements) (marked 36 bulk_or_null_at)
    reader = marked_reader 36 IsBulkOrNull behind_mark bulk_or_null_at bulk_or_null_reader some_null

    renamed : (bytes : List ℕ) (seen : Seen (List Element)) → Means IsBulkOrNull (λ elements. 36 ∷ behind_mark elements) bytes seen → Means IsBulkOrNull all_spelled bytes seen
    renamed bytes Wants means =
        record { value = means.value; more = means.more; is_valid = means.is_valid; wanted = means.wanted; ends = means.ends ∙ sym (bulk_marked means.value means.is_valid) }
    renamed bytes (Bad fault) means = tt
    renamed bytes (Found elements rest) means = (means.0, means.1 ∙ ap (λ (w : List ℕ). w ++ rest) (sym (bulk_marked elements means.0)))

number_or_bulk : IsReader (λ elements. IsNumber elements ⊎ IsBulkOrNull elements) all_spelled (or_else 58 number_element_at (marked 36 bulk_or_null_at))
number_or_bulk =
    one_reader 58 IsNumber behind_mark number_element_at number_element_reader (element.Integer (pos 0) ∷ [], (pos 0, omega arith, refl)) IsBulkOrNull all_spelled (marked 36 bulk_or_null_at)
    bulk_last number_marked (λ elements is. (36, behind_mark elements, (λ e. omega (arith, e)), bulk_marked elements is))

number_elsewhere : (other : ℕ) → 58 ≢ other → 36 ≢ other → (elements : List Element) → IsNumber elements ⊎ IsBulkOrNull elements
    → (first : ℕ) × (tail : List ℕ) × (first ≢ other) × (all_spelled elements ≡ first ∷ tail)
number_elsewhere other number bulk elements (inl is) = (58, behind_mark elements, number, number_marked elements is)
number_elsewhere other number bulk elements (inr is) = (36, behind_mark elements, bulk, bulk_marked elements is)

error_or_more : IsReader (λ elements. IsError elements ⊎ (IsNumber elements ⊎ IsBulkOrNull elements)) all_spelled
    (or_else 45 error_at (or_else 58 number_element_at (marked 36 bulk_or_null_at)))
error_or_more =
    one_reader 45 IsError behind_mark error_at error_reader (element.Error [] ∷ [], ([], refl, refl)) (λ elements. IsNumber elements ⊎ IsBulkOrNull elements) all_spelled
    (or_else 58 number_element_at (marked 36 bulk_or_null_at)) number_or_bulk error_marked
    (number_elsewhere 45 (λ e. omega (arith, e)) (λ e. omega (arith, e)))

error_elsewhere : (other : ℕ) → 45 ≢ other → 58 ≢ other → 36 ≢ other → (elements : List Element) → IsError elements ⊎ (IsNumber elements ⊎ IsBulkOrNull elements)
    → (first : ℕ) × (tail : List ℕ) × (first ≢ other) × (all_spelled elements ≡ first ∷ tail)
error_elsewhere other error number bulk elements (inl is) = (45, behind_mark elements, error, error_marked elements is)
error_elsewhere other error number bulk elements (inr is) = number_elsewhere other number bulk elements is

pub leaf_reader : IsReader IsLeaf all_spelled leaf_at
leaf_reader =
    one_reader 43 IsSimple behind_mark simple_at simple_reader (element.Simple [] ∷ [], ([], refl, refl)) (λ elements. IsError elements ⊎ (IsNumber elements ⊎ IsBulkOrNull elements))
    all_spelled (or_else 45 error_at (or_else 58 number_element_at (marked 36 bulk_or_null_at))) error_or_more simple_marked
    (error_elsewhere 43 (λ e. omega (arith, e)) (λ e. omega (arith, e)) (λ e. omega (arith, e)))

pub leaf_elsewhere : (elements : List Element) → IsLeaf elements → (first : ℕ) × (tail : List ℕ) × (first ≢ 42) × (all_spelled elements ≡ first ∷ tail)
leaf_elsewhere elements (inl is) = (43, behind_mark elements, (λ e. omega (arith, e)), simple_marked elements is)
leaf_elsewhere elements (inr is) = error_elsewhere 42 (λ e. omega (arith, e)) (λ e. omega (arith, e)) (λ e. omega (arith, e)) elements is

-- ---- arrays

abbrev pub joined : List (List Element) → List Element
joined parts = flat_map (λ part. part) parts

-- the elements of an array of such replies
abbrev pub IsArrayOf : (List Element → Type 0) → List Element → Type 0
IsArrayOf valid elements = (parts : List (List Element)) × (length parts ≤ most_number) × AllByRecursion valid parts × (elements ≡ element.Array (length parts) ∷ joined parts)

each_spelled : (parts : List (List Element)) → all_spelled (joined parts) ≡ flat_map all_spelled parts
each_spelled [] = refl
each_spelled (part ∷ parts) =
    flat_map-append element_spelling part (joined parts) ∙ ap (λ (w : List ℕ). all_spelled part ++ w) (each_spelled parts)

module _ (valid : List Element → Type 0) (reply : List ℕ → Seen (List Element)) (reader : IsReader valid all_spelled reply) (some : (elements : List Element) × valid elements) where
  abbrev SoMany : ℕ → List (List Element) → Type 0
  SoMany = AreSoMany valid

  abbrev to_array : ℕ × List (List Element) → List Element
  to_array z = element.Array z.0 ∷ joined z.1

  array_line : (z : ℕ × List (List Element)) → IsWithin 0 most_number z.0 × SoMany z.0 z.1 → behind_mark (to_array z) ≡ number_line z.0 ++ flat_map all_spelled z.1
  array_line z is = ap (λ (w : List ℕ). number_line z.0 ++ w) (each_spelled z.1)

  array_to : (z : ℕ × List (List Element)) → IsWithin 0 most_number z.0 × SoMany z.0 z.1 → IsArrayOf valid (to_array z)
  array_to z is =
      (z.1, subst (λ (n : ℕ). n ≤ most_number) (sym is.1.0) is.0.1, is.1.1, ap (λ (n : ℕ). element.Array n ∷ joined z.1) (sym is.1.0))

  array_from : (elements : List Element) → IsArrayOf valid elements → (z : ℕ × List (List Element)) × (IsWithin 0 most_number z.0 × SoMany z.0 z.1) × (elements ≡ to_array z)
  array_from elements is = ((length is.0, is.0), ((omega arith, is.1), (refl, is.2)), is.3)

  so_many : (n : ℕ) → (parts : List (List Element)) × SoMany n parts
  so_many zero = ([], (refl, tt))
  so_many (suc n) = let others = so_many n in (some.0 ∷ others.0, ((let len = others.1.0 in omega (arith, len)), (some.1, others.1.1)))

  pub array_reader : IsReader (IsArrayOf valid) behind_mark (array_by reply)
  array_reader =
      same_reading (IsArrayOf valid) behind_mark (λ bytes. as_found to_array (both (number_at Protocol 0 most_number bytes) (times reply))) (array_by reply)
      (λ bytes. made_of_both to_array (number_at Protocol 0 most_number bytes) (times reply))
      (as_reader (λ z. IsWithin 0 most_number z.0 × SoMany z.0 z.1) (λ z. number_line z.0 ++ flat_map all_spelled z.1) (IsArrayOf valid) behind_mark to_array array_line array_to array_from
      (λ bytes. both (number_at Protocol 0 most_number bytes) (times reply))
      (both_reader (IsWithin 0 most_number) number_line SoMany (λ n. flat_map all_spelled) (number_at Protocol 0 most_number) (times reply)
      (number_reader 0 most_number (omega arith) (omega arith) (omega arith)) (λ n is. times_reader valid all_spelled reply reader some n) (λ n is. so_many n)))

-- a reply in which arrays nest so deep at most
abbrev pub IsReplyAt : ℕ → List Element → Type 0
IsReplyAt zero elements = IsLeaf elements
IsReplyAt (suc depth) elements = IsArrayOf (IsReplyAt depth) elements ⊎ IsLeaf elements

null_is : (depth : ℕ) → IsReplyAt depth (element.Null ∷ [])
null_is zero = inr (inr (inr (inl refl)))
null_is (suc depth) = inr (inr (inr (inr (inl refl))))

array_marked : (valid : List Element → Type 0) (elements : List Element) → IsArrayOf valid elements → all_spelled elements ≡ 42 ∷ behind_mark elements
array_marked valid elements is = ap all_spelled is.3 ∙ ap (λ (others : List Element). 42 ∷ behind_mark others) (sym is.3)

pub reply_reader : (depth : ℕ) → IsReader (IsReplyAt depth) all_spelled (reply_at depth)
reply_reader zero = leaf_reader
reply_reader (suc depth) =
    one_reader 42 (IsArrayOf (IsReplyAt depth)) behind_mark (array_by (reply_at depth))
    (array_reader (IsReplyAt depth) (reply_at depth) (reply_reader depth) (element.Null ∷ [], null_is depth))
    (element.Array 0 ∷ [], ([], omega arith, tt, refl)) IsLeaf all_spelled leaf_at leaf_reader (array_marked (IsReplyAt depth)) leaf_elsewhere

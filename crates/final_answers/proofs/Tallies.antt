-- How many lines of a book are such, and what a change of one line changes.
use Rattle.std.proofs.Common.{◌≡◌, ◌≢◌, ◌+◌, ◌≤◌, ◌∙◌, ◌==◌, ◌&&◌, ℕ, zero, suc, Bool, true, false, true≢false, cond, List, [], ◌∷◌, ◌++◌, length, Option, None, Some, Ok, Err, is_none, refl, sym, ap, ap₂, arith}
use Rattle.std.proofs.lemmas.Bool.{and_parts}
use Rattle.std.proofs.lemmas.Slice.Eq.{bytes_eq-Decides}
use Rattle.std.specs.Prelude.{slice_get, slice_set}
use Rattle.std.specs.Str.{bytes_eq}
use Rattle.single_keyspace.proofs.Seen.{no_some, same_some, set_apart}
use Rattle.smart_client.specs.Step.{Answer}
use Rattle.smart_client.specs.declared.fault.ClientFault.TheVariants.{Lost}
use Rattle.final_answers.specs.Book.{Book, Line}

-- ---- words

abbrev pub same_words : List (List ℕ) → List (List ℕ) → Bool
same_words [] [] = true
same_words [] (word ∷ words) = false
same_words (word ∷ words) [] = false
same_words (word ∷ words) (other ∷ others) = bytes_eq word other && same_words words others

pub same_words-true : (words others : List (List ℕ)) → same_words words others ≡ true → words ≡ others
same_words-true [] [] is = refl
same_words-true [] (word ∷ words) is = absurd (true≢false (sym is))
same_words-true (word ∷ words) [] is = absurd (true≢false (sym is))
same_words-true (word ∷ words) (other ∷ others) is =
    let parts = and_parts (bytes_eq word other) (same_words words others) is in
    ap₂ (λ w ws. w ∷ ws) ((bytes_eq-Decides word other).0 parts.0) (same_words-true words others parts.1)

pub same_words-refl : (words : List (List ℕ)) → same_words words words ≡ true
same_words-refl [] = refl
same_words-refl (word ∷ words) = ap (λ (b : Bool). b && same_words words words) ((bytes_eq-Decides word word).1 refl) ∙ same_words-refl words

-- ---- which lines are meant

-- the client was told that the reply is lost
abbrev pub is_lost : Option Answer → Bool
is_lost None = false
is_lost (Some (Ok reply)) = false
is_lost (Some (Err Lost)) = true
is_lost (Some (Err _)) = false

abbrev pub owned : ℕ → Line → Bool
owned number line = line.client == number

-- the call is under way
abbrev pub is_waiting : ℕ → Line → Bool
is_waiting number line = (line.client == number) && is_none line.answer

-- its command may still be executed
abbrev pub is_open : ℕ → List (List ℕ) → Line → Bool
is_open number words line = (line.client == number) && (is_lost line.answer && (is_none line.execution && same_words line.words words))

-- ---- how many there are

abbrev pub one_if : Bool → ℕ
one_if is = cond is 1 0

abbrev pub tally : {A : Type 0} → (A → Bool) → List A → ℕ
tally test [] = 0
tally test (x ∷ xs) = one_if (test x) + tally test xs

pub tally-append : {A : Type 0} (test : A → Bool) (xs ys : List A) → tally test (xs ++ ys) ≡ tally test xs + tally test ys
tally-append test [] ys = omega arith
tally-append test (x ∷ xs) ys = omega (arith, tally-append test xs ys)

pub tally-push : {A : Type 0} (test : A → Bool) (xs : List A) (x : A) → tally test (xs ++ x ∷ []) ≡ tally test xs + one_if (test x)
tally-push test xs x = omega (arith, tally-append test xs (x ∷ []))

pub tally-set : {A : Type 0} (test : A → Bool) (xs : List A) (place : ℕ) (before after : A) → slice_get xs place ≡ Some before
    → tally test (slice_set xs place after) + one_if (test before) ≡ tally test xs + one_if (test after)
tally-set test [] place before after is = absurd (no_some refl is)
tally-set test (x ∷ xs) zero before after is =
    let same : one_if (test x) ≡ one_if (test before) = ap (λ y. one_if (test y)) (same_some refl is) in
    omega (arith, same)
tally-set test (x ∷ xs) (suc place) before after is = omega (arith, tally-set test xs place before after is)

pub tally-found : {A : Type 0} (test : A → Bool) (xs : List A) → 1 ≤ tally test xs → (place : ℕ) × (x : A) × (slice_get xs place ≡ Some x) × (test x ≡ true)
tally-found test [] some = absurd (omega (arith, some))
tally-found {A = A} test (x ∷ xs) some = by_test (tally-found test xs) (test x) refl some
  where
    by_test : (1 ≤ tally test xs → (place : ℕ) × (y : A) × (slice_get xs place ≡ Some y) × (test y ≡ true)) → (is : Bool) → test x ≡ is → 1 ≤ one_if is + tally test xs
        → (place : ℕ) × (y : A) × (slice_get (x ∷ xs) place ≡ Some y) × (test y ≡ true)
    by_test further true is some = (0, x, refl, is)
    by_test further false is some = let rest = further (omega (arith, some)) in (suc rest.0, rest.1, rest.2, rest.3)

-- where no element is such, there is none
pub tally-none : {A : Type 0} (test wider : A → Bool) (xs : List A) → ((x : A) → test x ≡ true → wider x ≡ true) → tally wider xs ≡ 0 → tally test xs ≡ 0
tally-none test wider [] more none = refl
tally-none test wider (x ∷ xs) more none = by_test (tally-none test wider xs more (omega (arith, none))) (test x) refl
  where
    by_test : tally test xs ≡ 0 → (is : Bool) → test x ≡ is → one_if is + tally test xs ≡ 0
    by_test rest false is = omega (arith, rest)
    by_test rest true is =
        let passes : one_if (wider x) ≡ 1 = ap one_if (more x is) in
        absurd (omega (arith, passes, none))

-- ---- places

pub get-append : {A : Type 0} (xs ys : List A) (place : ℕ) (x : A) → slice_get xs place ≡ Some x → slice_get (xs ++ ys) place ≡ Some x
get-append [] ys place x is = absurd (no_some refl is)
get-append (y ∷ xs) ys zero x is = is
get-append (y ∷ xs) ys (suc place) x is = get-append xs ys place x is

pub get-last : {A : Type 0} (xs : List A) (x : A) → slice_get (xs ++ x ∷ []) (length xs) ≡ Some x
get-last [] x = refl
get-last (y ∷ xs) x = get-last xs x

-- ---- lines of one client

-- only lines of the client change, and new ones are its own
pub data Touches (number : ℕ) : Book → Book → Type 0 where
  stays : (book : Book) → Touches number book book
  sets : (old new : Book) (place : ℕ) (before after : Line) → slice_get old place ≡ Some before → before.client ≡ number → after.client ≡ number → Touches number (slice_set old place after) new
      → Touches number old new
  adds : (old new : Book) (line : Line) → line.client ≡ number → Touches number (old ++ line ∷ []) new → Touches number old new

pub touched_tally : (number : ℕ) (old new : Book) → Touches number old new → (test : Line → Bool) → ((line : Line) → line.client ≡ number → test line ≡ false) → tally test new ≡ tally test old
touched_tally number old new (stays _) test other = refl
touched_tally number old new (sets _ _ place before after was is then_is more) test other =
    let one : one_if (test before) ≡ 0 = ap one_if (other before is) in
    let two : one_if (test after) ≡ 0 = ap one_if (other after then_is) in
    omega (arith, one, two, tally-set test old place before after was, touched_tally number (slice_set old place after) new more test other)
touched_tally number old new (adds _ _ line is more) test other =
    let one : one_if (test line) ≡ 0 = ap one_if (other line is) in
    omega (arith, one, tally-push test old line, touched_tally number (old ++ line ∷ []) new more test other)

-- a line of another client stays
pub touched_get : (number : ℕ) (old new : Book) → Touches number old new → (place : ℕ) (line : Line) → slice_get old place ≡ Some line → line.client ≢ number → slice_get new place ≡ Some line
touched_get number old new (stays _) place line is other = is
touched_get number old new (sets _ _ at before after was own then_is more) place line is other =
    let apart : place ≢ at = λ same. other (ap (λ (l : Line). l.client) (same_some is (ap (slice_get old) same ∙ was)) ∙ own) in
    touched_get number (slice_set old at after) new more place line (set_apart old at after place apart ∙ is) other
touched_get number old new (adds _ _ added own more) place line is other = touched_get number (old ++ added ∷ []) new more place line (get-append old (added ∷ []) place line is) other

pub touches_both : (number : ℕ) (old mid new : Book) → Touches number old mid → Touches number mid new → Touches number old new
touches_both number old mid new (stays _) more = more
touches_both number old mid new (sets _ _ place before after was own still further) more = sets old new place before after was own still (touches_both number (slice_set old place after) mid new further more)
touches_both number old mid new (adds _ _ line own further) more = adds old new line own (touches_both number (old ++ line ∷ []) mid new further more)

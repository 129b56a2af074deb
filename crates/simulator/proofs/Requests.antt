-- The limits of a request are kept exactly where the test says so.
use Rattle.std.proofs.Common.{◌≡◌, ◌≤◌, ◌&&◌, ◌∙◌, ℕ, Bool, true, false, cond, List, [], ◌∷◌, length, All, Option, Some, None, ap, sym, arith, leb, refl}
use Rattle.std.specs.Prelude.{suc, IfSome, IsSome}
use Rattle.std.specs.List.{list_all}
use Rattle.std.proofs.lemmas.List.Elements.{All-cons, All-nil}
use Rattle.std.proofs.lemmas.Bool.{leb-true, ltb-true, le-leb, lt-ltb}
use Rattle.resp_values.specs.Request.{IsRequest}
use Rattle.resp_values.specs.declared.words.TheConstants.{MOST_WORD_BYTES}
use Rattle.simulator.specs.Script.{is_request, request_of}

both : (a b : Bool) → (a && b) ≡ true → (a ≡ true) × (b ≡ true)
both true true is = (refl, refl)
both true false is = cc
both false b is = cc

both_are : (a b : Bool) → a ≡ true → b ≡ true → (a && b) ≡ true
both_are true true a b = refl
both_are true false a b = cc
both_are false c a b = cc

short_words : (most : ℕ) (words : List (List ℕ)) → list_all (λ word. leb (length word) most) words ≡ true → All (λ word. length word ≤ most) words
short_words most [] is = All-nil (λ word. length word ≤ most)
short_words most (word ∷ words) is =
    let parts = both (leb (length word) most) (list_all (λ other. leb (length other) most) words) is in
    All-cons (λ other. length other ≤ most) word words (leb-true _ _ parts.0) (short_words most words parts.1)

are_short : (most : ℕ) (words : List (List ℕ)) → All (λ word. length word ≤ most) words → list_all (λ word. leb (length word) most) words ≡ true
are_short most [] each = refl
are_short most (word ∷ words) each =
    both_are _ _ (le-leb _ _ (each 0 word (omega arith))) (are_short most words (λ k d below. each (suc k) d (omega arith)))

pub keeps_limits : (request : List (List ℕ)) → is_request request ≡ true → IsRequest request
keeps_limits request is =
    let parts = both _ _ is in
    let counts = both _ _ parts.0 in
    let few = both _ _ counts.0 in
    record {
      some = ltb-true _ _ few.0;
      limits = record {
        each = record { few = leb-true _ _ few.1; short = short_words MOST_WORD_BYTES request counts.1 };
        all = leb-true _ _ parts.1;
      };
    }

pub is_request_if : (request : List (List ℕ)) → IsRequest request → is_request request ≡ true
is_request_if request keeps =
    both_are _ _ (both_are _ _ (both_are _ _ (lt-ltb _ _ keeps.some) (le-leb _ _ keeps.limits.each.few)) (are_short MOST_WORD_BYTES request keeps.limits.each.short))
    (le-leb _ _ keeps.limits.all)

-- ---- requests that are read

nothing_there : IsSome {T = List (List ℕ)} None → ⊥
nothing_there some = cc

unmade : (request : List (List ℕ)) (test : Bool) → is_request request ≡ test → (IsRequest request → IsSome {T = List (List ℕ)} None) → None ≡ request_of request
unmade request true is whole = absurd (nothing_there (whole (keeps_limits request is)))
unmade request false is whole = sym (ap (λ (found : Bool). cond found (Some request) None) is)

pub request_read : (request : List (List ℕ)) (made : Option (List (List ℕ))) → IfSome made (λ words. words ≡ request) → IfSome made (λ words. IsRequest request)
    → (IsRequest request → IsSome made) → made ≡ request_of request
request_read request (Some words) is keeps whole =
    ap Some is ∙ sym (ap (λ (test : Bool). cond test (Some request) None) (is_request_if request keeps))
request_read request None is keeps whole = unmade request (is_request request) refl whole

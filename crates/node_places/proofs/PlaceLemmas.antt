-- Places of nodes, and nodes by their numbers.
use Rattle.std.proofs.Common.{◌≡◌, ◌+◌, ℕ, zero, suc, List, [], ◌∷◌, ◌++◌, All, map, sym, ap, subst, ◌∙◌, arith}
use Rattle.atomic_table.specs.Seated.{TableId}
use Rattle.bus.specs.declared.message.Message.{Message}
use Rattle.link_ends.specs.Ends.{AreEndsOf, AreLinkedFrom, EndView}
use Rattle.std.specs.List.{range_with_len}
use Rattle.std.proofs.lemmas.List.{map_push}
use Rattle.std.proofs.lemmas.List.Elements.{All-tail}

-- what holds of all places holds of those behind the first one
pub others_too : {A : Type 0} (P : A → Type 0) (first : A) (others : List A) → All P (first ∷ others) → All P others
others_too P first others all = All-tail P first others all

one_more : (a n j : ℕ) → a + n ≡ j → range_with_len a (suc n) ≡ range_with_len a n ++ j ∷ []
one_more a zero j e =
    let same : a ≡ j = omega (arith, e) in
    ap (λ k. k ∷ []) same
one_more a (suc n) j e = ap (λ l. a ∷ l) (one_more (a + 1) n j (omega (arith, e)))

-- the next number goes behind those up to it
pub counted_one_more : (numbers after : List ℕ) (n m : ℕ) → m ≡ n + 1 → after ≡ numbers ++ n ∷ [] → numbers ≡ range_with_len 0 n → after ≡ range_with_len 0 m
counted_one_more numbers after n m more grown counted =
    let next : m ≡ suc n = omega (arith, more) in
    grown ∙ ap (λ ns. ns ++ n ∷ []) counted ∙ sym (one_more 0 n n (omega arith)) ∙ ap (range_with_len 0) (sym next)

-- one more has its number behind those of the others
pub numbered_more : {A : Type 0} (number : A → ℕ) (xs after : List A) (x : A) (n : ℕ) → after ≡ xs ++ x ∷ [] → number x ≡ n → map number after ≡ map number xs ++ n ∷ []
numbered_more number xs after x n grown own = ap (map number) grown ∙ map_push number xs x ∙ ap (λ m. map number xs ++ m ∷ []) own

-- the ends of the first of these nodes, and those of the others
pub first_linked : {A : Type 0} (ends : A → List (EndView Message)) (links : ℕ → ℕ → TableId) (count number own : ℕ) (all rest : List A) (first : A) → all ≡ first ∷ rest → own ≡ number
    → AreLinkedFrom links count number (map ends all) → AreEndsOf links own count (ends first)
first_linked {A} ends links count number own all rest first split same linked = rw same (subst (λ (all : List A). AreLinkedFrom links count number (map ends all)) split linked).0

pub others_linked : {A : Type 0} (ends : A → List (EndView Message)) (links : ℕ → ℕ → TableId) (count number next : ℕ) (all rest : List A) (first : A) → all ≡ first ∷ rest → next ≡ number + 1
    → AreLinkedFrom links count number (map ends all) → AreLinkedFrom links count next (map ends rest)
others_linked {A} ends links count number next all rest first split more linked = rw more (subst (λ (all : List A). AreLinkedFrom links count number (map ends all)) split linked).1

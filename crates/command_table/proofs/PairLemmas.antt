-- Words come in pairs where their number is even.
use Rattle.std.proofs.Common.{◌≡◌, ℕ, List, [], ◌∷◌, refl, sym, ap, subst, ◌∙◌, arith}
use Rattle.std.specs.Prelude.{Some, None, length, suc, ◌≢◌, ◌%◌}
use Rattle.std.specs.Option.{option_map}
use Rattle.command_table.specs.Pairs.{pairs_of, pairs_in, IsNoPair}

-- two words more make no difference
two_more : (n : ℕ) → suc (suc n) % 2 ≡ n % 2
two_more n = omega arith

-- no word is left over
pub pairs_of_even : (words : List (List ℕ)) → length words % 2 ≢ 1 → pairs_of words ≡ Some (pairs_in words)
pairs_of_even [] even = refl
pairs_of_even (word ∷ []) even = absurd (even refl)
pairs_of_even (first ∷ second ∷ words) even =
    ap (option_map (λ pairs. (first, second) ∷ pairs)) (pairs_of_even words (subst (λ n. n ≢ 1) (two_more (length words)) even))

-- one is
pub pairs_of_odd : (words : List (List ℕ)) → length words % 2 ≡ 1 → pairs_of words ≡ None
pairs_of_odd [] odd = cc
pairs_of_odd (word ∷ []) odd = refl
pairs_of_odd (first ∷ second ∷ words) odd =
    ap (option_map (λ pairs. (first, second) ∷ pairs)) (pairs_of_odd words (sym (two_more (length words)) ∙ odd))

pub no_pair : (words : List (List ℕ)) → length words % 2 ≡ 1 → IsNoPair (pairs_of words)
no_pair words odd = subst IsNoPair (sym (pairs_of_odd words odd)) tt

pub some_pair : (words : List (List ℕ)) → words ≢ [] → length words % 2 ≢ 1 → pairs_in words ≢ []
some_pair [] some even = absurd (some refl)
some_pair (word ∷ []) some even = absurd (even refl)
some_pair (first ∷ second ∷ words) some even = λ none. cc

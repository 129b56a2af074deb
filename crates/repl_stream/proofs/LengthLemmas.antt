-- How many digits a small number has.
use Rattle.std.proofs.Common.{◌≡◌, ◌<◌, ◌≤◌, ◌+◌, ◌/◌, ◌%◌, ℕ, List, [], ◌∷◌, ◌++◌, length, decimal, sym, ap, ◌∙◌, arith}
use Rattle.std.proofs.lemmas.Fmt.{decimal_digit, decimal_step}

pub one_digit : (number : ℕ) → number < 10 → 1 ≡ length (decimal number)
one_digit number small = ap length (sym (decimal_digit number small))

pub two_digits : (number : ℕ) → 10 ≤ number → number < 100 → 2 ≡ length (decimal number)
two_digits number some small =
    let few : number / 10 < 10 = omega (arith, small) in
    ap length (sym (decimal_step number some (omega (arith, small)) ∙ ap (λ digits. digits ++ ((48 + number % 10) ∷ [])) (decimal_digit (number / 10) few)))

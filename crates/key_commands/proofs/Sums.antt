-- Which sums fit.
use Rattle.std.proofs.Common.{◌≡◌, true, false, cond, ℤ, FitsSigned, w64, Option, Some, None, SomeIff, refl, sym, ap, ◌∙◌}
use Rattle.command_table.specs.Numbers.{fits}
use Rattle.command_table.proofs.NumberTexts.{fits_if, fits_only_if}
use Rattle.keyspace.specs.Numbers.{fitting_number}

-- `checked_add` gives the number that fits
pub fitting_from : (r : Option ℤ) (n : ℤ) → SomeIff r (FitsSigned w64 n) n → r ≡ fitting_number n
unfolding fitting_number
fitting_from None n other =
    elim (fits n) as (λ b. fits n ≡ b → None ≡ cond b (Some n) None) [
      | true ↦ λ e. absurd (other (fits_only_if n e))
      | false ↦ λ e. refl
    ] refl
fitting_from (Some m) n is = ap Some is.1 ∙ ap (λ b. cond b (Some n) None) (sym (fits_if n is.0))

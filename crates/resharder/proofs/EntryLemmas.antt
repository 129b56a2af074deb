-- A list of masters, entry by entry.
use Rattle.std.proofs.Common.{◌≡◌, ◌<◌, ◌≤◌, arith, length, take, drop, List, [], ◌∷◌, None, refl}
use Rattle.std.specs.Prelude.{option_and_then}
use Rattle.resp_values.specs.declared.array.Element.{Element}
use Rattle.resharder.specs.Replies.{Masters, master_in, masters_onto, with_master}

-- too few elements are no entry
pub too_few : (masters : Masters) (elements : List Element) → 0 < length elements → length elements < 7 → masters_onto masters elements ≡ None
too_few masters [] some few = absurd (omega (arith, some))
too_few masters (a ∷ []) some few = refl
too_few masters (a ∷ b ∷ []) some few = refl
too_few masters (a ∷ b ∷ c ∷ []) some few = refl
too_few masters (a ∷ b ∷ c ∷ d ∷ []) some few = refl
too_few masters (a ∷ b ∷ c ∷ d ∷ e ∷ []) some few = refl
too_few masters (a ∷ b ∷ c ∷ d ∷ e ∷ f ∷ []) some few = refl
too_few masters (a ∷ b ∷ c ∷ d ∷ e ∷ f ∷ g ∷ others) some few = absurd (omega (arith, few))

-- the first entry, and what stands behind it
pub one_entry : (masters : Masters) (elements : List Element) → 7 ≤ length elements
    → masters_onto masters elements ≡ option_and_then (λ master. masters_onto (with_master masters master.0 master.1) (drop 7 elements)) (master_in (take 7 elements))
one_entry masters [] enough = absurd (omega (arith, enough))
one_entry masters (a ∷ []) enough = absurd (omega (arith, enough))
one_entry masters (a ∷ b ∷ []) enough = absurd (omega (arith, enough))
one_entry masters (a ∷ b ∷ c ∷ []) enough = absurd (omega (arith, enough))
one_entry masters (a ∷ b ∷ c ∷ d ∷ []) enough = absurd (omega (arith, enough))
one_entry masters (a ∷ b ∷ c ∷ d ∷ e ∷ []) enough = absurd (omega (arith, enough))
one_entry masters (a ∷ b ∷ c ∷ d ∷ e ∷ f ∷ []) enough = absurd (omega (arith, enough))
one_entry masters (a ∷ b ∷ c ∷ d ∷ e ∷ f ∷ g ∷ others) enough = refl

-- The greater of two claims is a join: it comes once however often it is taken, and in any order.
use Rattle.std.proofs.Common.{◌≡◌, ◌∙◌, sym, ap, ap₂, refl, inl, inr, Bool, true, false, ◌&&◌, ◌==◌, ℕ, ◌<◌, ◌≤◌, List, Option, Some, None, arith, if◌then◌else◌}
use Rattle.std.specs.Prelude.{nat_lt}
use Rattle.std.proofs.lemmas.Bool.{both_ways, cases_Bool, and_cases, and_parts, or_cases, or_parts, eq-eqb, eqb-true, ltb-false, ltb-true}
use Rattle.slot_table.specs.declared.entry.SlotEntry.{SlotEntry}
use Rattle.slot_table.specs.Table.{entry_at}
use Rattle.slot_table.specs.Claims.{is_above, greater, claimed, merged, MergingAgainChangesNothing, OrderOfClaimsIsFree}
use Rattle.slot_table.proofs.MergeLemmas.{is_merged, length-merged, merged_at}

-- a claim above another is no older, and of the same epoch it has the greater owner
record IsAbove (claim known : SlotEntry) : Type 0 where
  epoch : known.epoch ≤ claim.epoch
  owner : known.epoch ≡ claim.epoch → known.owner < claim.owner

-- a claim that is not above another is no newer, and of the same epoch it has no greater owner
record IsNotAbove (claim known : SlotEntry) : Type 0 where
  epoch : claim.epoch ≤ known.epoch
  owner : known.epoch ≡ claim.epoch → claim.owner ≤ known.owner

above_parts : (claim known : SlotEntry) → is_above claim (Some known) ≡ true → IsAbove claim known
above_parts claim known above =
    elim (or_cases (nat_lt known.epoch claim.epoch) (known.epoch == claim.epoch && nat_lt known.owner claim.owner) above) [
      | inl newer ↦
          let lt : known.epoch < claim.epoch = ltb-true known.epoch claim.epoch newer in
          record { epoch = omega arith; owner = λ same. absurd (omega arith) }
      | inr both ↦
          let parts = and_parts (known.epoch == claim.epoch) (nat_lt known.owner claim.owner) both in
          let same : known.epoch ≡ claim.epoch = eqb-true known.epoch claim.epoch parts.0 in
          record { epoch = omega arith; owner = λ is. ltb-true known.owner claim.owner parts.1 }
    ]

not_above_parts : (claim known : SlotEntry) → is_above claim (Some known) ≡ false → IsNotAbove claim known
not_above_parts claim known fails =
    let parts = or_parts (nat_lt known.epoch claim.epoch) (known.epoch == claim.epoch && nat_lt known.owner claim.owner) fails in
    record {
      epoch = ltb-false known.epoch claim.epoch parts.0;
      owner = λ same. elim (and_cases (known.epoch == claim.epoch) (nat_lt known.owner claim.owner) parts.1) [
        | inl differ ↦ absurd (both_ways (known.epoch == claim.epoch) differ (eq-eqb known.epoch claim.epoch same))
        | inr below ↦ ltb-false known.owner claim.owner below
      ];
    }

-- no two claims are above each other
pub one_above : (claim other : SlotEntry) → is_above claim (Some other) ≡ true → is_above other (Some claim) ≡ false
one_above claim other above =
    elim (cases_Bool (is_above other (Some claim))) [
      | inl back ↦
          let first : IsAbove claim other = above_parts claim other above in
          let second : IsAbove other claim = above_parts other claim back in
          absurd (omega (arith, first.owner (omega arith), second.owner (omega arith)))
      | inr fails ↦ fails
    ]

-- two claims are one if neither is above the other
none_above : (claim other : SlotEntry) → is_above claim (Some other) ≡ false → is_above other (Some claim) ≡ false → claim ≡ other
none_above claim other first second =
    let one : IsNotAbove claim other = not_above_parts claim other first in
    let two : IsNotAbove other claim = not_above_parts other claim second in
    let epochs : claim.epoch ≡ other.epoch = omega arith in
    let owners : claim.owner ≡ other.owner = omega arith in
    ap₂ (λ (epoch owner : ℕ). record { epoch = epoch; owner = owner }) epochs owners

-- what isn't above an entry isn't above a claim that is
pub still_below : (above below : SlotEntry) (known : Option SlotEntry) → is_above above known ≡ true → is_above below known ≡ false → is_above below (Some above) ≡ false
still_below above below None is fails = absurd (both_ways true fails refl)
still_below above below (Some known) is fails =
    elim (cases_Bool (is_above below (Some above))) [
      | inl over ↦
          let first : IsAbove above known = above_parts above known is in
          let second : IsNotAbove below known = not_above_parts below known fails in
          let third : IsAbove below above = above_parts below above over in
          absurd (omega (arith, first.owner (omega arith), second.owner (omega arith), third.owner (omega arith)))
      | inr holds ↦ holds
    ]

-- a claim above an entry takes its place
pub takes : (known : Option SlotEntry) (claim : SlotEntry) → is_above claim known ≡ true → greater known (Some claim) ≡ Some claim
takes known claim above = ap (λ (over : Bool). if over then Some claim else known) above

-- a claim that isn't above an entry leaves it
pub leaves : (known : Option SlotEntry) (claim : SlotEntry) → is_above claim known ≡ false → greater known (Some claim) ≡ known
leaves known claim fails = ap (λ (over : Bool). if over then Some claim else known) fails

-- a claim is no greater than itself
greater_itself : (claim : SlotEntry) → greater (Some claim) (Some claim) ≡ Some claim
greater_itself claim =
    elim (cases_Bool (is_above claim (Some claim))) [
      | inl above ↦ takes (Some claim) claim above
      | inr fails ↦ leaves (Some claim) claim fails
    ]

greater_again : (known claim : Option SlotEntry) → greater known claim ≡ greater (greater known claim) claim
greater_again known None = refl
greater_again known (Some claim) =
    elim (cases_Bool (is_above claim known)) [
      | inl above ↦
          let is : greater known (Some claim) ≡ Some claim = takes known claim above in
          is ∙ sym (ap (λ entry. greater entry (Some claim)) is ∙ greater_itself claim)
      | inr fails ↦ sym (ap (λ entry. greater entry (Some claim)) (leaves known claim fails))
    ]

-- of two claims the same one is the greater in either order
greater_of_two : (claim other : SlotEntry) → greater (Some claim) (Some other) ≡ greater (Some other) (Some claim)
greater_of_two claim other =
    elim (cases_Bool (is_above claim (Some other))) [
      | inl above ↦ leaves (Some claim) other (one_above claim other above) ∙ sym (takes (Some other) claim above)
      | inr fails ↦
          elim (cases_Bool (is_above other (Some claim))) [
            | inl above ↦ takes (Some claim) other above ∙ sym (leaves (Some other) claim fails)
            | inr neither ↦ leaves (Some claim) other neither ∙ ap Some (none_above claim other fails neither) ∙ sym (leaves (Some other) claim fails)
          ]
    ]

pub greater_order : (known claim next : Option SlotEntry) → greater (greater known claim) next ≡ greater (greater known next) claim
greater_order known None next = refl
greater_order known (Some claim) None = refl
greater_order known (Some claim) (Some next) =
    let after : (entry other : Option SlotEntry) (by : SlotEntry) → entry ≡ other → greater entry (Some by) ≡ greater other (Some by) = λ entry other by is. ap (λ e. greater e (Some by)) is in
    elim (cases_Bool (is_above claim known)) [
      | inl first ↦
          elim (cases_Bool (is_above next known)) [
            | inl second ↦ after _ _ next (takes known claim first) ∙ greater_of_two claim next ∙ sym (after _ _ claim (takes known next second))
            | inr second ↦ after _ _ next (takes known claim first) ∙ leaves (Some claim) next (still_below claim next known first second) ∙ sym (after _ _ claim (leaves known next second) ∙ takes known claim first)
          ]
      | inr first ↦
          elim (cases_Bool (is_above next known)) [
            | inl second ↦ after _ _ next (leaves known claim first) ∙ takes known next second ∙ sym (after _ _ claim (takes known next second) ∙ leaves (Some next) claim (still_below next claim known second first))
            | inr second ↦ after _ _ next (leaves known claim first) ∙ leaves known next second ∙ sym (after _ _ claim (leaves known next second) ∙ leaves known claim first)
          ]
    ]

pub merging_again : MergingAgainChangesNothing
merging_again table claim owner =
    let once : List (Option SlotEntry) = merged table claim owner in
    sym (is_merged once once claim owner (length-merged table claim owner) (λ slot lt.
    let at : entry_at once slot ≡ greater (entry_at table slot) (claimed claim owner slot) = merged_at table claim owner slot lt in
    at ∙ greater_again (entry_at table slot) (claimed claim owner slot) ∙ sym (ap (λ entry. greater entry (claimed claim owner slot)) at)))

pub in_any_order : OrderOfClaimsIsFree
in_any_order table claim next owner other =
    let first : List (Option SlotEntry) = merged table claim owner in
    let second : List (Option SlotEntry) = merged table next other in
    is_merged second (merged first next other) claim owner (length-merged first next other) (λ slot lt.
    merged_at first next other slot lt
    ∙ ap (λ entry. greater entry (claimed next other slot)) (merged_at table claim owner slot lt)
    ∙ greater_order (entry_at table slot) (claimed claim owner slot) (claimed next other slot)
    ∙ sym (ap (λ entry. greater entry (claimed claim owner slot)) (merged_at table next other slot lt)))

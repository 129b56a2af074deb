-- A candidate's ages are the ticks that passed, as far as they are waited for.
use Rattle.std.proofs.Common.{◌≡◌, ◌<◌, ◌≤◌, ◌*◌, ◌∙◌, inl, inr, sym, ap, ap₂, refl, ℕ, Bool, true, false, List, [], ◌∷◌, length, Option, Some, None, arith, if◌then◌else◌}
use Rattle.std.proofs.lemmas.Bool.{cases_lt, lt-ltb}
use Rattle.std.proofs.lemmas.List.{length-take}
use Rattle.std.proofs.lemmas.List.Sums.{count_by-le-length}
use Rattle.std.specs.Prelude.{◌&&◌, min, nat_lt, option_map, take}
use Rattle.election.specs.Electing.{is_due, is_due_for, is_held_failed, is_over, is_past, lasting}
use Rattle.election.specs.Failing.{older}
use Rattle.election.specs.Health.{Candidate}
use Rattle.election.specs.Members.{Members, is_that, own_master, place_behind}
use Rattle.election.specs.Waiting.{Noted, begun_since, candidate_noting, failed_since, has_waited}
use Rattle.election.specs.Waiting.Noted.{Tick, Judged, Begun, Voted}
use Rattle.election.proofs.HistoryLemmas.{capped, le_min, older_capped, oldest}

-- what is noted of the own master
abbrev judging : Bool → Candidate → Candidate
judging held candidate = if held then record candidate { failed = lasting candidate.failed } else record candidate { failed = None; started = None }

-- what begins is no tick old, and what lasts is as old as before
lasting_capped : (ticks : Option ℕ) → lasting (capped ticks) ≡ capped (lasting ticks)
lasting_capped None = refl
lasting_capped (Some ticks) = refl

judged_failed : (candidate : Candidate) (held : Bool) (ticks : Option ℕ) → candidate.failed ≡ capped ticks
    → (judging held candidate).failed ≡ capped (if held then lasting ticks else None)
judged_failed candidate true ticks is = rw is (lasting_capped ticks)
judged_failed candidate false ticks is = refl

judged_started : (candidate : Candidate) (held : Bool) (ticks : Option ℕ) → candidate.started ≡ capped ticks
    → (judging held candidate).started ≡ capped (if held then ticks else None)
judged_started candidate true ticks is = is
judged_started candidate false ticks is = refl

failed_is : (members : Members) (past : List Noted) → (candidate_noting members past).failed ≡ capped (failed_since members past)
failed_is members [] = refl
failed_is members (Tick ∷ past) = ap (option_map older) (failed_is members past) ∙ older_capped (failed_since members past)
failed_is members (Judged health ∷ past) =
    judged_failed (candidate_noting members past) (is_held_failed health members (own_master members)) (failed_since members past) (failed_is members past)
failed_is members (Begun epoch ∷ past) = failed_is members past
failed_is members (Voted from epoch ∷ past) = failed_is members past

started_is : (members : Members) (past : List Noted) → (candidate_noting members past).started ≡ capped (begun_since members past)
started_is members [] = refl
started_is members (Tick ∷ past) = ap (option_map older) (started_is members past) ∙ older_capped (begun_since members past)
started_is members (Judged health ∷ past) =
    judged_started (candidate_noting members past) (is_held_failed health members (own_master members)) (begun_since members past) (started_is members past)
started_is members (Begun epoch ∷ past) = refl
started_is members (Voted from epoch ∷ past) = started_is members past

-- no bound is as great as the greatest age
past_capped : (ticks : Option ℕ) (place : ℕ) → place < oldest → is_past (capped ticks) place ≡ is_past ticks place
past_capped None place below = refl
past_capped (Some ticks) place below =
    elim (cases_lt ticks oldest) [
      | inl before ↦ let same : min ticks oldest ≡ ticks = omega arith in ap (nat_lt place) same
      | inr after ↦
          let oldest_is : place < min ticks oldest = omega arith in
          let ticks_are : place < ticks = omega arith in
          lt-ltb place (min ticks oldest) oldest_is ∙ sym (lt-ltb place ticks ticks_are)
    ]

over_capped : (ticks : Option ℕ) (wait : ℕ) → wait ≤ oldest → is_over (capped ticks) wait ≡ is_over ticks wait
over_capped None wait below = refl
over_capped (Some ticks) wait below = le_min wait ticks below

place_below : (members : Members) (master : ℕ) → place_behind members master ≤ members.me
place_below members master =
    let within : place_behind members master ≤ length (take members.me members.masters) = count_by-le-length (λ of. is_that of master) (take members.me members.masters) in
    let taken : length (take members.me members.masters) ≡ min members.me (length members.masters) = length-take members.me members.masters in
    omega (arith, within, taken)

due_by : (members : Members) (past : List Noted) (master : Option ℕ) → members.me < 16 → members.node_timeout ≤ 1000000
    → is_due_for (candidate_noting members past) members master ≡ has_waited members past master
due_by members past None below timeout = refl
due_by members past (Some master) below timeout =
    let place : place_behind members master ≤ members.me = place_below members master in
    let few : place_behind members master < oldest = omega arith in
    let wait : 2 * members.node_timeout ≤ oldest = omega arith in
    ap₂ (λ (ripe over : Bool). ripe && over)
    (ap (λ age. is_past age (place_behind members master)) (failed_is members past) ∙ past_capped (failed_since members past) (place_behind members master) few)
    (ap (λ age. is_over age (2 * members.node_timeout)) (started_is members past) ∙ over_capped (begun_since members past) (2 * members.node_timeout) wait)

pub begins_after_its_wait : (members : Members) (past : List Noted) → members.me < 16 → members.node_timeout ≤ 1000000
    → is_due (candidate_noting members past) members ≡ has_waited members past (own_master members)
begins_after_its_wait members past below timeout = due_by members past (own_master members) below timeout

-- A vote elects exactly where it makes the majority.
use Rattle.std.proofs.Common.{◌≡◌, ◌<◌, ◌≤◌, ◌*◌, ◌==◌, ◌⊎◌, inl, inr, sym, ◌∙◌, ap, refl, zero, suc, cond, ℕ, Bool, true, false, not, List, [], ◌∷◌, length, All, Option, Some, None, arith, if◌then◌else◌}
use Rattle.std.proofs.lemmas.Bool.{and_parts, eq-eqb, eqb-true, false_from_ne_true, lt-ltb, ltb-true}
use Rattle.std.proofs.lemmas.List.{length-set}
use Rattle.std.proofs.lemmas.List.Sums.{sum_by-le-sum_by}
use Rattle.std.specs.List.{list_any}
use Rattle.std.specs.Prelude.{◌&&◌, ◌||◌, nat_lt, count_by, slice_index_or, slice_set}
use Rattle.election.specs.Electing.{after_grant, begun, counts, elected, elected_in, is_won}
use Rattle.election.specs.Health.{Candidate, Election, row}
use Rattle.election.specs.Majorities.{Vote, candidate_after, has_voted, have_most}
use Rattle.election.specs.Members.{Members, is_voter, most_voters}
use Rattle.election.specs.declared.running.Elected.{Elected}
use Rattle.election.proofs.RowLemmas.{at_set, count_agree}
use Rattle.election.proofs.HistoryLemmas.{same_everywhere}

-- ---- majorities

most_agree : (members : Members) (p q : ℕ → Bool) → All (λ voter. p voter ≡ q voter) members.voters → most_voters members p ≡ most_voters members q
most_agree members p q agree = ap (λ count. nat_lt (length members.voters) (2 * count)) (count_agree p q members.voters agree)

-- a test doesn't both pass and fail
no_test_does_both : (b : Bool) → b ≡ true → b ≡ false → ⊥
no_test_does_both b passes fails =
    let one_is_none : ◌≡◌ {A = ℕ} 1 0 = ap (λ (it : Bool). cond {A = ℕ} it 1 0) (sym passes ∙ fails) in omega (arith, one_is_none)

one_at_most : (p q : Bool) → (p ≡ true → q ≡ true) → cond p 1 0 ≤ cond q 1 0
one_at_most true true more = omega arith
one_at_most true false more = absurd (no_test_does_both false (more refl) refl)
one_at_most false true more = omega arith
one_at_most false false more = omega arith

or_right : (b p : Bool) → p ≡ true → (b || p) ≡ true
or_right true p is = refl
or_right false p is = is

-- votes that were given stay
most_stay : (members : Members) (epoch : ℕ) (vote : Vote) (past : List Vote) → have_most members epoch past ≡ true → have_most members epoch (vote ∷ past) ≡ true
most_stay members epoch vote past most =
    let before : length members.voters < 2 * count_by (has_voted epoch past) members.voters = ltb-true _ _ most in
    let more : count_by (has_voted epoch past) members.voters ≤ count_by (has_voted epoch (vote ∷ past)) members.voters =
    sum_by-le-sum_by (λ it. cond (has_voted epoch past it) 1 0) (λ it. cond (has_voted epoch (vote ∷ past) it) 1 0) members.voters
    (λ it. one_at_most (has_voted epoch past it) (has_voted epoch (vote ∷ past) it) (or_right (vote.from == it && vote.epoch == epoch) (has_voted epoch past it))) in
    let after : length members.voters < 2 * count_by (has_voted epoch (vote ∷ past)) members.voters = omega arith in
    lt-ltb _ _ after

-- a voter of the list votes
any_at : (p : ℕ → Bool) (xs : List ℕ) (at default : ℕ) → at < length xs → p (slice_index_or xs at default) ≡ true → list_any p xs ≡ true
any_at p [] at default within is = absurd (omega arith)
any_at p (x ∷ xs) zero default within is = rw is refl
any_at p (x ∷ xs) (suc at) default within is = or_right (p x) (list_any p xs) (any_at p xs at default (omega arith) is)

-- ---- an election that runs

-- nobody has the majority yet, and the row has the votes of the voters
pub record Runs (members : Members) (epoch : ℕ) (past : List Vote) (election : Option Election) : Type 0 where
  pub granted : List Bool
  pub is : election ≡ Some (record { epoch = epoch; granted = granted })
  pub long : length granted ≡ 16
  pub votes : All (λ voter. slice_index_or granted voter false ≡ has_voted epoch past voter) members.voters
  pub few : have_most members epoch past ≡ false

-- or the majority was there
pub record IsOver (members : Members) (epoch : ℕ) (past : List Vote) (election : Option Election) : Type 0 where
  pub is : election ≡ None
  pub most : have_most members epoch past ≡ true

-- a vote that counts is one in the row
voted_by : (granted : List Bool) (epoch : ℕ) (vote : Vote) (past : List Vote) (voter : ℕ) (same : Bool) → (vote.from == voter) ≡ same → (vote.epoch == epoch) ≡ true
    → slice_index_or granted voter false ≡ has_voted epoch past voter
    → (if same then true else slice_index_or granted voter false) ≡ has_voted epoch (vote ∷ past) voter
voted_by granted epoch vote past voter true is in_epoch before = rw is (rw in_epoch refl)
voted_by granted epoch vote past voter false is in_epoch before = rw is before

-- one that doesn't is none of a voter
not_voted : (members : Members) (epoch : ℕ) (granted : List Bool) (vote : Vote) → counts (record { epoch = epoch; granted = granted }) members vote.from vote.epoch ≡ false
    → (at default : ℕ) → at < length members.voters → (vote.from == slice_index_or members.voters at default && vote.epoch == epoch) ≡ false
not_voted members epoch granted vote counts_not at default within =
    false_from_ne_true (vote.from == slice_index_or members.voters at default && vote.epoch == epoch) (λ both.
    let voter : ℕ = slice_index_or members.voters at default in
    let from_is : vote.from ≡ slice_index_or members.voters at default = eqb-true _ _ (and_parts (vote.from == slice_index_or members.voters at default) (vote.epoch == epoch) both).0 in
    let epoch_is : vote.epoch ≡ epoch = eqb-true _ _ (and_parts (vote.from == slice_index_or members.voters at default) (vote.epoch == epoch) both).1 in
    let epoch_same : (epoch == vote.epoch) ≡ true = eq-eqb _ _ (sym epoch_is) in
    let voter_same : (slice_index_or members.voters at default == vote.from) ≡ true = eq-eqb _ _ (sym from_is) in
    let votes : is_voter members vote.from ≡ true = any_at (λ it. it == vote.from) members.voters at default within voter_same in
    let does : counts (record { epoch = epoch; granted = granted }) members vote.from vote.epoch ≡ true = rw epoch_same votes in
    no_test_does_both (counts (record { epoch = epoch; granted = granted }) members vote.from vote.epoch) does counts_not)

or_false : (b p : Bool) → b ≡ false → p ≡ (b || p)
or_false true p is = absurd (no_test_does_both true refl is)
or_false false p is = refl

-- ---- behind each vote

voted_all : (members : Members) (epoch : ℕ) (past : List Vote) (vote : Vote) (granted : List Bool) → length granted ≡ 16 → All (λ voter. voter < 16) members.voters
    → All (λ voter. slice_index_or granted voter false ≡ has_voted epoch past voter) members.voters → (vote.epoch == epoch) ≡ true
    → All (λ voter. slice_index_or (slice_set granted vote.from true) voter false ≡ has_voted epoch (vote ∷ past) voter) members.voters
voted_all members epoch past vote granted long few votes in_epoch at default within =
    let below : slice_index_or members.voters at default < 16 = few at default within in
    let inside : slice_index_or members.voters at default < length granted = rw long below in
    at_set granted vote.from (slice_index_or members.voters at default) true false (vote.from == slice_index_or members.voters at default) refl inside
    ∙ voted_by granted epoch vote past (slice_index_or members.voters at default) (vote.from == slice_index_or members.voters at default) refl in_epoch (votes at default within)

abbrev Stands : Members → ℕ → List Vote → Option Election → Type 0
Stands members epoch past election = IsOver members epoch past election ⊎ Runs members epoch past election

-- an election that is over stays so
over_stays : (members : Members) (epoch : ℕ) (past : List Vote) (vote : Vote) (election : Option Election) → IsOver members epoch past election
    → IsOver members epoch (vote ∷ past) (after_grant election members vote.from vote.epoch)
over_stays members epoch past vote election over = record {
  is = rw over.is refl;
  most = most_stay members epoch vote past over.most;
}

-- a vote that doesn't count leaves it running
runs_on : (members : Members) (epoch : ℕ) (past : List Vote) (vote : Vote) (election : Option Election) (runs : Runs members epoch past election)
    → counts (record { epoch = epoch; granted = runs.granted }) members vote.from vote.epoch ≡ false
    → Runs members epoch (vote ∷ past) (after_grant election members vote.from vote.epoch)
runs_on members epoch past vote election runs counts_not =
    let votes : All (λ voter. slice_index_or runs.granted voter false ≡ has_voted epoch (vote ∷ past) voter) members.voters = λ at default within.
    runs.votes at default within
    ∙ or_false (vote.from == slice_index_or members.voters at default && vote.epoch == epoch) (has_voted epoch past (slice_index_or members.voters at default)) (not_voted members epoch runs.granted vote counts_not at default within) in
    record {
      granted = runs.granted;
      is = rw runs.is (rw counts_not refl);
      long = runs.long;
      votes = votes;
      few = sym (most_agree members (λ voter. slice_index_or runs.granted voter false) (has_voted epoch (vote ∷ past)) votes)
          ∙ most_agree members (λ voter. slice_index_or runs.granted voter false) (has_voted epoch past) runs.votes ∙ runs.few;
    }

-- one that counts ends it exactly where it makes the majority
by_majority : (members : Members) (epoch : ℕ) (past : List Vote) (vote : Vote) (granted : List Bool) (won : Bool)
    → is_won (record { epoch = epoch; granted = granted }) members ≡ won → length granted ≡ 16
    → All (λ voter. slice_index_or granted voter false ≡ has_voted epoch (vote ∷ past) voter) members.voters
    → Stands members epoch (vote ∷ past) (if won then None else Some (record { epoch = epoch; granted = granted }))
by_majority members epoch past vote granted true is long votes =
    inl (record { is = refl; most = sym (most_agree members (λ voter. slice_index_or granted voter false) (has_voted epoch (vote ∷ past)) votes) ∙ is })
by_majority members epoch past vote granted false is long votes = inr (record {
  granted = granted;
  is = refl;
  long = long;
  votes = votes;
  few = sym (most_agree members (λ voter. slice_index_or granted voter false) (has_voted epoch (vote ∷ past)) votes) ∙ is;
})

-- the row once a vote counts
row_after : (members : Members) (epoch : ℕ) (past : List Vote) (vote : Vote) (granted : List Bool) → length granted ≡ 16 → All (λ voter. voter < 16) members.voters
    → All (λ voter. slice_index_or granted voter false ≡ has_voted epoch past voter) members.voters
    → counts (record { epoch = epoch; granted = granted }) members vote.from vote.epoch ≡ true
    → All (λ voter. slice_index_or (slice_set granted vote.from true) voter false ≡ has_voted epoch (vote ∷ past) voter) members.voters
row_after members epoch past vote granted long few votes does =
    let epoch_is : epoch ≡ vote.epoch = eqb-true _ _ (and_parts (epoch == vote.epoch) (is_voter members vote.from) does).0 in
    voted_all members epoch past vote granted long few votes (eq-eqb _ _ (sym epoch_is))

runs_or_ends : (members : Members) (epoch : ℕ) (past : List Vote) (vote : Vote) (election : Option Election) (runs : Runs members epoch past election) → All (λ voter. voter < 16) members.voters
    → (does : Bool) → counts (record { epoch = epoch; granted = runs.granted }) members vote.from vote.epoch ≡ does
    → Stands members epoch (vote ∷ past) (after_grant election members vote.from vote.epoch)
runs_or_ends members epoch past vote election runs few true does =
    let long : length (slice_set runs.granted vote.from true) ≡ 16 = length-set runs.granted vote.from true ∙ runs.long in
    let votes : All (λ voter. slice_index_or (slice_set runs.granted vote.from true) voter false ≡ has_voted epoch (vote ∷ past) voter) members.voters =
    row_after members epoch past vote runs.granted runs.long few runs.votes does in
    rw runs.is (rw does (by_majority members epoch past vote (slice_set runs.granted vote.from true)
    (is_won (record { epoch = epoch; granted = slice_set runs.granted vote.from true }) members) refl long votes))
runs_or_ends members epoch past vote election runs few false does = inr (runs_on members epoch past vote election runs does)

stands_next : (members : Members) (epoch : ℕ) (past : List Vote) (vote : Vote) (election : Option Election) → All (λ voter. voter < 16) members.voters
    → Stands members epoch past election → Stands members epoch (vote ∷ past) (after_grant election members vote.from vote.epoch)
stands_next members epoch past vote election few (inl over) = inl (over_stays members epoch past vote election over)
stands_next members epoch past vote election few (inr runs) =
    runs_or_ends members epoch past vote election runs few (counts (record { epoch = epoch; granted = runs.granted }) members vote.from vote.epoch) refl

-- ---- from the start on

none_counted : (xs : List ℕ) → count_by (λ it. false) xs ≡ 0
none_counted [] = refl
none_counted (x ∷ xs) = none_counted xs

nobody_yet : (members : Members) (epoch : ℕ) → have_most members epoch [] ≡ false
nobody_yet members epoch = false_from_ne_true (have_most members epoch []) (λ most.
    let before : length members.voters < 2 * count_by (λ it. false) members.voters = ltb-true _ _ most in
    let none : count_by (λ it. false) members.voters ≡ 0 = none_counted members.voters in
    omega (arith, before, none))

stands : (members : Members) (candidate : Candidate) (epoch : ℕ) (past : List Vote) → All (λ voter. voter < 16) members.voters
    → Stands members epoch past (candidate_after members (begun candidate (Some epoch)) past).election
stands members candidate epoch [] few = inr (record {
  granted = row false;
  is = refl;
  long = refl;
  votes = λ at default within. same_everywhere 16 (slice_index_or members.voters at default) false;
  few = nobody_yet members epoch;
})
stands members candidate epoch (vote ∷ past) few =
    stands_next members epoch past vote (candidate_after members (begun candidate (Some epoch)) past).election few (stands members candidate epoch past few)

-- ---- the law

elects_in_epoch : {epoch other : ℕ} {won most : Bool} → other ≡ epoch → won ≡ most
    → ◌≡◌ {A = Option Elected} (if won then Some (record { epoch = other }) else None) (if most then Some (record { epoch = epoch }) else None)
elects_in_epoch same won_is = rw same (rw won_is refl)

elects_if_counted : (members : Members) (epoch : ℕ) (past : List Vote) (vote : Vote) (election : Option Election) (runs : Runs members epoch past election) → All (λ voter. voter < 16) members.voters
    → (does : Bool) → counts (record { epoch = epoch; granted = runs.granted }) members vote.from vote.epoch ≡ does
    → elected_in election members vote.from vote.epoch ≡ (if not (have_most members epoch past) && have_most members epoch (vote ∷ past) then Some (record { epoch = epoch }) else None)
elects_if_counted members epoch past vote election runs few true does =
    let epoch_is : epoch ≡ vote.epoch = eqb-true _ _ (and_parts (epoch == vote.epoch) (is_voter members vote.from) does).0 in
    let most : is_won (record { epoch = epoch; granted = slice_set runs.granted vote.from true }) members ≡ have_most members epoch (vote ∷ past) =
    most_agree members (λ voter. slice_index_or (slice_set runs.granted vote.from true) voter false) (has_voted epoch (vote ∷ past))
    (row_after members epoch past vote runs.granted runs.long few runs.votes does) in
    rw runs.is (rw does (rw runs.few (elects_in_epoch (sym epoch_is) most)))
elects_if_counted members epoch past vote election runs few false does =
    let next : Runs members epoch (vote ∷ past) (after_grant election members vote.from vote.epoch) = runs_on members epoch past vote election runs does in
    rw runs.is (rw does (rw runs.few (rw next.few refl)))

elects_by : (members : Members) (epoch : ℕ) (past : List Vote) (vote : Vote) (election : Option Election) → All (λ voter. voter < 16) members.voters → Stands members epoch past election
    → elected_in election members vote.from vote.epoch ≡ (if not (have_most members epoch past) && have_most members epoch (vote ∷ past) then Some (record { epoch = epoch }) else None)
elects_by members epoch past vote election few (inl over) = rw over.is (rw over.most refl)
elects_by members epoch past vote election few (inr runs) =
    elects_if_counted members epoch past vote election runs few (counts (record { epoch = epoch; granted = runs.granted }) members vote.from vote.epoch) refl

pub elects_the_first_majority : (members : Members) (candidate : Candidate) (epoch : ℕ) (past : List Vote) (vote : Vote) → All (λ voter. voter < 16) members.voters
    → elected (candidate_after members (begun candidate (Some epoch)) past) members vote.from vote.epoch
    ≡ (if not (have_most members epoch past) && have_most members epoch (vote ∷ past) then Some (record { epoch = epoch }) else None)
elects_the_first_majority members candidate epoch past vote few =
    elects_by members epoch past vote (candidate_after members (begun candidate (Some epoch)) past).election few (stands members candidate epoch past few)

-- A node votes in epochs that rise.
use Rattle.std.proofs.Common.{◌≡◌, ◌<◌, ℕ, Bool, true, false, List, [], ◌∷◌, All, arith, refl, if◌then◌else◌}
use Rattle.std.proofs.lemmas.Bool.{ltb-true}
use Rattle.std.proofs.lemmas.List.Elements.{All-cons, All-nil, All-weaker}
use Rattle.std.proofs.lemmas.List.Kept.{AllPairs-cons}
use Rattle.std.specs.List.{AllPairs}
use Rattle.std.specs.Prelude.{◌&&◌}
use Rattle.election.specs.Ballots.{Asked, epochs_voted, grants}
use Rattle.election.specs.Health.{Voter}

-- of five tests the second
second_of_five : (a b c d e : Bool) → (a && b && c && d && e) ≡ true → b ≡ true
second_of_five true true c d e all = refl
second_of_five true false c d e all = all
second_of_five false b c d e all = cc

abbrev voted_in : ℕ → Voter
voted_in epoch = record { last_vote = epoch }

-- a vote is in an epoch above the last
above_last : (voter : Voter) (asked : Asked) → grants voter asked ≡ true → voter.last_vote < asked.request.epoch
above_last voter asked granted = ltb-true _ _ (second_of_five _ _ _ _ _ granted)

-- so all that come are above it
all_above_by : (voter : Voter) (asked : Asked) (later : List Asked) (granted : Bool) → grants voter asked ≡ granted
    → All (λ epoch. asked.request.epoch < epoch) (epochs_voted (voted_in asked.request.epoch) later)
    → All (λ epoch. voter.last_vote < epoch) (epochs_voted voter later)
    → All (λ epoch. voter.last_vote < epoch) (if granted then asked.request.epoch ∷ epochs_voted (voted_in asked.request.epoch) later else epochs_voted voter later)
all_above_by voter asked later true granted voted rest =
    let above : voter.last_vote < asked.request.epoch = above_last voter asked granted in
    All-cons (λ epoch. voter.last_vote < epoch) asked.request.epoch _ above (All-weaker (λ epoch. asked.request.epoch < epoch) (λ epoch. voter.last_vote < epoch) (λ epoch next. omega arith) _ voted)
all_above_by voter asked later false granted voted rest = rest

all_above : (voter : Voter) (requests : List Asked) → All (λ epoch. voter.last_vote < epoch) (epochs_voted voter requests)
all_above voter [] = All-nil (λ epoch. voter.last_vote < epoch)
all_above voter (asked ∷ later) =
    all_above_by voter asked later (grants voter asked) refl (all_above (voted_in asked.request.epoch) later) (all_above voter later)

all_rise_by : (voter : Voter) (asked : Asked) (later : List Asked) (granted : Bool)
    → AllPairs (λ epoch next. epoch < next) (epochs_voted (voted_in asked.request.epoch) later)
    → AllPairs (λ epoch next. epoch < next) (epochs_voted voter later)
    → AllPairs (λ epoch next. epoch < next) (if granted then asked.request.epoch ∷ epochs_voted (voted_in asked.request.epoch) later else epochs_voted voter later)
all_rise_by voter asked later true voted rest =
    AllPairs-cons (λ epoch next. epoch < next) _ _ (all_above (voted_in asked.request.epoch) later) voted
all_rise_by voter asked later false voted rest = rest

pub votes_once : (voter : Voter) (requests : List Asked) → AllPairs (λ epoch next. epoch < next) (epochs_voted voter requests)
votes_once voter [] = λ i j d before within. absurd (omega arith)
votes_once voter (asked ∷ later) = all_rise_by voter asked later (grants voter asked) (votes_once (voted_in asked.request.epoch) later) (votes_once voter later)

-- When a replica begins an election, by what it noted (Redis Cluster specification, "Replica election and promotion", "Replica rank"; the
-- waits in ticks are ours).
use Rattle.std.specs.Prelude.{◌≡◌, ◌<◌, ◌≤◌, ◌+◌, ◌*◌, ◌&&◌, ℕ, Bool, false, List, [], ◌∷◌, Option, Some, None, option_map, if◌then◌else◌}
use Rattle.election.specs.Electing.{begun, counted, is_due, is_held_failed, is_over, is_past, judged, lasting, ticked_candidate}
use Rattle.election.specs.Health.{Candidate, Health, no_candidate}
use Rattle.election.specs.Members.{Members, own_master, place_behind}

-- what a candidate notes: a tick, what is held of the others, that its election begins in an epoch, or a vote for it
pub data Noted : Type 0 where
  Tick : Noted
  Judged : Health → Noted
  Begun : ℕ → Noted
  Voted : ℕ → ℕ → Noted

-- the candidate behind all that, the last first
abbrev pub candidate_noting : Members → List Noted → Candidate
candidate_noting members [] = no_candidate
candidate_noting members (Tick ∷ past) = ticked_candidate (candidate_noting members past)
candidate_noting members (Judged health ∷ past) = judged (candidate_noting members past) members health
candidate_noting members (Begun epoch ∷ past) = begun (candidate_noting members past) (Some epoch)
candidate_noting members (Voted from epoch ∷ past) = counted (candidate_noting members past) members from epoch

abbrev pub later : Option ℕ → Option ℕ
later ticks = option_map (λ it. it + 1) ticks

-- how many ticks ago the own master came to be held failed, if it still is
abbrev pub failed_since : Members → List Noted → Option ℕ
failed_since members [] = None
failed_since members (Tick ∷ past) = later (failed_since members past)
failed_since members (Judged health ∷ past) = if is_held_failed health members (own_master members) then lasting (failed_since members past) else None
failed_since members (Begun epoch ∷ past) = failed_since members past
failed_since members (Voted from epoch ∷ past) = failed_since members past

-- how many ticks ago the last election began, if the own master was held failed ever since
abbrev pub begun_since : Members → List Noted → Option ℕ
begun_since members [] = None
begun_since members (Tick ∷ past) = later (begun_since members past)
begun_since members (Judged health ∷ past) = if is_held_failed health members (own_master members) then begun_since members past else None
begun_since members (Begun epoch ∷ past) = Some 0
begun_since members (Voted from epoch ∷ past) = begun_since members past

-- both are long enough
abbrev pub has_waited : Members → List Noted → Option ℕ → Bool
has_waited members past None = false
has_waited members past (Some master) =
    is_past (failed_since members past) (place_behind members master) && is_over (begun_since members past) (2 * members.node_timeout)

-- an election is to begin exactly where that is so
abbrev pub BeginsAfterItsWait : Type 0
BeginsAfterItsWait = (members : Members) (past : List Noted) → members.me < 16 → members.node_timeout ≤ 1000000
    → is_due (candidate_noting members past) members ≡ has_waited members past (own_master members)

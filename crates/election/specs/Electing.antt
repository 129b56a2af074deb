-- The election of a replica in the place of its master (Redis Cluster specification, "Replica election and promotion", "Replica rank";
-- the waits in ticks, and that the place goes by numbers, are ours).
use Rattle.std.specs.Prelude.{ℕ, ◌+◌, ◌-◌, ◌*◌, ◌^◌, ◌==◌, ◌&&◌, nat_le, nat_lt, Bool, true, false, Option, Some, None, option_map, slice_index_or, slice_set, if◌then◌else◌}
use Rattle.election.specs.Failing.{has_failed, older}
use Rattle.election.specs.Health.{Candidate, Election, Health, row}
use Rattle.election.specs.Members.{Members, is_voter, most_voters, own_master, place_behind}
use Rattle.election.specs.declared.running.Elected.{Elected}

-- ---- the own master

abbrev pub is_held_failed : Health → Members → Option ℕ → Bool
is_held_failed health members None = false
is_held_failed health members (Some master) = has_failed health members master

-- what lasts began before, what begins is no tick old
abbrev pub lasting : Option ℕ → Option ℕ
lasting None = Some 0
lasting (Some age) = Some age

-- once the own master is held failed no more, both ages end; an election that runs goes on
abbrev pub judged : Candidate → Members → Health → Candidate
judged candidate members health =
    if is_held_failed health members (own_master members)
    then record candidate { failed = lasting candidate.failed }
    else record candidate { failed = None; started = None }

abbrev pub ticked_candidate : Candidate → Candidate
ticked_candidate candidate = record candidate { failed = option_map older candidate.failed; started = option_map older candidate.started }

-- ---- the start

-- it is held so for more ticks than replicas come before this one
abbrev pub is_past : Option ℕ → ℕ → Bool
is_past None place = false
is_past (Some age) place = nat_lt place age

-- no election began since, or the last one so many ticks ago
abbrev pub is_over : Option ℕ → ℕ → Bool
is_over None wait = true
is_over (Some age) wait = nat_le wait age

abbrev pub is_due_for : Candidate → Members → Option ℕ → Bool
is_due_for candidate members None = false
is_due_for candidate members (Some master) =
    is_past candidate.failed (place_behind members master) && is_over candidate.started (2 * members.node_timeout)

abbrev pub is_due : Candidate → Members → Bool
is_due candidate members = is_due_for candidate members (own_master members)

-- the epoch behind the current one, if one is left
abbrev pub next_epoch : ℕ → Option ℕ
next_epoch current = if nat_lt current (2 ^ 64 - 1) then Some (current + 1) else None

-- an election begins without a grant, and ends the one before
abbrev pub begun : Candidate → Option ℕ → Candidate
begun candidate None = candidate
begun candidate (Some epoch) = record candidate { started = Some 0; election = Some (record { epoch = epoch; granted = row false }); planned = false }

-- one for which the master hands over is apart from the waits for a failed one
abbrev pub begun_planned : Candidate → Option ℕ → Candidate
begun_planned candidate None = candidate
begun_planned candidate (Some epoch) = record candidate { election = Some (record { epoch = epoch; granted = row false }); planned = true }

-- ---- grants

-- the grant is of this election, and of a voter
abbrev pub counts : Election → Members → ℕ → ℕ → Bool
counts election members from epoch = election.epoch == epoch && is_voter members from

-- a voter that grants it once more is none more
abbrev pub with_grant : Election → ℕ → Election
with_grant election from = record election { granted = slice_set election.granted from true }

-- more than half of the voters granted it
abbrev pub is_won : Election → Members → Bool
is_won election members = most_voters members (λ voter. slice_index_or election.granted voter false)

-- an election that is won is over
abbrev pub unless_won : Election → Members → Option Election
unless_won election members = if is_won election members then None else Some election

abbrev pub after_grant : Option Election → Members → ℕ → ℕ → Option Election
after_grant None members from epoch = None
after_grant (Some election) members from epoch =
    if counts election members from epoch then unless_won (with_grant election from) members else Some election

abbrev pub elected_in : Option Election → Members → ℕ → ℕ → Option Elected
elected_in None members from epoch = None
elected_in (Some election) members from epoch =
    if counts election members from epoch && is_won (with_grant election from) members then Some (record { epoch = epoch }) else None

-- the candidate behind a grant, and whether that elects it
abbrev pub counted : Candidate → Members → ℕ → ℕ → Candidate
counted candidate members from epoch = record candidate { election = after_grant candidate.election members from epoch }

abbrev pub elected : Candidate → Members → ℕ → ℕ → Option Elected
elected candidate members from epoch = elected_in candidate.election members from epoch

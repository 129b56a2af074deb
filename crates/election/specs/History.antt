-- What a node holds of the others, by what it heard (Redis Cluster specification, "Failure detection"; the times are ours).
use Rattle.std.specs.Prelude.{◌≡◌, ◌<◌, ◌≤◌, ◌+◌, ◌*◌, ◌==◌, ◌&&◌, not, ℕ, nat_le, Bool, false, List, [], ◌∷◌, All, Option, Some, None, option_map, slice_index_or, if◌then◌else◌}
use Rattle.election.specs.Failing.{has_failed, heard, reported, suspects, ticked}
use Rattle.election.specs.Health.{Health, first_health}
use Rattle.election.specs.Members.{Members, most_voters}

-- what comes to a node: a tick, a message of a node, or a report of it
pub data Heard : Type 0 where
  Tick : Heard
  Message : ℕ → Heard
  Report : ℕ → List Bool → Heard

-- what it holds behind all that came, the last first
abbrev pub health_after : List Heard → Health
health_after [] = first_health
health_after (Tick ∷ past) = ticked (health_after past)
health_after (Message from ∷ past) = heard (health_after past) from
health_after (Report from names ∷ past) = reported (health_after past) from names

-- how many ticks ago the last message of the node came; before the first one, all ticks count
abbrev pub ticks_since : ℕ → List Heard → ℕ
ticks_since node [] = 0
ticks_since node (Tick ∷ past) = ticks_since node past + 1
ticks_since node (Message from ∷ past) = if from == node then 0 else ticks_since node past
ticks_since node (Report from names ∷ past) = if from == node then 0 else ticks_since node past

-- how many ticks ago the last report of the voter came, if it names the node and no message of the node came since
abbrev pub named_since : ℕ → ℕ → List Heard → Option ℕ
named_since voter node [] = None
named_since voter node (Tick ∷ past) = option_map (λ ticks. ticks + 1) (named_since voter node past)
named_since voter node (Message from ∷ past) = if from == node then None else named_since voter node past
named_since voter node (Report from names ∷ past) =
    if from == voter then (if slice_index_or names node false then Some 0 else None)
    else (if from == node then None else named_since voter node past)

abbrev pub is_within : ℕ → Option ℕ → Bool
is_within bound None = false
is_within bound (Some ticks) = nat_le ticks bound

-- the voter suspects the node: this one where it is silent, another one where its last report says so
abbrev pub holds_suspected : List Heard → Members → ℕ → ℕ → Bool
holds_suspected past members node voter =
    if voter == members.me then not (node == members.me) && nat_le members.node_timeout (ticks_since node past)
    else is_within (2 * members.node_timeout) (named_since voter node past)

-- a node is suspected exactly where nothing came of it for so many ticks
abbrev pub SuspectsTheSilent : Type 0
SuspectsTheSilent = (past : List Heard) (members : Members) (node : ℕ) → node < 16 → members.node_timeout ≤ 1000000
    → suspects (health_after past) members node ≡ (not (node == members.me) && nat_le members.node_timeout (ticks_since node past))

-- it is held failed exactly where more than half of the voters suspect it
abbrev pub FailsByMostVoters : Type 0
FailsByMostVoters = (past : List Heard) (members : Members) (node : ℕ) → node < 16 → members.node_timeout ≤ 1000000
    → All (λ voter. voter < 16) members.voters
    → has_failed (health_after past) members node ≡ (not (node == members.me) && most_voters members (holds_suspected past members node))

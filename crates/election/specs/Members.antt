-- Who votes, and who copies whom, as a node knows it (Redis Cluster specification, "Replica election and promotion"; that the voters
-- are a fixed list is ours).
use Rattle.std.specs.Prelude.{ℕ, ◌==◌, ◌*◌, nat_lt, Bool, false, List, length, count_by, take, Option, Some, None, slice_index_or}
use Rattle.std.specs.List.{list_any}

-- the node's own number; how many ticks a node may be silent; the nodes that vote; for each node the master that it is a replica of,
-- if it is one
pub record Members : Type 0 where
  pub me : ℕ
  pub node_timeout : ℕ
  pub voters : List ℕ
  pub masters : List (Option ℕ)

-- the node votes
abbrev pub is_voter : Members → ℕ → Bool
is_voter members node = list_any (λ voter. voter == node) members.voters

-- the test passes for more than half of the voters
abbrev pub most_voters : Members → (ℕ → Bool) → Bool
most_voters members test = nat_lt (length members.voters) (2 * count_by test members.voters)

-- ---- replicas

-- the master is that one
abbrev pub is_that : Option ℕ → ℕ → Bool
is_that None master = false
is_that (Some other) master = other == master

-- the node is a replica of that master
abbrev pub follows : Members → ℕ → ℕ → Bool
follows members node master = is_that (slice_index_or members.masters node None) master

-- the master of this node, if it is a replica
abbrev pub own_master : Members → Option ℕ
own_master members = slice_index_or members.masters members.me None

-- the place of this node among the replicas of that master: how many of them have smaller numbers
abbrev pub place_behind : Members → ℕ → ℕ
place_behind members master = count_by (λ of. is_that of master) (take members.me members.masters)

-- Who is a replica of whom (Redis Cluster specification, "Replica election and promotion": the replicas of a master that was replaced
-- follow the node that took its place).
use Rattle.std.specs.Prelude.{ℕ, ◌==◌, Bool, false, List, length, map, Option, Some, None, slice_index_or, slice_set, if◌then◌else◌}
use Rattle.std.specs.List.{filter, range_with_len}
use Rattle.bus.specs.declared.message.Body.{Body}
use Rattle.bus.specs.declared.bodies.SlotsBody.TheVariants.{Claim}
use Rattle.bus.specs.declared.message.Body.TheVariants.{Slots}
use Rattle.bus.specs.declared.bodies.Replaced.{Replaced}
use Rattle.election.specs.Health.{no_candidate}
use Rattle.node_step.specs.State.{Handover, NodeState, own_master}

-- the number is that one
abbrev pub is_just : Option ℕ → ℕ → Bool
is_just None number = false
is_just (Some other) number = other == number

-- the replicas of a master, by rising number
abbrev pub replicas_of : List (Option ℕ) → ℕ → List ℕ
replicas_of masters master = filter (λ number. is_just (slice_index_or masters number None) master) (range_with_len 0 (length masters))

-- ---- a node takes the place of its master

-- the next master in the place of the former one
abbrev pub instead : ℕ → ℕ → Option ℕ → Option ℕ
instead former next None = None
instead former next (Some master) = if master == former then Some next else Some master

-- the next one is a master now, and whoever followed the former one follows it
abbrev pub succeeded : List (Option ℕ) → ℕ → ℕ → List (Option ℕ)
succeeded masters former next = slice_set (map (instead former next) masters) next None

-- what the former master said that it hands over is said by the next one no more
abbrev pub without_note : Handover → Handover
without_note handover = record handover { note = None; begun = None }

-- a node whose own master is another one now has no election any more, and no note
abbrev pub with_master : NodeState → ℕ → ℕ → NodeState
with_master node former next = record node {
  masters = succeeded node.masters former next;
  candidate = if is_just (own_master node) former then no_candidate else node.candidate;
  handover = if is_just (own_master node) former then without_note node.handover else node.handover;
}

-- whose place the sender of a claim took, if it was promoted
abbrev pub replaced_in : Body → Option Replaced
replaced_in (Slots (Claim slots replaced)) = replaced
replaced_in other = None

-- a node learns nothing of its own promotion by a message
abbrev pub following : NodeState → ℕ → Option Replaced → NodeState
following node from None = node
following node from (Some replaced) = if from == node.number then node else with_master node replaced.master from

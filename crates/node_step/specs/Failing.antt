-- What a node holds of the others (Redis Cluster specification, "Failure detection"; that any message is a sign of life, and that all
-- nodes report to all others, is ours).
use Rattle.std.specs.Prelude.{ℕ, option_map}
use Rattle.bus.specs.declared.message.Body.{Body}
use Rattle.bus.specs.declared.message.Body.TheVariants.{Report}
use Rattle.election.specs.Electing.{judged, ticked_candidate}
use Rattle.election.specs.Failing.{heard, older, reported, ticked}
use Rattle.election.specs.Health.{Health}
use Rattle.election.specs.Members.{Members}
use Rattle.node_step.specs.State.{Handover, NodeState}

-- who votes, and who copies whom, as the node knows it
abbrev pub members_of : NodeState → Members
members_of node = record { me = node.number; node_timeout = node.config.node_timeout; voters = node.config.voters; masters = node.masters }

-- since when the node holds its own master failed, if it does
abbrev pub judging : NodeState → NodeState
judging node = record node { candidate = judged node.candidate (members_of node) node.health }

-- whatever a message says, its sender lives; a report says whom the sender suspects
abbrev pub health_by : Health → ℕ → Body → Health
health_by health from (Report suspects) = reported health from suspects
health_by health from other = heard health from

abbrev pub hearing : NodeState → ℕ → Body → NodeState
hearing node from body = record node { health = health_by node.health from body }

-- the last election for a handover is a tick older
abbrev pub ticked_handover : Handover → Handover
ticked_handover handover = record handover { begun = option_map older handover.begun }

-- a tick counts before anything is judged by it
abbrev pub a_tick_older : NodeState → NodeState
a_tick_older node = judging (record node { health = ticked node.health; candidate = ticked_candidate node.candidate; handover = ticked_handover node.handover })

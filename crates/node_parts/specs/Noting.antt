-- What a replica noted of its master's handover, and drops where its master is another one.
use Rattle.std.specs.Prelude.{ℕ, ◌==◌, Option, Some, None, if◌then◌else◌}
use Rattle.bus.specs.declared.bodies.Handing.{Handing}
use Rattle.bus.specs.declared.bodies.Replaced.{Replaced}
use Rattle.election.specs.Health.{no_candidate}
use Rattle.node_step.specs.Roles.{is_just, without_note}
use Rattle.node_step.specs.State.{NodeState, own_master}
use Rattle.node_step.specs.Handovers.{is_at_end}

-- where the own master has a successor
abbrev pub note_of_former : NodeState → ℕ → Option Handing
note_of_former node former = if is_just (own_master node) former then node.handover.note else None

-- by what a message of that sender tells
abbrev pub note_dropped : NodeState → ℕ → Option Replaced → Option Handing
note_dropped node from None = None
note_dropped node from (Some replaced) = if from == node.number then None else note_of_former node replaced.master

-- the node with what it dropped, if it did
abbrev pub with_note : NodeState → Option Handing → NodeState
with_note node None = node
with_note node (Some handing) = record node { handover = record node.handover { note = Some handing } }

-- the node without the election and the note that it has because of the former master
abbrev pub without_master : NodeState → ℕ → NodeState
without_master node former = record node {
  candidate = if is_just (own_master node) former then no_candidate else node.candidate;
  handover = if is_just (own_master node) former then without_note node.handover else node.handover;
}

-- what the master hands over, if the node has all of its stream
abbrev pub handing_at_end : NodeState → Option Handing
handing_at_end node = if is_at_end node.stream node.handover.note then node.handover.note else None

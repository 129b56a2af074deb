-- What of a cluster's nodes and messages bears on planned handovers (Redis command reference, "CLUSTER FAILOVER"; the messages
-- are ours).
use Rattle.std.specs.Prelude.{ℕ, max, List, [], ◌∷◌, Option, Some, None, option_map, slice_get, if◌then◌else◌}
use Rattle.bus.specs.declared.message.Body.{Body}
use Rattle.bus.specs.declared.bodies.ElectionBody.TheVariants.{Pause, Paused}
use Rattle.bus.specs.declared.bodies.SlotsBody.TheVariants.{Claim}
use Rattle.bus.specs.declared.message.Body.TheVariants.{Slots, Election as OfElection}
use Rattle.bus.specs.declared.bodies.Handing.{Handing}
use Rattle.bus.specs.declared.bodies.Replaced.{Replaced}
use Rattle.election.specs.Health.{Candidate, Election}
use Rattle.slot_table.specs.declared.runs.Run.{Run}
use Rattle.handovers.specs.Peers.{Peer, Peers, Said}
use Rattle.handovers.specs.Peers.Said.{Asks, Hands, Took, Nothing}
use Rattle.node_step.specs.Handovers.{handing_of}
use Rattle.node_step.specs.State.{NodeState, own_master}

-- the newest epoch of the slots that are handed over
abbrev pub newest_in : List (Run ℕ) → ℕ
newest_in [] = 0
newest_in (run ∷ runs) = max run.value (newest_in runs)

abbrev pub newest_of : Handing → ℕ
newest_of handing = newest_in handing.slots

-- the epoch of an election for a handover
abbrev pub planned_epoch : Candidate → Option ℕ
planned_epoch candidate = if candidate.planned then option_map (λ (election : Election). election.epoch) candidate.election else None

abbrev pub peer_of : NodeState → Peer Handing
peer_of node = record {
  master = own_master node;
  hands = handing_of node;
  current = node.current_epoch;
  paused = node.paused;
  note = node.handover.note;
  planned = planned_epoch node.candidate;
  replaced = option_map (λ (replaced : Replaced). replaced.master) node.replaced;
}

-- a node that isn't there takes part in none
abbrev pub no_handing : Handing
no_handing = record { stream = record { node = 0; epoch = 0 }; offset = 0; slots = [] }

abbrev pub nobody : Peer Handing
nobody = record { master = None; hands = no_handing; current = 0; paused = None; note = None; planned = None; replaced = None }

abbrev pub peer_at : Option NodeState → Peer Handing
peer_at None = nobody
peer_at (Some node) = peer_of node

abbrev pub peers : List NodeState → Peers Handing
peers nodes number = peer_at (slice_get nodes number)

-- what a message says of handovers
abbrev pub took : Option Replaced → Said Handing
took None = Nothing
took (Some replaced) = Took replaced.master

abbrev pub said_in : Body → Said Handing
said_in (OfElection (Pause stream)) = Asks
said_in (OfElection (Paused handing)) = Hands handing
said_in (Slots (Claim slots replaced)) = took replaced
said_in other = Nothing

-- What may happen to a node in a planned handover (Redis command reference, "CLUSTER FAILOVER"; the messages are ours).
use Rattle.std.specs.Prelude.{◌≡◌, ◌≢◌, ◌≤◌, ◌+◌, ◌⊎◌, ℕ, Some, None}
use Rattle.handovers.specs.Peers.{Peer, Peers}

-- one node is another, and no other node
pub record ChangesPeer {H : Type 0} (old new : Peers H) (node : ℕ) (peer : Peer H) : Type 0 where
  pub here : new node ≡ peer
  pub there : (other : ℕ) → other ≢ node → new other ≡ old other

-- whatever it does else, a node that hands over to a replica stands still
pub record GoesOn {H : Type 0} (peers : Peers H) (old new : Peer H) : Type 0 where
  pub master : new.master ≡ old.master
  pub current : old.current ≤ new.current
  pub paused : new.paused ≡ old.paused
  pub note : new.note ≡ old.note
  pub planned : (new.planned ≡ old.planned) ⊎ (new.planned ≡ None)
  pub replaced : new.replaced ≡ old.replaced
  pub still : (replica : ℕ) → old.paused ≡ Some replica → (peers replica).master ≢ None → new.hands ≡ old.hands

-- a replica follows the node that took its master's place
pub record FollowsNext {H : Type 0} (former next : ℕ) (old new : Peer H) : Type 0 where
  pub follows : old.master ≡ Some former
  pub master : new.master ≡ Some next
  pub current : old.current ≤ new.current
  pub paused : new.paused ≡ old.paused
  pub note : new.note ≡ None
  pub planned : new.planned ≡ None
  pub replaced : new.replaced ≡ old.replaced

-- a master is asked to hand over, and does
pub record Pauses {H : Type 0} (replica : ℕ) (old new : Peer H) : Type 0 where
  pub is_master : old.master ≡ None
  pub free : (old.paused ≡ None) ⊎ (old.paused ≡ Some replica)
  pub paused : new.paused ≡ Some replica
  pub master : new.master ≡ old.master
  pub hands : new.hands ≡ old.hands
  pub current : old.current ≤ new.current
  pub note : new.note ≡ old.note
  pub planned : new.planned ≡ old.planned
  pub replaced : new.replaced ≡ old.replaced

-- a replica notes what its master hands over
pub record Notes {H : Type 0} (handed : H) (epoch : ℕ) (old new : Peer H) : Type 0 where
  pub is_replica : old.master ≢ None
  pub master : new.master ≡ old.master
  pub current : old.current ≤ new.current
  pub knows : epoch ≤ new.current
  pub paused : new.paused ≡ old.paused
  pub note : new.note ≡ Some handed
  pub planned : new.planned ≡ old.planned
  pub replaced : new.replaced ≡ old.replaced

-- an election begins, where there is a note
pub record Begins {H : Type 0} (handed : H) (old new : Peer H) : Type 0 where
  pub noted : old.note ≡ Some handed
  pub master : new.master ≡ old.master
  pub current : new.current ≡ old.current + 1
  pub paused : new.paused ≡ old.paused
  pub note : new.note ≡ old.note
  pub planned : new.planned ≡ Some (old.current + 1)
  pub replaced : new.replaced ≡ old.replaced

-- a replica is elected, and takes its master's place
pub record Succeeds {H : Type 0} (handed : H) (former epoch : ℕ) (old new : Peer H) : Type 0 where
  pub follows : old.master ≡ Some former
  pub noted : old.note ≡ Some handed
  pub elected : old.planned ≡ Some epoch
  pub master : new.master ≡ None
  pub paused : new.paused ≡ old.paused
  pub note : new.note ≡ None
  pub planned : new.planned ≡ None
  pub replaced : new.replaced ≡ Some former

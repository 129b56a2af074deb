-- What holds of planned handovers, over all nodes (ours).
use Rattle.std.specs.Prelude.{◌≡◌, ◌≢◌, ◌<◌, ◌≤◌, ◌⊎◌, ⊤, ℕ, Some, None}
use Rattle.handovers.specs.Peers.{Peer, Peers, Said}
use Rattle.handovers.specs.Peers.Said.{Asks, Hands, Took, Nothing}

-- a node hands over
pub record IsPaused {H : Type 0} (peer : Peer H) : Type 0 where
  pub replica : ℕ
  pub is : peer.paused ≡ Some replica

-- it took that node's place: it is a master, and that one hands over to it
pub record HasReplaced {H : Type 0} (peers : Peers H) (node former : ℕ) : Type 0 where
  pub master : (peers node).master ≡ None
  pub paused : (peers former).paused ≡ Some node

-- of what is handed over, the newest epoch of a slot
module _ {H : Type 0} (newest : H → ℕ) where
  -- a replica has noted what its master hands over to it; the master stands still, and the replica knows its epochs
  pub record IsNoted (peers : Peers H) (node : ℕ) (handed : H) : Type 0 where
    pub from : ℕ
    pub master : (peers node).master ≡ Some from
    pub paused : (peers from).paused ≡ Some node
    pub still : (peers from).hands ≡ handed
    pub epoch : newest handed ≤ (peers node).current

  -- an election is above all that is handed over
  pub record IsAbove (peers : Peers H) (node epoch : ℕ) : Type 0 where
    pub handed : H
    pub note : (peers node).note ≡ Some handed
    pub above : newest handed < epoch

  -- a node that hands over is a master, and the other one follows it, or was promoted; a note is true; an election for a handover is beside
  -- a note; and whoever has taken a place did so by a handover
  pub record PeerStands (peers : Peers H) (node : ℕ) : Type 0 where
    pub pauses : (replica : ℕ) → (peers node).paused ≡ Some replica → (peers node).master ≡ None
    pub led : (replica : ℕ) → (peers node).paused ≡ Some replica → ((peers replica).master ≡ None) ⊎ ((peers replica).master ≡ Some node)
    pub noted : (handed : H) → (peers node).note ≡ Some handed → IsNoted peers node handed
    pub elected : (epoch : ℕ) → (peers node).planned ≡ Some epoch → IsAbove peers node epoch
    pub replaced : (former : ℕ) → (peers node).replaced ≡ Some former → HasReplaced peers node former

  -- what a node said to another, by a message of that epoch, is still true. A late request to hand over comes from a replica of that node, or
  -- the node hands over already
  abbrev pub IsTrue : Peers H → ℕ → ℕ → ℕ → Said H → Type 0
  IsTrue peers from to epoch Asks = IsPaused (peers to) ⊎ ((peers from).master ≡ Some to)
  IsTrue peers from to epoch (Hands handed) = ((peers from).paused ≡ Some to) × ((peers to).master ≢ None → (peers from).hands ≡ handed) × (newest handed ≤ epoch)
  IsTrue peers from to epoch (Took former) = HasReplaced peers from former
  IsTrue peers from to epoch Nothing = ⊤

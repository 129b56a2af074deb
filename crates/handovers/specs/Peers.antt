-- What of a node bears on a planned handover (Redis command reference, "CLUSTER FAILOVER", of which this is a profile).
use Rattle.std.specs.Prelude.{ℕ, Option}

-- the node's own master, if it is a replica; what it would hand over now; its epoch; the replica that it hands over to, if it does; what
-- its master said that it hands over; the epoch of its election for that, if one runs; and whose place it took
pub record Peer (H : Type 0) : Type 0 where
  pub master : Option ℕ
  pub hands : H
  pub current : ℕ
  pub paused : Option ℕ
  pub note : Option H
  pub planned : Option ℕ
  pub replaced : Option ℕ

abbrev pub Peers : Type 0 → Type 0
Peers H = ℕ → Peer H

-- what nodes say of it: a replica asks its master to hand over; a master does; and a node says whose place it took
pub data Said (H : Type 0) : Type 0 where
  Asks : Said H
  Hands : H → Said H
  Took : ℕ → Said H
  Nothing : Said H

-- What a client knows (Redis Cluster specification, "Clients first connection and handling of redirections").
use Rattle.std.specs.Prelude.{ℕ, List, [], ◌∷◌, Option, None, false, replicate}
use Rattle.redirection.specs.Address.{Place}
use Rattle.smart_client.specs.declared.call.Call.{Call}
use Rattle.smart_client.specs.declared.peers.Peer.{Peer}

-- the nodes that it knows, the first being the one that it begins with; for each slot the place of its owner among them, where it
-- was told; how often a call may begin again for TRYAGAIN; and the call that is under way
pub record ClientState : Type 0 where
  pub peers : List Peer
  pub owners : List (Option ℕ)
  pub limit : ℕ
  pub call : Option Call

-- one that knows no more than where to begin
abbrev pub first_client : Place → ℕ → ClientState
first_client start limit = record {
  peers = record { address = start; is_connected = false } ∷ [];
  owners = replicate 16384 None;
  limit = limit;
  call = None;
}

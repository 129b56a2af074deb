-- Where clients reach a node, and how that is written (Redis Cluster specification, "MOVED Redirection": the endpoint
-- and the port, with a colon between them).
use Rattle.std.specs.Prelude.{◌≢◌, ◌≤◌, ℕ, List, ◌++◌, codes, decimal, IsTrue}
use Rattle.cluster_config.specs.Texts.{is_host}

-- a host, and a port at it
pub record Place : Type 0 where
  pub host : List ℕ
  pub port : ℕ

-- `host:port`
abbrev pub address_text : Place → List ℕ
address_text address = address.host ++ codes ":" ++ decimal address.port

-- clients can reach a node there: the host is one, and the port is from 1 to 65535
pub record IsAddress (address : Place) : Type 0 where
  pub host : IsTrue (is_host address.host)
  pub port : (1 ≤ address.port) × (address.port ≤ 65535)

-- the text is that of no address
abbrev pub IsNoAddress : List ℕ → Type 0
IsNoAddress text = (address : Place) → IsAddress address → text ≢ address_text address

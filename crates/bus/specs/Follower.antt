-- A replica: what it has of its master's stream, and the keyspace that the writes there left (Redis documentation, "Redis
-- replication").
use Rattle.bus.specs.Stream.{StreamView}
use Rattle.keyspace.specs.Keyspace.{Keyspace}

pub record Follower : Type 0 where
  pub stream : StreamView
  pub keyspace : Keyspace

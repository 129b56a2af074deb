-- The nodes that a run speaks to (Redis Cluster specification, "Moving hash slots": the node that the slots leave is the source, the one
-- that they come to the destination).
use Rattle.std.specs.Prelude.{List}
use Rattle.redirection.specs.Address.{Place}

-- where these two are reached, and the other masters, by rising id
pub record KnownNodes : Type 0 where
  pub source : Place
  pub destination : Place
  pub others : List Place

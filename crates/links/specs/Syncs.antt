-- How far a replica is (Redis documentation, "Redis replication": a replica says which part of the stream it has).
use Rattle.std.specs.Prelude.{Bool, true, false}
use Rattle.bus.specs.declared.message.Body.{Body}
use Rattle.bus.specs.declared.bodies.StreamBody.TheVariants as of_stream
use Rattle.bus.specs.declared.message.Body.TheVariants as body

-- the message says how much of its master's stream the sender has
abbrev pub is_sync : Body → Bool
is_sync (body.Stream (of_stream.Sync sync)) = true
is_sync other = false

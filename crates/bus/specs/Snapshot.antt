-- What a snapshot leaves (Redis documentation, "Redis replication": full resynchronization, where the replica gets all data of
-- its master and then the writes behind it).
use Rattle.std.specs.Prelude.{◌&&◌, nat_le, Bool, [], if◌then◌else◌}
use Rattle.bus.specs.Follower.{Follower}
use Rattle.bus.specs.Stream.{StreamView, begun, is_same}
use Rattle.bus.specs.declared.snapshot.Snapshot.{Snapshot}
use Rattle.keyspace.specs.Keyspace.{keyspace_of}

-- it is of the own stream, and not past the writes that were executed
abbrev pub is_known : StreamView → Snapshot → Bool
is_known stream snapshot = is_same snapshot.stream stream.held.id && nat_le snapshot.offset stream.offset

-- all is the snapshot's
abbrev pub replaced : Snapshot → Follower → Follower
replaced snapshot old = record {
  stream = record old.stream { held = begun snapshot.stream snapshot.offset; offset = snapshot.offset; partial = [] };
  keyspace = keyspace_of snapshot.pairs;
}

-- a known one changes nothing
abbrev pub restored : Snapshot → Follower → Follower
restored snapshot old = if is_known old.stream snapshot then old else replaced snapshot old

-- What holds of replicas of true streams (ours).
use Rattle.std.specs.FinMap as map
use Rattle.std.specs.List.{AllByRecursion}
use Rattle.std.specs.Prelude.{List}
use Rattle.bus.specs.Follower.{Follower}
use Rattle.bus.specs.Stream.{first_stream}
use Rattle.bus.specs.declared.stream_id.StreamId.{StreamId}
use Rattle.true_streams.specs.Full.{Follows, FullStreams, IsTruePiece, IsTrueSnapshot}
use Rattle.true_streams.specs.Meeting.{Arrival, Meets, MeetsAll}
use Rattle.true_streams.specs.Meeting.Arrival.{Offered, Restoring}

abbrev pub IsTrue : FullStreams → Arrival → Type 0
IsTrue full (Offered piece) = IsTruePiece full piece
IsTrue full (Restoring snapshot) = IsTrueSnapshot full snapshot

-- the replica follows the stream that it names
abbrev pub FollowsOwn : FullStreams → Follower → Type 0
FollowsOwn full replica = Follows (full replica.stream.held.id) replica

-- a new one has nothing of its stream, and no keys
abbrev pub new_replica : StreamId → Follower
new_replica id = record { stream = first_stream id; keyspace = map.empty }

abbrev pub EachStepFollows : Type 0
EachStepFollows = (full : FullStreams) (old : Follower) (arrival : Arrival) (new : Follower) → FollowsOwn full old → IsTrue full arrival → Meets old arrival new → FollowsOwn full new

abbrev pub ReplicasFollow : Type 0
ReplicasFollow = (full : FullStreams) (id : StreamId) (arrivals : List Arrival) (last : Follower) → AllByRecursion (IsTrue full) arrivals → MeetsAll (new_replica id) arrivals last → FollowsOwn full last

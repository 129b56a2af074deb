-- The whole of a stream, what is true of it, and who follows it (Redis documentation, "Redis replication": a replica has the
-- data set of its master at an offset of the stream; the words are ours).
use Rattle.std.specs.Prelude.{◌≡◌, ◌≤◌, ℕ, List, length, take, drop, All, Option, None, Some}
use Rattle.bus.specs.Follower.{Follower}
use Rattle.bus.specs.Piece.{PieceView, piece_end}
use Rattle.bus.specs.Reading.{IsReadAs}
use Rattle.bus.specs.Stream.{received}
use Rattle.bus.specs.declared.snapshot.Snapshot.{Snapshot}
use Rattle.bus.specs.declared.stream_id.Base.{Base}
use Rattle.bus.specs.declared.stream_id.StreamId.{StreamId}
use Rattle.keyspace.specs.Commands.{replay}
use Rattle.keyspace.specs.Keyspace.{Keyspace, keyspace_of}
use Rattle.resp2.specs.Stream.{stream_spelling}
use Rattle.resp_values.specs.Request.{IsRequest}

-- all bytes that were ever put behind each stream
abbrev pub FullStreams : Type 0
FullStreams = StreamId → List ℕ

-- ---- what is true of streams

-- one stream goes on from another where both have the same bytes up to there
pub record Shares (full other : List ℕ) (end : ℕ) : Type 0 where
  pub here : end ≤ length full
  pub there : end ≤ length other
  pub same : take end full ≡ take end other

abbrev pub IsTrueBase : FullStreams → StreamId → Option Base → Type 0
IsTrueBase full id None = Unit {0}
IsTrueBase full id (Some base) = Shares (full id) (full base.stream) base.end

-- the bytes of a piece stand in its stream where it says
pub record IsTruePiece (full : FullStreams) (piece : PieceView) : Type 0 where
  pub within : piece_end piece ≤ length (full piece.stream)
  pub bytes : piece.bytes ≡ take (length piece.bytes) (drop piece.from (full piece.stream))
  pub base : IsTrueBase full piece.stream piece.base

-- the offset is the end of a request, and the requests up to it leave this keyspace
pub record IsStateAt (full : List ℕ) (offset : ℕ) (keyspace : Keyspace) : Type 0 where
  pub requests : List (List (List ℕ))
  pub within : offset ≤ length full
  pub each : All IsRequest requests
  pub spelled : take offset full ≡ stream_spelling requests
  pub replayed : keyspace ≡ (replay requests).last

abbrev pub IsTrueSnapshot : FullStreams → Snapshot → Type 0
IsTrueSnapshot full snapshot = IsStateAt (full snapshot.stream) snapshot.offset (keyspace_of snapshot.pairs)

-- ---- who follows one

-- what was received is the beginning of the stream; the offset counts the whole requests there; the keyspace is what they leave;
-- and the bytes that are kept stand there, too
pub record Follows (full : List ℕ) (replica : Follower) : Type 0 where
  pub requests : List (List (List ℕ))
  pub within : received replica.stream ≤ length full
  pub reads : IsReadAs (take (received replica.stream) full) requests replica.stream.partial
  pub offset : replica.stream.offset ≡ length (stream_spelling requests)
  pub keyspace : replica.keyspace ≡ (replay requests).last
  pub kept : replica.stream.held.bytes ≡ drop replica.stream.held.first (take (received replica.stream) full)

-- What a replica takes of its master's stream (Redis documentation, "Redis replication": partial resynchronization, and
-- "Replication ID explained": a promoted replica goes on under an id of its own, and the others follow it from the end of the
-- former one; pieces and refusals are ours).
use Rattle.std.specs.Prelude.{◌≡◌, ◌≤◌, ◌+◌, ◌-◌, ◌&&◌, ℕ, nat_lt, nat_le, List, ◌++◌, length, take, drop, min, Option, Some, None, if◌then◌else◌}
use Rattle.bus.specs.Follower.{Follower}
use Rattle.bus.specs.Reading.{IsReadAs}
use Rattle.bus.specs.Stream.{StreamView, cut, is_same, received, with_appended}
use Rattle.bus.specs.declared.stream_id.Base.{Base}
use Rattle.bus.specs.declared.stream_id.StreamId.{StreamId}
use Rattle.keyspace.specs.Commands.{replay_from}
use Rattle.resp2.specs.Stream.{stream_spelling}

-- bytes of a stream from an offset on; and, if a promotion began the stream, where it goes on from another one
pub record PieceView : Type 0 where
  pub stream : StreamId
  pub from : ℕ
  pub bytes : List ℕ
  pub base : Option Base

abbrev pub piece_end : PieceView → ℕ
piece_end piece = piece.from + length piece.bytes

-- ---- what is decided

-- what was received ends before the piece begins; the piece is of another stream; or what was received is of the piece's
-- stream up to a place
pub data PieceVerdict : Type 0 where
  Gap : PieceVerdict
  OtherStream : PieceVerdict
  Takes : ℕ → PieceVerdict

-- the piece's stream began as the own one, which ended there; no whole write is past that end
abbrev pub end_by_base : StreamView → Option Base → Option ℕ
end_by_base stream None = None
end_by_base stream (Some base) =
    if is_same base.stream stream.held.id && nat_le stream.offset base.end then Some (min (received stream) base.end) else None

-- up to where what was received is of the piece's stream
abbrev pub common_end : StreamView → PieceView → Option ℕ
common_end stream piece =
    if is_same piece.stream stream.held.id then Some (received stream) else end_by_base stream piece.base

abbrev pub judged : ℕ → Option ℕ → PieceVerdict
judged from None = OtherStream
judged from (Some place) = if nat_lt place from then Gap else Takes place

abbrev pub verdict_on : StreamView → PieceView → PieceVerdict
verdict_on stream piece = judged piece.from (common_end stream piece)

-- ---- what it leaves

-- the bytes past that place
abbrev pub news_in : PieceView → ℕ → List ℕ
news_in piece place = drop (place - piece.from) piece.bytes

-- what was received past the place is dropped; what is new of the piece comes behind it, while some bytes in front may be kept
-- no longer; and the requests that are whole now are executed
pub record TakesBehind (place : ℕ) (old : Follower) (piece : PieceView) (new : Follower) : Type 0 where
  pub requests : List (List (List ℕ))
  pub rest : List ℕ
  pub dropped : ℕ
  pub reads : IsReadAs (take (place - old.stream.offset) old.stream.partial ++ news_in piece place) requests rest
  pub within : dropped ≤ length (cut place piece.stream old.stream.held).bytes + length (news_in piece place)
  pub stream : new.stream ≡ record {
    held = with_appended dropped (news_in piece place) (cut place piece.stream old.stream.held);
    offset = old.stream.offset + length (stream_spelling requests);
    partial = rest;
    former = old.stream.former;
  }
  pub executed : new.keyspace ≡ (replay_from old.keyspace requests).last

-- a refused piece leaves nothing new
abbrev pub TakesBy : PieceVerdict → Follower → PieceView → Follower → Type 0
TakesBy Gap old piece new = ⊥
TakesBy OtherStream old piece new = ⊥
TakesBy (Takes place) old piece new = TakesBehind place old piece new

abbrev pub TakesPiece : Follower → PieceView → Follower → Type 0
TakesPiece old piece new = TakesBy (verdict_on old.stream piece) old piece new

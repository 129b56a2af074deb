-- What a master answers to a replica that tells how far it is (Redis documentation, "Redis replication": partial and full
-- resynchronization; the bound on a piece is ours).
use Rattle.std.specs.Prelude.{◌-◌, ◌==◌, ◌&&◌, ◌||◌, ℕ, nat_le, Bool, false, take, drop, Option, Some, None, if◌then◌else◌}
use Rattle.bus.specs.Piece.{PieceView}
use Rattle.bus.specs.Stream.{Held, StreamView, end_of, is_same}
use Rattle.bus.specs.declared.answer.SyncAnswer.{SyncAnswer}
use Rattle.bus.specs.declared.answer.SyncAnswer.TheVariants.{UpToDate, Piece, Snapshot}
use Rattle.bus.specs.declared.stream_id.Base.{Base}
use Rattle.bus.specs.declared.sync.Sync.{Sync}

-- the former stream is this one up to its end
abbrev pub is_of_former : Option Base → Sync → Bool
is_of_former None sync = false
is_of_former (Some former) sync = is_same sync.stream former.stream && nat_le sync.received former.end

-- what the replica has is of this stream
abbrev pub is_own : StreamView → Sync → Bool
is_own stream sync = is_same sync.stream stream.held.id || is_of_former stream.former sync

-- the bytes from there on are kept
abbrev pub has_from : Held → ℕ → Bool
has_from held place = nat_le held.first place && nat_le place (end_of held)

-- they are, as many as go into a piece
abbrev pub piece_from : StreamView → ℕ → PieceView
piece_from stream place = record {
  stream = stream.held.id;
  from = place;
  bytes = take 65536 (drop (place - stream.held.first) stream.held.bytes);
  base = stream.former;
}

-- none are no piece to one that has this stream; to one that has the former stream they are, and tell it the id
abbrev pub piece_or_nothing : StreamView → Sync → SyncAnswer
piece_or_nothing stream sync =
    if is_same sync.stream stream.held.id && (sync.received == end_of stream.held) then UpToDate
    else Piece (piece_from stream sync.received)

abbrev pub answer_to : StreamView → Sync → SyncAnswer
answer_to stream sync =
    if is_own stream sync && has_from stream.held sync.received then piece_or_nothing stream sync else Snapshot

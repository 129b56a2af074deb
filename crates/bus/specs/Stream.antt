-- The stream of a master's writes, and what a node has of it (Redis documentation, "Redis replication": "How Redis
-- replication works", "Replication ID explained"; ids of a node and an epoch, and offsets that begin at 0, are ours).
use Rattle.std.specs.Prelude.{◌≡◌, ◌≤◌, ◌+◌, ◌-◌, ◌==◌, ◌&&◌, ℕ, Bool, List, [], ◌++◌, length, take, drop, min, Option, Some, None}
use Rattle.bus.specs.declared.stream_id.Base.{Base}
use Rattle.bus.specs.declared.stream_id.StreamId.{StreamId}

abbrev pub is_same : StreamId → StreamId → Bool
is_same id other = id.node == other.node && id.epoch == other.epoch

-- ---- bytes of a stream

-- those that are kept, from the first offset of which they are
pub record Held : Type 0 where
  pub id : StreamId
  pub first : ℕ
  pub bytes : List ℕ

abbrev pub end_of : Held → ℕ
end_of held = held.first + length held.bytes

-- none yet: the next byte is the one at this offset
abbrev pub begun : StreamId → ℕ → Held
begun id offset = record { id = id; first = offset; bytes = [] }

-- more bytes, while so many in front are kept no longer (ours)
abbrev pub with_appended : ℕ → List ℕ → Held → Held
with_appended dropped bytes held = record held { first = held.first + dropped; bytes = drop dropped (held.bytes ++ bytes) }

-- those before an offset, under this id from now on
abbrev pub cut : ℕ → StreamId → Held → Held
cut offset id held = record { id = id; first = min held.first offset; bytes = take (offset - held.first) held.bytes }

-- ---- a node

-- the bytes that it has; the end of the last whole write; the beginning of a write that it received past it; and, since it
-- was promoted, the end of the stream that it followed before. A master has only whole writes
pub record StreamView : Type 0 where
  pub held : Held
  pub offset : ℕ
  pub partial : List ℕ
  pub former : Option Base

-- it has no beginning of a write past them
abbrev pub is_whole : StreamView → Bool
is_whole stream = length stream.partial == 0

-- where what it received ends
abbrev pub received : StreamView → ℕ
received stream = end_of stream.held

-- at the start it has nothing of the stream
abbrev pub first_stream : StreamId → StreamView
first_stream id = record { held = begun id 0; offset = 0; partial = []; former = None }

-- a master puts the bytes of writes behind its stream
abbrev pub written : ℕ → List ℕ → StreamView → StreamView
written dropped bytes stream = record stream { held = with_appended dropped bytes stream.held; offset = stream.offset + length bytes }

-- the same, with some number of bytes in front that are kept no longer; the last ones are, as many as are to be kept
pub record Writes (kept : ℕ) (bytes : List ℕ) (old new : StreamView) : Type 0 where
  pub dropped : ℕ
  pub within : dropped ≤ length old.held.bytes + length bytes - kept
  pub stream : new ≡ written dropped bytes old

-- a replica that becomes a master drops the begun write and goes on from its offset under an id of its own. The former id
-- stays valid up to there
abbrev pub promoted : StreamId → StreamView → StreamView
promoted id stream = record {
  held = cut stream.offset id stream.held;
  offset = stream.offset;
  partial = [];
  former = Some (record { stream = stream.held.id; end = stream.offset });
}

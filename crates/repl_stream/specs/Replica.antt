-- A replica: a node's stream with the keyspace of its store. In front of the stores stands what a store contains.
use Rattle.std.specs.Prelude.{◌≡◌, ◌≤◌, ℕ, [], List, length}
use Rattle.keyspace.specs.Keyspace.{Keyspace}
use Rattle.bus.specs.Follower.{Follower}
use Rattle.bus.specs.Piece.{PieceView, TakesBehind, TakesPiece}
use Rattle.bus.specs.Snapshot.{restored}
use Rattle.bus.specs.Stream.{StreamView, begun, received, Writes}
use Rattle.bus.specs.declared.snapshot.Snapshot.{Snapshot}
use Rattle.bus.specs.declared.stream_id.StreamId.{StreamId}
use Rattle.repl_stream.specs.NodeStream.{NodeStreamView}

-- the two together
abbrev pub follower_in : {S : Type 0} → (S → Keyspace) → NodeStreamView → S → Follower
follower_in contents node store = record { stream = node.stream; keyspace = contents store }

-- it takes a piece
abbrev pub TakesIn : {S : Type 0} → (S → Keyspace) → NodeStreamView → S → PieceView → NodeStreamView → S → Type 0
TakesIn contents old before piece new after = TakesPiece (follower_in contents old before) piece (follower_in contents new after)

-- it takes what is new of a piece behind that place
abbrev pub TakesFrom : {S : Type 0} → (S → Keyspace) → ℕ → NodeStreamView → S → PieceView → NodeStreamView → S → Type 0
TakesFrom contents place old before piece new after =
    TakesBehind place (follower_in contents old before) piece (follower_in contents new after)

-- it takes a snapshot
abbrev pub Restores : {S : Type 0} → (S → Keyspace) → NodeStreamView → S → Snapshot → NodeStreamView → S → Type 0
Restores contents old before snapshot new after =
    follower_in contents new after ≡ restored snapshot (follower_in contents old before)

-- its stream and its keyspace are as they were
abbrev pub StaysIn : {S : Type 0} → (S → Keyspace) → NodeStreamView → S → NodeStreamView → S → Type 0
StaysIn contents old before new after = (new.stream ≡ old.stream) × (contents after ≡ contents before)

-- ---- its stream

-- the place is behind the last whole write, and not behind what was received
abbrev pub IsWithin : StreamView → ℕ → Type 0
IsWithin stream place = (stream.offset ≤ place) × (place ≤ received stream)

-- nor before the piece
abbrev pub IsWithinBoth : StreamView → PieceView → ℕ → Type 0
IsWithinBoth stream piece place = (piece.from ≤ place) × (stream.offset ≤ place) × (place ≤ received stream)

-- so many bytes of writes are put behind it, whichever these are
abbrev pub WritesAny : ℕ → ℕ → StreamView → StreamView → Type 0
WritesAny kept count old new = (bytes : List ℕ) → length bytes ≡ count → Writes kept bytes old new

-- it goes on from that offset of that stream, and nothing of it is kept
abbrev pub begun_again : StreamId → ℕ → StreamView → StreamView
begun_again id offset stream = record stream { held = begun id offset; offset = offset; partial = [] }

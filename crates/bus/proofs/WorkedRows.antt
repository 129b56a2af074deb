-- Worked values.
use Rattle.std.proofs.Common.{◌≡◌, ℕ, List, [], ◌∷◌, true, false, Option, Some, None, refl}
use Rattle.std.specs.FinMap as map
use Rattle.std.specs.List.{range_with_len}
use Rattle.std.specs.Prelude.{codes}
use Rattle.bus.specs.Piece.{PieceView, verdict_on, news_in}
use Rattle.bus.specs.Piece.PieceVerdict.{Gap, OtherStream, Takes}
use Rattle.bus.specs.Snapshot.{is_known, restored}
use Rattle.bus.specs.Stream.{Held, StreamView, cut, first_stream, promoted, with_appended, written}
use Rattle.bus.specs.Syncing.{answer_to}
use Rattle.bus.specs.declared.answer.SyncAnswer.TheVariants as answer
use Rattle.bus.specs.declared.snapshot.Snapshot.{Snapshot}
use Rattle.bus.specs.declared.stream_id.Base.{Base}
use Rattle.bus.specs.declared.stream_id.StreamId.{StreamId}
use Rattle.keyspace.specs.declared.value.Value.TheVariants.{Str}

abbrev id : ℕ → ℕ → StreamId
id node epoch = record { node = node; epoch = epoch }

abbrev base : ℕ → ℕ → ℕ → Option Base
base node epoch end = Some (record { stream = id node epoch; end = end })

abbrev piece : StreamId → ℕ → List ℕ → Option Base → PieceView
piece stream from bytes former = record { stream = stream; from = from; bytes = bytes; base = former }

abbrev held : StreamId → ℕ → ℕ → Held
held stream first len = record { id = stream; first = first; bytes = range_with_len first len }

-- ---- pieces

-- of the stream (2, 0) a replica received a write of 27 bytes and 10 bytes of the next
abbrev follower : StreamView
follower = record { held = held (id 2 0) 0 37; offset = 27; partial = range_with_len 27 10; former = None }

-- an old piece has no news
old_piece : verdict_on follower (piece (id 2 0) 0 (range_with_len 0 27) None) ≡ Takes 37
old_piece = refl

no_news : news_in (piece (id 2 0) 0 (range_with_len 0 27) None) 37 ≡ []
no_news = refl

nothing_changes : with_appended 0 [] (cut 37 (id 2 0) follower.held) ≡ follower.held
nothing_changes = refl

gap : verdict_on follower (piece (id 2 0) 54 [] None) ≡ Gap
gap = refl

stranger : verdict_on follower (piece (id 9 9) 27 [] None) ≡ OtherStream
stranger = refl

-- another replica that was promoted goes on from 27; what was received past it is dropped
follows_the_promoted : verdict_on follower (piece (id 5 4) 27 [] (base 2 0 27)) ≡ Takes 27
follows_the_promoted = refl

dropped : cut 27 (id 5 4) follower.held ≡ held (id 5 4) 0 27
dropped = refl

-- from a place past what is left there is a gap
gap_behind_the_end : verdict_on follower (piece (id 5 4) 30 [] (base 2 0 27)) ≡ Gap
gap_behind_the_end = refl

-- one whose whole writes are past the end isn't of that stream
too_far : verdict_on (record follower { offset = 37; partial = [] }) (piece (id 5 4) 27 [] (base 2 0 27)) ≡ OtherStream
too_far = refl

-- ---- a promotion

abbrev master : StreamView
master = record { held = held (id 5 4) 0 27; offset = 27; partial = []; former = base 2 0 27 }

promotion : promoted (id 5 4) follower ≡ master
promotion = refl

follows_on : answer_to master (record { stream = id 2 0; received = 27 }) ≡ answer.Piece (piece (id 5 4) 27 [] (base 2 0 27))
follows_on = refl

went_further : answer_to master (record { stream = id 2 0; received = 54 }) ≡ answer.Snapshot
went_further = refl

is_there : answer_to master (record { stream = id 5 4; received = 27 }) ≡ answer.UpToDate
is_there = refl

-- it has a write of 3 bytes next
abbrev later : StreamView
later = written 0 (27 ∷ 28 ∷ 29 ∷ []) master

goes_on : later ≡ record { held = held (id 5 4) 0 30; offset = 30; partial = []; former = base 2 0 27 }
goes_on = refl

next_write : answer_to later (record { stream = id 2 0; received = 27 }) ≡ answer.Piece (piece (id 5 4) 27 (27 ∷ 28 ∷ 29 ∷ []) (base 2 0 27))
next_write = refl

-- ---- snapshots

abbrev snapshot : ℕ → Snapshot
snapshot offset = record { stream = id 2 0; offset = offset; pairs = (codes "a", Str (codes "2")) ∷ [] }

same_place : is_known follower (snapshot 27) ≡ true
same_place = refl

further : is_known follower (snapshot 54) ≡ false
further = refl

of_another_stream : is_known follower (record (snapshot 27) { stream = id 9 9 }) ≡ false
of_another_stream = refl

place_after : (restored (snapshot 54) (record { stream = follower; keyspace = map.empty })).stream ≡ record (first_stream (id 2 0)) { held = held (id 2 0) 54 0; offset = 54 }
place_after = refl

-- ---- a master that keeps the last 64 bytes

abbrev backlog : StreamView
backlog = written 17 (range_with_len 54 27) (record { held = held (id 2 0) 0 54; offset = 54; partial = []; former = None })

last_bytes : backlog ≡ record { held = held (id 2 0) 17 64; offset = 81; partial = []; former = None }
last_bytes = refl

before_them : answer_to backlog (record { stream = id 2 0; received = 0 }) ≡ answer.Snapshot
before_them = refl

among_them : answer_to backlog (record { stream = id 2 0; received = 27 }) ≡ answer.Piece (piece (id 2 0) 27 (range_with_len 27 54) None)
among_them = refl

at_the_end : answer_to backlog (record { stream = id 2 0; received = 81 }) ≡ answer.UpToDate
at_the_end = refl

past_the_end : answer_to backlog (record { stream = id 2 0; received = 82 }) ≡ answer.Snapshot
past_the_end = refl

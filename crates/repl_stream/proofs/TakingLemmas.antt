-- What the steps come to by which a piece is taken.
use Rattle.std.proofs.Common.{◌≡◌, ℕ, ◌+◌, ◌-◌, ◌≤◌, List, ◌++◌, length, take, sym, ap, subst, ◌∙◌, arith}
use Rattle.std.proofs.lemmas.List.{length-append, length-drop, length-take}
use Rattle.keyspace.specs.Keyspace.{Keyspace}
use Rattle.resp2.specs.Stream.{stream_spelling}
use Rattle.repl_stream.specs.Reading.{IsPlanned}
use Rattle.bus.specs.Piece.{PieceView, TakesBehind, news_in}
use Rattle.bus.specs.Reading.{IsReadAs}
use Rattle.bus.specs.Stream.{Held, StreamView, cut, end_of, received, with_appended}
use Rattle.bus.specs.declared.stream_id.StreamId.{StreamId}

-- bytes put behind a place end as far behind it
pub end_of-taken : (held : Held) (place : ℕ) (id : StreamId) (dropped : ℕ) (news : List ℕ)
    → place ≤ end_of held → dropped ≤ length (cut place id held).bytes + length news
    → end_of (with_appended dropped news (cut place id held)) ≡ place + length news
end_of-taken held place id dropped news inside within =
    omega (arith, inside, within, length-drop dropped (take (place - held.first) held.bytes ++ news), length-append (take (place - held.first) held.bytes) news, length-take (place - held.first) held.bytes)

pub planned_of : (keyspace after : Keyspace) (count : ℕ) (stayed bytes partial news rest : List ℕ) → stayed ≡ take count bytes → bytes ≡ partial
    → IsPlanned keyspace (stayed ++ news) after rest → IsPlanned keyspace (take count partial ++ news) after rest
planned_of keyspace after count stayed bytes partial news rest front same planned =
    subst (λ (t : List ℕ). IsPlanned keyspace (t ++ news) after rest) (front ∙ ap (λ (t : List ℕ). take count t) same) planned

-- what was read is as long as what stayed with the news
pub read_len : (keyspace after : Keyspace) (old : StreamView) (place : ℕ) (news rest : List ℕ)
    → end_of old.held ≡ old.offset + length old.partial → old.offset ≤ place → place ≤ received old
    → (planned : IsPlanned keyspace (take (place - old.offset) old.partial ++ news) after rest)
    → old.offset + length (stream_spelling planned.requests) + length rest ≡ place + length news
read_len keyspace after old place news rest fits behind inside planned =
    let read = ap (λ (t : List ℕ). length t) planned.reads.spelled in
    omega (arith, fits, behind, inside, read, length-append (stream_spelling planned.requests) rest, length-append (take (place - old.offset) old.partial) news, length-take (place - old.offset) old.partial)

-- bytes stand behind a place, under an id; some in front may have gone
pub record Puts (place : ℕ) (id : StreamId) (news : List ℕ) (old new : Held) : Type 0 where
  pub dropped : ℕ
  pub is : new ≡ with_appended dropped news (cut place id old)
  pub within : dropped ≤ length (cut place id old).bytes + length news

pub puts : (place : ℕ) (id : StreamId) (news : List ℕ) (old reserved before new : Held) (dropped : ℕ)
    → reserved ≡ old → before ≡ cut place id reserved → new ≡ with_appended dropped news before → dropped ≤ length before.bytes + length news
    → Puts place id news old new
puts place id news old reserved before new dropped same front is within =
    let all = front ∙ ap (λ (t : Held). cut place id t) same in
    record {
      dropped = dropped;
      is = is ∙ ap (λ (t : Held). with_appended dropped news t) all;
      within = subst (λ (t : Held). dropped ≤ length t.bytes + length news) all within;
    }

-- so the rest ends where the bytes do
pub ends : (keyspace after : Keyspace) (old : StreamView) (place : ℕ) (id : StreamId) (news rest : List ℕ) (held : Held)
    → end_of old.held ≡ old.offset + length old.partial → (old.offset ≤ place) × (place ≤ received old)
    → (planned : IsPlanned keyspace (take (place - old.offset) old.partial ++ news) after rest) → Puts place id news old.held held
    → end_of held ≡ old.offset + length (stream_spelling planned.requests) + length rest
ends keyspace after old place id news rest held fits inside planned put =
    ap end_of put.is ∙ end_of-taken old.held place id put.dropped news inside.1 put.within ∙ sym (read_len keyspace after old place news rest fits inside.0 inside.1 planned)

takes : (keyspace after : Keyspace) (old : StreamView) (place offset : ℕ) (piece : PieceView) (news rest : List ℕ) (held : Held)
    → news ≡ news_in piece place → end_of old.held ≡ old.offset + length old.partial → (old.offset ≤ place) × (place ≤ received old)
    → IsPlanned keyspace (take (place - old.offset) old.partial ++ news) after rest → Puts place piece.stream news old.held held
    → offset ≡ end_of held - length rest
    → TakesBehind place (record { stream = old; keyspace = keyspace }) piece (record { stream = record { held = held; offset = offset; partial = rest; former = old.former }; keyspace = after })
takes keyspace after old place offset piece news rest held are fits inside planned put end =
    let whole : offset ≡ old.offset + length (stream_spelling planned.requests) =
    omega (arith, end, ends keyspace after old place piece.stream news rest held fits inside planned put) in
    record {
      requests = planned.requests;
      rest = rest;
      dropped = put.dropped;
      reads = subst (λ (t : List ℕ). IsReadAs (take (place - old.offset) old.partial ++ t) planned.requests rest) are planned.reads;
      within = subst (λ (t : List ℕ). put.dropped ≤ length (cut place piece.stream old.held).bytes + length t) are put.within;
      stream =
          ap (λ (t : Held). record { held = t; offset = offset; partial = rest; former = old.former }) (put.is ∙ ap (λ (t : List ℕ). with_appended put.dropped t (cut place piece.stream old.held)) are)
          ∙ ap (λ (n : ℕ). record { held = with_appended put.dropped (news_in piece place) (cut place piece.stream old.held); offset = n; partial = rest; former = old.former }) whole;
      executed = planned.executed;
    }

-- the same of what stands for these
pub takes_so : (keyspace after contents : Keyspace) (old view : StreamView) (place offset : ℕ) (piece : PieceView) (id : StreamId) (news rest : List ℕ) (held : Held)
    → old ≡ view → contents ≡ after → id ≡ piece.stream
    → news ≡ news_in piece place → end_of old.held ≡ old.offset + length old.partial → (old.offset ≤ place) × (place ≤ received old)
    → IsPlanned keyspace (take (place - old.offset) old.partial ++ news) after rest → Puts place id news old.held held
    → offset ≡ end_of held - length rest
    → TakesBehind place (record { stream = view; keyspace = keyspace }) piece (record { stream = record { held = held; offset = offset; partial = rest; former = old.former }; keyspace = contents })
takes_so keyspace after contents old view place offset piece id news rest held same committed of are fits inside planned put end =
    let new : StreamView = record { held = held; offset = offset; partial = rest; former = old.former } in
    let there = subst (λ (i : StreamId). Puts place i news old.held held) of put in
    let taken = takes keyspace after old place offset piece news rest held are fits inside planned there end in
    subst (λ (v : StreamView). TakesBehind place (record { stream = v; keyspace = keyspace }) piece (record { stream = new; keyspace = contents })) same
    (subst (λ (m : Keyspace). TakesBehind place (record { stream = old; keyspace = keyspace }) piece (record { stream = new; keyspace = m })) (sym committed) taken)

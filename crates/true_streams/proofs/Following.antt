-- A replica of true streams stays on its stream, whatever it takes.
use Rattle.std.proofs.Common.{◌≡◌, ℕ, ◌+◌, ◌-◌, ◌≤◌, List, [], ◌∷◌, ◌++◌, length, take, min, refl, sym, ap, subst, ◌∙◌, arith}
use Rattle.std.proofs.lemmas.List.{length-append, length-drop, length-take}
use Rattle.std.proofs.lemmas.List.Elements.{All-append}
use Rattle.std.specs.FinMap as map
use Rattle.std.specs.Prelude.{All}
use Rattle.bus.specs.Follower.{Follower}
use Rattle.bus.specs.Piece.{PieceView, TakesBehind, news_in}
use Rattle.bus.specs.Reading.{BeginsWithRequest}
use Rattle.bus.specs.Stream.{StreamView, Held, cut, end_of, received, with_appended}
use Rattle.bus.specs.declared.stream_id.StreamId.{StreamId}
use Rattle.keyspace.specs.Commands.{exec_words, replay, replay_from}
use Rattle.keyspace.specs.Keyspace.{Keyspace}
use Rattle.resp2.proofs.Callers.{stream_spelling-append}
use Rattle.resp2.specs.Stream.{stream_spelling}
use Rattle.resp_values.specs.Request.{IsRequest}
use Rattle.true_streams.proofs.Places.{At, Same, all_of, back, cut_at, first_of, from_place, front, is_back, is_front, joined, of_back, of_front, without}
use Rattle.true_streams.specs.Full.{Follows}

-- ---- following, by places

pub record IsOn (full : List ℕ) (replica : Follower) : Type 0 where
  pub requests : List (List (List ℕ))
  pub each : All IsRequest requests
  pub spelled : At full 0 (stream_spelling requests)
  pub offset : replica.stream.offset ≡ length (stream_spelling requests)
  pub keyspace : replica.keyspace ≡ (replay requests).last
  pub partial : At full replica.stream.offset replica.stream.partial
  pub begun : ¬ BeginsWithRequest replica.stream.partial
  pub ends : received replica.stream ≡ replica.stream.offset + length replica.stream.partial
  pub kept : At full replica.stream.held.first replica.stream.held.bytes

pub is_on : (full : List ℕ) (replica : Follower) → Follows full replica → IsOn full replica
is_on full replica follows =
    let within = follows.within in
    let whole = of_front full (stream_spelling follows.requests ++ replica.stream.partial) (received replica.stream) within follows.reads.spelled in
    let partial = back full 0 (stream_spelling follows.requests) replica.stream.partial whole in
    record {
      requests = follows.requests;
      each = follows.reads.each;
      spelled = front full 0 (stream_spelling follows.requests) replica.stream.partial whole;
      offset = follows.offset;
      keyspace = follows.keyspace;
      partial = subst (λ (n : ℕ). At full n replica.stream.partial) (let offset = follows.offset in omega (arith, offset)) partial;
      begun = follows.reads.begun;
      ends = (let offset = follows.offset in omega (
        arith,
        within,
        offset,
        ap (λ (t : List ℕ). length t) follows.reads.spelled,
        length-take (received replica.stream) full,
        length-append (stream_spelling follows.requests) replica.stream.partial,
      ));
      kept = of_back full replica.stream.held.first (received replica.stream) replica.stream.held.bytes within refl follows.kept;
    }

pub follows : (full : List ℕ) (replica : Follower) → IsOn full replica → Follows full replica
follows full replica on =
    let whole = joined full 0 replica.stream.offset (stream_spelling on.requests) replica.stream.partial on.spelled on.partial (let offset = on.offset in omega (arith, offset)) in
    let ends : received replica.stream ≡ length (stream_spelling on.requests ++ replica.stream.partial) =
    (let offset = on.offset in let ends = on.ends in omega (arith, offset, ends, length-append (stream_spelling on.requests) replica.stream.partial)) in
    record {
      requests = on.requests;
      within = (let within = whole.within in omega (arith, within, ends));
      reads = record { each = on.each; spelled = is_front full _ (received replica.stream) whole ends; begun = on.begun };
      offset = on.offset;
      keyspace = on.keyspace;
      kept = is_back full replica.stream.held.first (received replica.stream) replica.stream.held.bytes on.kept refl;
    }

-- ---- a piece

replay_from-append : (requests others : List (List (List ℕ))) (keyspace : Keyspace)
    → (replay_from keyspace (requests ++ others)).last ≡ (replay_from (replay_from keyspace requests).last others).last
replay_from-append [] others keyspace = refl
replay_from-append (words ∷ requests) others keyspace = replay_from-append requests others (exec_words keyspace words).after

-- what is left of the bytes up to a place, under an id, with the news behind it and some in front gone
kept_on : (full other : List ℕ) (place dropped : ℕ) (id : StreamId) (held : Held) (news : List ℕ)
    → Same full other place → At other held.first held.bytes → place ≤ end_of held → At full place news → dropped ≤ length (cut place id held).bytes + length news
    → At full (with_appended dropped news (cut place id held)).first (with_appended dropped news (cut place id held)).bytes
kept_on full other place dropped id held news same kept inside there within =
    let before = take (place - held.first) held.bytes in
    let all = joined full (min held.first place) place before news (cut_at full other place held.first held.bytes same kept) there (omega (arith, inside, length-take (place - held.first) held.bytes)) in
    without full (min held.first place) dropped (before ++ news) all (omega (arith, within, length-append before news))

ends_on : (place dropped : ℕ) (id : StreamId) (held : Held) (news : List ℕ)
    → place ≤ end_of held → dropped ≤ length (cut place id held).bytes + length news → end_of (with_appended dropped news (cut place id held)) ≡ place + length news
ends_on place dropped id held news inside within =
    omega (arith, inside, within, length-drop dropped (take (place - held.first) held.bytes ++ news), length-append (take (place - held.first) held.bytes) news, length-take (place - held.first) held.bytes)

pub takes_on : (full other : List ℕ) (place : ℕ) (old : Follower) (piece : PieceView) (new : Follower)
    → Same full other place → IsOn other old → place ≤ received old.stream → old.stream.offset ≤ place → piece.from ≤ place
    → At full piece.from piece.bytes → TakesBehind place old piece new → IsOn full new
takes_on full other place old piece new same on inside behind after true taken =
    let offset = old.stream.offset in
    let news = news_in piece place in
    let stayed = take (place - offset) old.stream.partial in
    let (here, whole, ends, within) : (place ≤ length full) × (offset ≡ length (stream_spelling on.requests)) × (received old.stream ≡ offset + length old.stream.partial) × (taken.dropped ≤ length (cut place piece.stream old.stream.held).bytes + length news) = (same.here, on.offset, on.ends, taken.within) in
    let there : At full place news = from_place full place piece.from piece.bytes true after here in
    let stayed_there : At full offset stayed = first_of full other place offset old.stream.partial same on.partial behind in
    let read : At full offset (stream_spelling taken.requests ++ taken.rest) =
    subst (λ (t : List ℕ). At full offset t) taken.reads.spelled
    (joined full offset place stayed news stayed_there there (omega (arith, inside, behind, ends, length-take (place - offset) old.stream.partial))) in
    let before : At full 0 (stream_spelling on.requests) = all_of full other place 0 (stream_spelling on.requests) same on.spelled (omega (arith, whole, behind)) in
    let count = ap (λ (t : List ℕ). length t) taken.reads.spelled in
    let left : StreamView = record {
      held = with_appended taken.dropped news (cut place piece.stream old.stream.held);
      offset = offset + length (stream_spelling taken.requests);
      partial = taken.rest;
      former = old.stream.former;
    } in
    let result : IsOn full (record { stream = left; keyspace = new.keyspace }) = record {
      requests = on.requests ++ taken.requests;
      each = All-append IsRequest on.requests taken.requests on.each taken.reads.each;
      spelled = subst (λ (t : List ℕ). At full 0 t) (sym (stream_spelling-append on.requests taken.requests))
          (joined full 0 offset (stream_spelling on.requests) (stream_spelling taken.requests) before (front full offset (stream_spelling taken.requests) taken.rest read) (omega (arith, whole)));
      offset = omega (arith, whole, ap (λ (t : List ℕ). length t) (stream_spelling-append on.requests taken.requests), length-append (stream_spelling on.requests) (stream_spelling taken.requests));
      keyspace = taken.executed ∙ ap (λ (m : Keyspace). (replay_from m taken.requests).last) on.keyspace ∙ sym (replay_from-append on.requests taken.requests map.empty);
      partial = back full offset (stream_spelling taken.requests) taken.rest read;
      begun = taken.reads.begun;
      ends = omega (
        arith,
        count,
        inside,
        behind,
        ends,
        ends_on place taken.dropped piece.stream old.stream.held news inside within,
        length-append (stream_spelling taken.requests) taken.rest,
        length-append stayed news,
        length-take (place - offset) old.stream.partial,
      );
      kept = kept_on full other place taken.dropped piece.stream old.stream.held news same on.kept inside there within;
    } in
    subst (λ (v : StreamView). IsOn full (record { stream = v; keyspace = new.keyspace })) (sym taken.stream) result

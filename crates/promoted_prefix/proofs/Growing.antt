-- What is true of a stream stays true as bytes are put behind it.
use Rattle.std.proofs.Common.{◌≡◌, ◌≢◌, ◌==◌, ◌+◌, ◌<◌, ℕ, Bool, true, false, cond, List, [], ◌++◌, length, take, drop, Option, Some, None, Contains, append-nil, refl, sym, ap, subst, ◌∙◌, inl, inr, arith}
use Rattle.std.proofs.lemmas.Bool.{and_from, and_parts, eq-eqb, eqb-true, cases_Bool}
use Rattle.std.proofs.lemmas.List.{same_lists, length-append, length-take, length-drop, get_or_append_left, get_or-take, get_or-drop, take-append-le}
use Rattle.std.specs.Prelude.{⊤}
use Rattle.bus.specs.Follower.{Follower}
use Rattle.bus.specs.Piece.{PieceView}
use Rattle.bus.specs.Stream.{is_same}
use Rattle.bus.specs.declared.message.Body.{Body}
use Rattle.bus.specs.declared.bodies.ElectionBody.TheVariants as of_election
use Rattle.bus.specs.declared.bodies.SlotsBody.TheVariants as of_slots
use Rattle.bus.specs.declared.bodies.StreamBody.TheVariants as of_stream
use Rattle.bus.specs.declared.bodies.StreamBody.TheVariants.{Piece, Snapshot}
use Rattle.bus.specs.declared.message.Body.TheVariants as bodies
use Rattle.bus.specs.declared.message.Body.TheVariants.{Slots, Stream, Election}
use Rattle.bus.specs.declared.stream_id.Base.{Base}
use Rattle.bus.specs.declared.stream_id.StreamId.{StreamId}
use Rattle.keyspace.specs.Keyspace.{Keyspace, keyspace_of}
use Rattle.keyspace.specs.Replay.{HasRequest}
use Rattle.keyspace.specs.declared.value.Value.{Value}
use Rattle.resp2.specs.Stream.{stream_spelling}
use Rattle.true_streams.proofs.Following.{IsOn}
use Rattle.true_streams.proofs.Places.{At, of_part}
use Rattle.true_streams.specs.Full.{FullStreams, IsStateAt, IsTrueBase, IsTruePiece, IsTrueSnapshot, Shares}
use Rattle.promoted_prefix.specs.Law.{IsTrueSaid}
use Rattle.promoted_prefix.specs.Written.{longer}

-- ---- ids

pub same_ids : (id other : StreamId) → is_same id other ≡ true → id ≡ other
same_ids id other same =
    let parts = and_parts (id.node == other.node) (id.epoch == other.epoch) same in
    ap (λ (n : ℕ). record { node = n; epoch = id.epoch }) (eqb-true id.node other.node parts.0) ∙ ap (λ (n : ℕ). record { node = other.node; epoch = n }) (eqb-true id.epoch other.epoch parts.1)

pub one_id : (id : StreamId) → is_same id id ≡ true
one_id id = and_from (id.node == id.node) (id.epoch == id.epoch) (eq-eqb id.node id.node refl) (eq-eqb id.epoch id.epoch refl)

-- ---- places

pub part_of : (full : List ℕ) (from : ℕ) (bytes : List ℕ) → At full from bytes → bytes ≡ take (length bytes) (drop from full)
part_of full from bytes at =
    let within = at.within in
    same_lists _ _ (omega (arith, within, length-take (length bytes) (drop from full), length-drop from full)) (λ k d below.
    at.each k d below ∙ sym (get_or-drop from full k d) ∙ sym (get_or-take (length bytes) (drop from full) k d below))

pub at_grown : (full more : List ℕ) (from : ℕ) (bytes : List ℕ) → At full from bytes → At (full ++ more) from bytes
at_grown full more from bytes at =
    let within = at.within in
    record {
      within = omega (arith, within, length-append full more);
      each = λ k d below. at.each k d below ∙ sym (get_or_append_left full more d (from + k) (omega (arith, below, within)));
    }

-- the first ones of them
pub at_first : (full : List ℕ) (from count : ℕ) (bytes : List ℕ) → At full from bytes → At full from (take count bytes)
at_first full from count bytes at =
    let within = at.within in
    record {
      within = omega (arith, within, length-take count bytes);
      each = λ k d below.
          let inside : (k < count) × (k < length bytes) = (omega (arith, below, length-take count bytes), omega (arith, below, length-take count bytes)) in
          get_or-take count bytes k d inside.0 ∙ at.each k d inside.1;
    }

-- ---- one stream

pub on_grown : (full more : List ℕ) (replica : Follower) → IsOn full replica → IsOn (full ++ more) replica
on_grown full more replica on = record {
  requests = on.requests;
  each = on.each;
  spelled = at_grown full more 0 (stream_spelling on.requests) on.spelled;
  offset = on.offset;
  keyspace = on.keyspace;
  partial = at_grown full more replica.stream.offset replica.stream.partial on.partial;
  begun = on.begun;
  ends = on.ends;
  kept = at_grown full more replica.stream.held.first replica.stream.held.bytes on.kept;
}

state_grown : (full more : List ℕ) (offset : ℕ) (keyspace : Keyspace) → IsStateAt full offset keyspace → IsStateAt (full ++ more) offset keyspace
state_grown full more offset keyspace state = record {
  requests = state.requests;
  within = (let within = state.within in omega (arith, within, length-append full more));
  each = state.each;
  spelled = take-append-le offset full more state.within ∙ state.spelled;
  replayed = state.replayed;
}

shares_grown : (full other more rest : List ℕ) (end : ℕ) → Shares full other end → Shares (full ++ more) (other ++ rest) end
shares_grown full other more rest end shares = record {
  here = (let here = shares.here in omega (arith, here, length-append full more));
  there = (let there = shares.there in omega (arith, there, length-append other rest));
  same = take-append-le end full more shares.here ∙ shares.same ∙ sym (take-append-le end other rest shares.there);
}

-- ---- all streams

-- bytes were put behind some of them
pub record Grows (full more : FullStreams) : Type 0 where
  pub rest : StreamId → List ℕ
  pub is : (id : StreamId) → more id ≡ full id ++ rest id

module _ (full more : FullStreams) (grows : Grows full more) where
  pub on_more : (id : StreamId) (replica : Follower) → IsOn (full id) replica → IsOn (more id) replica
  on_more id replica on = subst (λ (l : List ℕ). IsOn l replica) (sym (grows.is id)) (on_grown (full id) (grows.rest id) replica on)

  pub base_more : (id : StreamId) (base : Option Base) → IsTrueBase full id base → IsTrueBase more id base
  base_more id None is_true = tt
  base_more id (Some base) is_true =
      subst (λ (l : List ℕ). Shares l (more base.stream) base.end) (sym (grows.is id))
      (subst (λ (l : List ℕ). Shares (full id ++ grows.rest id) l base.end) (sym (grows.is base.stream)) (shares_grown (full id) (full base.stream) (grows.rest id) (grows.rest base.stream) base.end is_true))

  piece_more : (piece : PieceView) → IsTruePiece full piece → IsTruePiece more piece
  piece_more piece is_true =
      let stands : At (more piece.stream) piece.from piece.bytes =
      subst (λ (l : List ℕ). At l piece.from piece.bytes) (sym (grows.is piece.stream))
      (at_grown (full piece.stream) (grows.rest piece.stream) piece.from piece.bytes (of_part (full piece.stream) piece.from piece.bytes is_true.within is_true.bytes)) in
      record { within = stands.within; bytes = part_of (more piece.stream) piece.from piece.bytes stands; base = base_more piece.stream piece.base is_true.base }

-- each key can be made with its value
abbrev pub HaveRequests : List (List ℕ × Value) → Type 0
HaveRequests pairs = (key : List ℕ) (value : Value) → Contains {X = List ℕ × Value} pairs (key, value) → HasRequest (key, value)

-- what a message says of streams is true, and the keys of a copy can be made with their values
abbrev pub IsSound : FullStreams → Body → Type 0
IsSound full (bodies.Slots (of_slots.Copy id pairs)) = HaveRequests pairs
IsSound full (Stream (Piece piece)) = IsTruePiece full piece
IsSound full (Stream (Snapshot snapshot)) = IsTrueSnapshot full snapshot
IsSound full other = ⊤

pub sound_true : (full : FullStreams) (said : Body) → IsSound full said → IsTrueSaid full said
sound_true full (bodies.Stream (of_stream.Piece piece)) sound = sound
sound_true full (bodies.Stream (of_stream.Snapshot snapshot)) sound = sound
sound_true full (bodies.Slots (of_slots.Copy id pairs)) sound = tt
sound_true full (bodies.Slots (of_slots.Ack id)) sound = tt
sound_true full (bodies.Slots (of_slots.Drained slot number epoch)) sound = tt
sound_true full (bodies.Slots (of_slots.Claim slots replaced)) sound = tt
sound_true full (bodies.Report suspects) sound = tt
sound_true full (bodies.Election (of_election.Candidacy request)) sound = tt
sound_true full (bodies.Election (of_election.Grant epoch)) sound = tt
sound_true full (bodies.Stream (of_stream.Sync sync)) sound = tt
sound_true full (bodies.Election (of_election.Pause stream)) sound = tt
sound_true full (bodies.Election (of_election.Paused handing)) sound = tt

module _ (full more : FullStreams) (grows : Grows full more) where
  pub said_more : (said : Body) → IsSound full said → IsSound more said
  said_more (bodies.Stream (of_stream.Piece piece)) is_true = piece_more full more grows piece is_true
  said_more (bodies.Stream (of_stream.Snapshot snapshot)) is_true =
      subst (λ (l : List ℕ). IsStateAt l snapshot.offset (keyspace_of snapshot.pairs)) (sym (grows.is snapshot.stream))
      (state_grown (full snapshot.stream) (grows.rest snapshot.stream) snapshot.offset (keyspace_of snapshot.pairs) is_true)
  said_more (bodies.Slots (of_slots.Copy id pairs)) has = has
  said_more (bodies.Slots (of_slots.Ack id)) is_true = tt
  said_more (bodies.Slots (of_slots.Drained slot number epoch)) is_true = tt
  said_more (bodies.Slots (of_slots.Claim slots replaced)) is_true = tt
  said_more (bodies.Report suspects) is_true = tt
  said_more (bodies.Election (of_election.Candidacy request)) is_true = tt
  said_more (bodies.Election (of_election.Grant epoch)) is_true = tt
  said_more (bodies.Stream (of_stream.Sync sync)) is_true = tt
  said_more (bodies.Election (of_election.Pause stream)) is_true = tt
  said_more (bodies.Election (of_election.Paused handing)) is_true = tt

-- ---- bytes behind one stream

pub longer_here : (full : FullStreams) (id : StreamId) (bytes : List ℕ) → longer full id bytes id ≡ full id ++ bytes
longer_here full id bytes = ap (λ (b : Bool). cond b (full id ++ bytes) (full id)) (one_id id)

pub longer_grows : (full : FullStreams) (id : StreamId) (bytes : List ℕ) → Grows full (longer full id bytes)
longer_grows full id bytes = record { rest = λ other. cond (is_same other id) bytes []; is = λ other. by_test other (is_same other id) }
  where
    by_test : (other : StreamId) (b : Bool) → cond b (full other ++ bytes) (full other) ≡ full other ++ cond b bytes []
    by_test other true = refl
    by_test other false = sym (append-nil (full other))

-- only streams of that node
pub longer_apart : (full : FullStreams) (id : StreamId) (bytes : List ℕ) (other : StreamId) → other.node ≢ id.node → longer full id bytes other ≡ full other
longer_apart full id bytes other apart =
    elim (cases_Bool (is_same other id)) [
      | inl same ↦ absurd (apart (ap (λ (i : StreamId). i.node) (same_ids other id same)))
      | inr other_one ↦ ap (λ (b : Bool). cond b (full other ++ bytes) (full other)) other_one
    ]

-- nothing behind any
pub longer_nothing : (full : FullStreams) (id : StreamId) → longer full id [] ≡ full
longer_nothing full id = λ i other. by_test other (is_same other id) i
  where
    by_test : (other : StreamId) (b : Bool) → cond b (full other ++ []) (full other) ≡ full other
    by_test other true = append-nil (full other)
    by_test other false = refl

-- The laws of replicas.
use Rattle.std.proofs.Common.{◌≡◌, ℕ, ◌+◌, ◌≤◌, inl, inr, Bool, true, false, ◌&&◌, ◌==◌, nat_lt, nat_le, List, [], ◌∷◌, length, take, min, refl, sym, ap, subst, ◌∙◌, append-nil, true≢false, arith}
use Rattle.std.proofs.lemmas.Bool.Decides.{nat_tests}
use Rattle.std.proofs.lemmas.List.{length-take}
use Rattle.std.proofs.lemmas.List.Elements.{All-nil}
use Rattle.std.specs.List.{AllByRecursion}
use Rattle.std.specs.Prelude.{None, Option, Some, if◌then◌else◌}
use Rattle.bus.specs.Follower.{Follower}
use Rattle.bus.specs.Piece.{PieceView, TakesBy, TakesPiece, end_by_base, judged}
use Rattle.bus.specs.Piece.PieceVerdict.{Gap, Takes}
use Rattle.bus.specs.Reading.{BeginsWithRequest}
use Rattle.bus.specs.Snapshot.{is_known, replaced, restored}
use Rattle.bus.specs.Stream.{StreamView, is_same, received}
use Rattle.bus.specs.declared.snapshot.Snapshot.{Snapshot}
use Rattle.bus.specs.declared.stream_id.Base.{Base}
use Rattle.bus.specs.declared.stream_id.StreamId.{StreamId}
use Rattle.resp2.specs.Stream.{stream_spelling}
use Rattle.resp_values.specs.Request.{IsRequest}
use Rattle.true_streams.proofs.Following.{follows, is_on, takes_on}
use Rattle.true_streams.proofs.Places.{Same, is_back, nothing, of_part, of_shared, same_less, same_self}
use Rattle.true_streams.specs.Full.{Follows, FullStreams, IsTrueBase, IsTruePiece, IsTrueSnapshot}
use Rattle.true_streams.specs.Law.{EachStepFollows, FollowsOwn, IsTrue, ReplicasFollow, new_replica}
use Rattle.true_streams.specs.Meeting.{Arrival, MeetsAll}
use Rattle.true_streams.specs.Meeting.Arrival.{Offered, Restoring}

-- ---- which stream it is

same_numbers : (m n : ℕ) → (m == n) ≡ true → m ≡ n
same_numbers m n same = grind (arith, nat_tests, same)

both : (a b : Bool) → (a && b) ≡ true → (a ≡ true) × (b ≡ true)
both true true so = (refl, refl)
both true false so = absurd (true≢false (sym so))
both false b so = absurd (true≢false (sym so))

same_ids : (id other : StreamId) → is_same id other ≡ true → id ≡ other
same_ids id other same =
    let (node, epoch) : ((id.node == other.node) ≡ true) × ((id.epoch == other.epoch) ≡ true) = both (id.node == other.node) (id.epoch == other.epoch) same in
    ap (λ (n : ℕ). record { node = n; epoch = id.epoch }) (same_numbers id.node other.node node) ∙ ap (λ (n : ℕ). record { node = other.node; epoch = n }) (same_numbers id.epoch other.epoch epoch)

within_bound : (m n : ℕ) → nat_le m n ≡ true → m ≤ n
within_bound m n so = grind (arith, nat_tests, so)

not_below : (m n : ℕ) → nat_lt m n ≡ false → n ≤ m
not_below m n so = grind (arith, nat_tests, so)

-- ---- a piece

-- up to where the received bytes are of the piece's stream, both streams have the same bytes
pub record IsCommon (full : FullStreams) (stream : StreamView) (id : StreamId) (place : ℕ) : Type 0 where
  pub same : Same (full id) (full stream.held.id) place
  pub inside : place ≤ received stream
  pub behind : stream.offset ≤ place

own_end : (full : FullStreams) (stream : StreamView) (id : StreamId) → received stream ≤ length (full stream.held.id) → stream.offset ≤ received stream
    → is_same id stream.held.id ≡ true → IsCommon full stream id (received stream)
own_end full stream id within behind same = record {
  same = subst (λ (i : StreamId). Same (full i) (full stream.held.id) (received stream)) (sym (same_ids id stream.held.id same)) (same_self (full stream.held.id) (received stream) within);
  inside = omega arith;
  behind = behind;
}

base_end : (full : FullStreams) (stream : StreamView) (id : StreamId) (base : Base) → stream.offset ≤ received stream
    → Same (full id) (full base.stream) base.end → (is_same base.stream stream.held.id && nat_le stream.offset base.end) ≡ true
    → IsCommon full stream id (min (received stream) base.end)
base_end full stream id base behind shared so =
    let (same, before) : (is_same base.stream stream.held.id ≡ true) × (nat_le stream.offset base.end ≡ true) = both (is_same base.stream stream.held.id) (nat_le stream.offset base.end) so in
    let bound = within_bound stream.offset base.end before in
    record {
      same = same_less (full id) (full stream.held.id) base.end (min (received stream) base.end)
          (subst (λ (i : StreamId). Same (full id) (full i) base.end) (same_ids base.stream stream.held.id same) shared) (omega arith);
      inside = omega arith;
      behind = omega (arith, bound, behind);
    }

behind_place : (full : FullStreams) (old : Follower) (piece : PieceView) (new : Follower) (place : ℕ)
    → FollowsOwn full old → IsTruePiece full piece → IsCommon full old.stream piece.stream place
    → TakesBy (judged piece.from (Some place)) old piece new → FollowsOwn full new
behind_place full old piece new place on true_piece common taken =
    elim (nat_lt place piece.from) as (λ b. nat_lt place piece.from ≡ b → TakesBy (if b then Gap else Takes place) old piece new → FollowsOwn full new) [
      | true ↦ λ _ none. absurd none
      | false ↦ λ so put.
          subst (λ (i : StreamId). Follows (full i) new) (sym (ap (λ (v : StreamView). v.held.id) put.stream))
          (follows (full piece.stream) new
          (takes_on (full piece.stream) (full old.stream.held.id) place old piece new common.same (is_on (full old.stream.held.id) old on) common.inside common.behind (not_below place piece.from so)
          (of_part (full piece.stream) piece.from piece.bytes true_piece.within true_piece.bytes) put))
    ] refl taken

by_base : (full : FullStreams) (old : Follower) (piece : PieceView) (new : Follower) (base : Option Base)
    → FollowsOwn full old → IsTruePiece full piece → IsTrueBase full piece.stream base
    → TakesBy (judged piece.from (end_by_base old.stream base)) old piece new → FollowsOwn full new
by_base full old piece new None on true_piece shared taken = absurd taken
by_base full old piece new (Some base) on true_piece shared taken =
    let behind : old.stream.offset ≤ received old.stream = (let all = (is_on (full old.stream.held.id) old on).ends in omega (arith, all)) in
    elim (is_same base.stream old.stream.held.id && nat_le old.stream.offset base.end)
    as (λ b. (is_same base.stream old.stream.held.id && nat_le old.stream.offset base.end) ≡ b → TakesBy (judged piece.from (if b then Some (min (received old.stream) base.end) else None)) old piece new → FollowsOwn full new) [
      | true ↦ λ so. behind_place full old piece new (min (received old.stream) base.end) on true_piece
          (base_end full old.stream piece.stream base behind (of_shared (full piece.stream) (full base.stream) base.end shared.here shared.there shared.same) so)
      | false ↦ λ _ none. absurd none
    ] refl taken

piece_taken : (full : FullStreams) (old : Follower) (piece : PieceView) (new : Follower)
    → FollowsOwn full old → IsTruePiece full piece → TakesPiece old piece new → FollowsOwn full new
piece_taken full old piece new on true_piece taken =
    let behind : old.stream.offset ≤ received old.stream = (let all = (is_on (full old.stream.held.id) old on).ends in omega (arith, all)) in
    elim (is_same piece.stream old.stream.held.id)
    as (λ b. is_same piece.stream old.stream.held.id ≡ b → TakesBy (judged piece.from (if b then Some (received old.stream) else end_by_base old.stream piece.base)) old piece new → FollowsOwn full new) [
      | true ↦ λ so. behind_place full old piece new (received old.stream) on true_piece (own_end full old.stream piece.stream on.within behind so)
      | false ↦ λ _. by_base full old piece new piece.base on true_piece true_piece.base
    ] refl taken

-- ---- a snapshot

no_request_in_none : ¬ BeginsWithRequest []
no_request_in_none begins = cc

snapshot_taken : (full : FullStreams) (old : Follower) (snapshot : Snapshot) → FollowsOwn full old → IsTrueSnapshot full snapshot → FollowsOwn full (restored snapshot old)
snapshot_taken full old snapshot on state =
    elim (is_known old.stream snapshot) as (λ b. FollowsOwn full (if b then old else replaced snapshot old)) [
      | true ↦ on
      | false ↦ record {
        requests = state.requests;
        within = (let within = state.within in omega (arith, within));
        reads = record {
          each = state.each;
          spelled = ap (λ (n : ℕ). take n (full snapshot.stream)) (omega arith) ∙ state.spelled ∙ sym (append-nil (stream_spelling state.requests));
          begun = no_request_in_none;
        };
        offset = (let within = state.within in omega (arith, within, ap (λ (t : List ℕ). length t) state.spelled, length-take snapshot.offset (full snapshot.stream)));
        keyspace = state.replayed;
        kept = is_back (full snapshot.stream) snapshot.offset (snapshot.offset + 0) [] (nothing (full snapshot.stream) snapshot.offset state.within) refl;
      }
    ]

-- ---- the laws

each_step_follows : EachStepFollows
each_step_follows full old (Offered piece) new on is_true (inl taken) = piece_taken full old piece new on is_true taken
each_step_follows full old (Restoring snapshot) new on is_true (inl taken) = subst (λ (r : Follower). FollowsOwn full r) (sym taken) (snapshot_taken full old snapshot on is_true)
each_step_follows full old (Offered piece) new on is_true (inr same) = subst (λ (r : Follower). FollowsOwn full r) (sym same) on
each_step_follows full old (Restoring snapshot) new on is_true (inr same) = subst (λ (r : Follower). FollowsOwn full r) (sym same) on

all_steps_follow : (full : FullStreams) (old : Follower) (arrivals : List Arrival) (last : Follower) → FollowsOwn full old → AllByRecursion (IsTrue full) arrivals → MeetsAll old arrivals last → FollowsOwn full last
all_steps_follow full old [] last on are met = subst (λ (r : Follower). FollowsOwn full r) (sym met) on
all_steps_follow full old (arrival ∷ arrivals) last on are met =
    all_steps_follow full met.0 arrivals last (each_step_follows full old arrival met.0 on are.0 met.1) are.1 met.2

new_follows : (full : FullStreams) (id : StreamId) → FollowsOwn full (new_replica id)
new_follows full id = record {
  requests = [];
  within = omega arith;
  reads = record { each = All-nil IsRequest; spelled = refl; begun = no_request_in_none };
  offset = refl;
  keyspace = refl;
  kept = refl;
}

pub stay_on : EachStepFollows
stay_on = each_step_follows

pub follow : ReplicasFollow
follow full id arrivals last are met = all_steps_follow full (new_replica id) arrivals last (new_follows full id) are met

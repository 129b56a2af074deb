-- A master has the whole of its stream: as it writes, as it answers a replica, and as it begins.
use Rattle.std.proofs.Common.{◌≡◌, ◌≢◌, ◌+◌, ◌-◌, ◌≤◌, ◌==◌, ◌&&◌, ℕ, zero, suc, Bool, true, false, cond, List, [], ◌∷◌, ◌++◌, length, take, drop, get_or, refl, sym, ap, subst, ◌∙◌, inl, inr, arith}
use Rattle.std.proofs.lemmas.Bool.{and_parts, cases_Bool, leb-true}
use Rattle.std.proofs.lemmas.Cmp.{nat_list_cmp_total}
use Rattle.std.proofs.lemmas.List.{length-append, length-take, length-drop, get_or-append_right, get_or-take, append-nil}
use Rattle.std.proofs.lemmas.List.Elements.{All-append}
use Rattle.std.specs.FinMap as fin_map
use Rattle.std.specs.Prelude.{All, nat_le}
use Rattle.bus.specs.Follower.{Follower}
use Rattle.bus.specs.Reading.{BeginsWithRequest}
use Rattle.bus.specs.Stream.{StreamView, cut, end_of, is_same, promoted, received, written}
use Rattle.bus.specs.Syncing.{answer_to, has_from, is_own, piece_from}
use Rattle.bus.specs.declared.bodies.StreamBody.TheVariants as of_stream
use Rattle.bus.specs.declared.message.Body.TheVariants as body
use Rattle.bus.specs.declared.answer.SyncAnswer.TheVariants as answers
use Rattle.bus.specs.declared.answer.TheConstants.{MOST_PIECE_BYTES}
use Rattle.bus.specs.declared.stream_id.StreamId.{StreamId}
use Rattle.bus.specs.declared.sync.Sync.{Sync}
use Rattle.keyspace.proofs.Applied.{same}
use Rattle.keyspace.specs.Commands.{replay_from}
use Rattle.keyspace.specs.Keyspace.{Keyspace, keyspace_of}
use Rattle.resp2.proofs.Callers.{stream_spelling-append}
use Rattle.resp2.specs.Stream.{stream_spelling}
use Rattle.resp_values.specs.Request.{IsRequest}
use Rattle.true_streams.proofs.Following.{IsOn}
use Rattle.true_streams.proofs.Places.{At, Same, all_of, cut_at, is_back, is_front, joined, nothing, without}
use Rattle.true_streams.specs.Full.{FullStreams, IsStateAt, IsTrueBase, IsTruePiece, Shares}
use Rattle.node_step.proofs.OfSlots.{AreAll, all_of_none, all_of_one}
use Rattle.node_step.specs.Replicas.{follower_of, sync_answer}
use Rattle.node_step.specs.State.{NodeState}
use Rattle.node_step.specs.Streams.{Requests}
use Rattle.node_step.specs.declared.promotion.Promotion.{Promotion}
use Rattle.promoted_prefix.proofs.Deletions.{replayed}
use Rattle.promoted_prefix.proofs.Growing.{Grows, IsSound, at_first, at_grown, base_more, longer_grows, longer_here, one_id, part_of, same_ids}
use Rattle.promoted_prefix.specs.Law.{GoesOn}
use Rattle.promoted_prefix.specs.Written.{begun_from, longer}

-- the node has the whole of a stream of its own, up to the end of a request
pub record HasWhole (full : FullStreams) (n : ℕ) (follower : Follower) : Type 0 where
  pub own : follower.stream.held.id.node ≡ n
  pub on : IsOn (full follower.stream.held.id) follower
  pub whole : follower.stream.partial ≡ []
  pub ends : received follower.stream ≡ length (full follower.stream.held.id)
  pub former : IsTrueBase full follower.stream.held.id follower.stream.former

-- what is put behind a list stands at its end
at_end : (full more : List ℕ) → At (full ++ more) (length full) more
at_end full more = record {
  within = omega (arith, length-append full more);
  each = λ k d below. ap (λ (i : ℕ). get_or more i d) (omega arith) ∙ sym (get_or-append_right full more (length full) (length full + k) d refl (omega arith));
}

module _ (full : FullStreams) (n : ℕ) (follower : Follower) (has : HasWhole full n follower) where
  abbrev id : StreamId
  id = follower.stream.held.id

  abbrev mine : List ℕ
  mine = full id

  offset_is : follower.stream.offset ≡ length mine
  offset_is =
      let ends = has.on.ends in
      let all = has.ends in
      let none : length follower.stream.partial ≡ 0 = ap (λ (l : List ℕ). length l) has.whole in
      omega (arith, ends, all, none)

  -- ---- requests are put behind it

  module _ (requests : Requests) (are : All IsRequest requests) (dropped : ℕ) (within : dropped ≤ length follower.stream.held.bytes + length (stream_spelling requests)) where
    abbrev bytes : List ℕ
    bytes = stream_spelling requests

    abbrev later : Follower
    later = record { stream = written dropped bytes follower.stream; keyspace = (replay_from follower.keyspace requests).last }

    on_later : IsOn (mine ++ bytes) later
    on_later =
        let offset = has.on.offset in
        let ends = has.on.ends in
        let here = offset_is in
        let all = has.ends in
        let kept_all : At (mine ++ bytes) follower.stream.held.first (follower.stream.held.bytes ++ bytes) =
        joined (mine ++ bytes) follower.stream.held.first (length mine) follower.stream.held.bytes bytes (at_grown mine bytes follower.stream.held.first follower.stream.held.bytes has.on.kept) (at_end mine bytes) (omega (arith, all)) in
        record {
          requests = has.on.requests ++ requests;
          each = All-append IsRequest has.on.requests requests has.on.each are;
          spelled = subst (λ (t : List ℕ). At (mine ++ bytes) 0 t) (sym (stream_spelling-append has.on.requests requests))
              (joined (mine ++ bytes) 0 (length mine) (stream_spelling has.on.requests) bytes (at_grown mine bytes 0 (stream_spelling has.on.requests) has.on.spelled) (at_end mine bytes) (omega (arith, offset, here)));
          offset = omega (arith, offset, ap (λ (t : List ℕ). length t) (stream_spelling-append has.on.requests requests), length-append (stream_spelling has.on.requests) bytes);
          keyspace = ap (λ (m : Keyspace). (replay_from m requests).last) has.on.keyspace ∙ sym (replayed has.on.requests requests fin_map.empty);
          partial = subst (At (mine ++ bytes) (follower.stream.offset + length bytes)) (sym has.whole) (nothing (mine ++ bytes) (follower.stream.offset + length bytes) (omega (arith, here, length-append mine bytes)));
          begun = has.on.begun;
          ends = omega (arith, ends, within, length-drop dropped (follower.stream.held.bytes ++ bytes), length-append follower.stream.held.bytes bytes);
          kept = without (mine ++ bytes) follower.stream.held.first dropped (follower.stream.held.bytes ++ bytes) kept_all (omega (arith, within, length-append follower.stream.held.bytes bytes));
        }

    pub written_whole : HasWhole (longer full id bytes) n later
    written_whole = record {
      own = has.own;
      on = subst (λ (l : List ℕ). IsOn l later) (sym (longer_here full id bytes)) on_later;
      whole = has.whole;
      ends = (let all = has.ends in omega (
        arith,
        all,
        within,
        length-drop dropped (follower.stream.held.bytes ++ bytes),
        length-append follower.stream.held.bytes bytes,
        length-append mine bytes,
        ap (λ (l : List ℕ). length l) (longer_here full id bytes),
      ));
      former = base_more full (longer full id bytes) (longer_grows full id bytes) id follower.stream.former has.former;
    }

    -- and they are a true piece
    pub written_piece : IsTruePiece (longer full id bytes) (record { stream = id; from = end_of follower.stream.held; bytes = bytes; base = follower.stream.former })
    written_piece =
        let all = has.ends in
        let stands : At (longer full id bytes id) (end_of follower.stream.held) bytes =
        subst (λ (l : List ℕ). At l (end_of follower.stream.held) bytes) (sym (longer_here full id bytes)) (subst (λ (i : ℕ). At (mine ++ bytes) i bytes) (sym all) (at_end mine bytes)) in
        record {
          within = stands.within;
          bytes = part_of (longer full id bytes id) (end_of follower.stream.held) bytes stands;
          base = base_more full (longer full id bytes) (longer_grows full id bytes) id follower.stream.former has.former;
        }

  -- ---- a replica is answered

  piece_true : (place : ℕ) → has_from follower.stream.held place ≡ true → IsTruePiece full (piece_from follower.stream place)
  piece_true place has_it =
      let parts = and_parts (nat_le follower.stream.held.first place) (nat_le place (end_of follower.stream.held)) has_it in
      let (above, below) : (follower.stream.held.first ≤ place) × (place ≤ end_of follower.stream.held) = (leb-true _ _ parts.0, leb-true _ _ parts.1) in
      let rest : At mine (follower.stream.held.first + (place - follower.stream.held.first)) (drop (place - follower.stream.held.first) follower.stream.held.bytes) =
      without mine follower.stream.held.first (place - follower.stream.held.first) follower.stream.held.bytes has.on.kept (omega (arith, above, below)) in
      let back : follower.stream.held.first + (place - follower.stream.held.first) ≡ place = omega (arith, above) in
      let stands : At mine place (take MOST_PIECE_BYTES (drop (place - follower.stream.held.first) follower.stream.held.bytes)) =
      at_first mine place MOST_PIECE_BYTES (drop (place - follower.stream.held.first) follower.stream.held.bytes)
      (subst (λ (i : ℕ). At mine i (drop (place - follower.stream.held.first) follower.stream.held.bytes)) back rest) in
      record { within = stands.within; bytes = part_of mine place _ stands; base = has.former }

  -- the state at the offset
  pub state_is : IsStateAt mine follower.stream.offset follower.keyspace
  state_is =
      let offset = has.on.offset in
      let here = offset_is in
      record {
        requests = has.on.requests;
        within = omega (arith, here);
        each = has.on.each;
        spelled = is_front mine (stream_spelling has.on.requests) follower.stream.offset has.on.spelled offset;
        replayed = has.on.keyspace;
      }

-- the pairs of a keyspace make it again
pairs_are : (keyspace : Keyspace) → keyspace_of (fin_map.entries keyspace) ≡ keyspace
pairs_are keyspace = same _ _ (λ q. fin_map.get-from_entries nat_list_cmp_total (fin_map.entries keyspace) q ∙ sym (fin_map.get-entries keyspace q))

module _ (full : FullStreams) (n : ℕ) (node : NodeState) (has : HasWhole full n (follower_of node)) where
  snapshot : (from : ℕ) → AreAll (IsSound full) (sync_answer node from answers.Snapshot)
  snapshot from =
      all_of_one (IsSound full) from _
      (subst (λ (m : Keyspace). IsStateAt (full node.stream.held.id) node.stream.offset m) (sym (pairs_are node.keyspace)) (state_is full n (follower_of node) has))

  sent_so : (from : ℕ) (sync : Sync) (kept : Bool) → has_from node.stream.held sync.received ≡ kept → (own up_to_date : Bool)
      → AreAll (IsSound full) (sync_answer node from (cond (own && kept) (cond up_to_date answers.UpToDate (answers.Piece (piece_from node.stream sync.received))) answers.Snapshot))
  sent_so from sync true is true true = all_of_none (IsSound full)
  sent_so from sync true is true false = all_of_one (IsSound full) from (body.Stream (of_stream.Piece (piece_from node.stream sync.received))) (piece_true full n (follower_of node) has sync.received is)
  sent_so from sync false is true up_to_date = snapshot from
  sent_so from sync true is false up_to_date = snapshot from
  sent_so from sync false is false up_to_date = snapshot from

  -- what a master answers is true
  pub answer_true : (from : ℕ) (sync : Sync) → AreAll (IsSound full) (sync_answer node from (answer_to node.stream sync))
  answer_true from sync =
      sent_so from sync (has_from node.stream.held sync.received) refl (is_own node.stream sync) (is_same sync.stream node.stream.held.id && (sync.received == end_of node.stream.held))

-- ---- a replica becomes a master

whole_taken : (xs : List ℕ) → take (length xs) xs ≡ xs
whole_taken [] = refl
whole_taken (x ∷ xs) = ap (λ ys. x ∷ ys) (whole_taken xs)

taken_twice : (count : ℕ) (xs : List ℕ) → take count (take count xs) ≡ take count xs
taken_twice zero xs = refl
taken_twice (suc count) [] = refl
taken_twice (suc count) (x ∷ xs) = ap (λ ys. x ∷ ys) (taken_twice count xs)

module _ (full : FullStreams) (follower : Follower) (on : IsOn (full follower.stream.held.id) follower) (n epoch : ℕ) (fresh : full (record { node = n; epoch = epoch }) ≡ []) where
  abbrev next : StreamId
  next = record { node = n; epoch = epoch }

  abbrev told : Promotion
  told = record { stream = follower.stream.held.id; offset = follower.stream.offset; epoch = epoch; planned = false }

  abbrev followed : List ℕ
  followed = full follower.stream.held.id

  abbrev begun : FullStreams
  begun = begun_from full told next

  abbrev front_of : List ℕ
  front_of = take follower.stream.offset followed

  begun_here : begun next ≡ front_of
  begun_here = ap (λ (b : Bool). cond b front_of (full next)) (one_id next)

  within : follower.stream.offset ≤ length followed
  within = let all = on.partial.within in omega (arith, all)

  pub promotion_grows : Grows full begun
  promotion_grows = record { rest = λ other. cond (is_same other next) front_of []; is = λ other. by_test other (is_same other next) refl }
    where
      by_test : (other : StreamId) (b : Bool) → is_same other next ≡ b → cond b front_of (full other) ≡ full other ++ cond b front_of []
      by_test other false is = sym (append-nil (full other))
      by_test other true is = sym (ap (λ (l : List ℕ). l ++ front_of) (ap full (same_ids other next is) ∙ fresh))

  pub promotion_apart : (other : StreamId) → other.node ≢ n → begun other ≡ full other
  promotion_apart other apart =
      elim (cases_Bool (is_same other next)) [
        | inl is ↦ absurd (apart (ap (λ (i : StreamId). i.node) (same_ids other next is)))
        | inr is ↦ ap (λ (b : Bool). cond b front_of (full other)) is
      ]

  shared : Same front_of followed follower.stream.offset
  shared = record {
    here = omega (arith, within, length-take follower.stream.offset followed);
    there = within;
    each = λ k d below. get_or-take follower.stream.offset followed k d below;
  }

  abbrev after : Follower
  after = record { stream = promoted next follower.stream; keyspace = follower.keyspace }

  kept_after : At front_of (cut follower.stream.offset next follower.stream.held).first (cut follower.stream.offset next follower.stream.held).bytes
  kept_after = cut_at front_of followed follower.stream.offset follower.stream.held.first follower.stream.held.bytes shared on.kept

  ends_after : end_of (cut follower.stream.offset next follower.stream.held) ≡ follower.stream.offset
  ends_after = let ends = on.ends in omega (arith, ends, length-take (follower.stream.offset - follower.stream.held.first) follower.stream.held.bytes)

  no_request_in_none : ¬ BeginsWithRequest []
  no_request_in_none begins = cc

  on_after : IsOn front_of after
  on_after =
      let offset = on.offset in
      let ends = ends_after in
      record {
        requests = on.requests;
        each = on.each;
        spelled = all_of front_of followed follower.stream.offset 0 (stream_spelling on.requests) shared on.spelled (omega (arith, offset));
        offset = on.offset;
        keyspace = on.keyspace;
        partial = nothing front_of follower.stream.offset (let here = shared.here in omega (arith, here));
        begun = no_request_in_none;
        ends = omega (arith, ends);
        kept = kept_after;
      }

  -- the two streams have the same bytes up to the offset
  former_true : Shares (begun next) (begun follower.stream.held.id) follower.stream.offset
  former_true = by_test (is_same follower.stream.held.id next) refl
    where
      by_test : (b : Bool) → is_same follower.stream.held.id next ≡ b → Shares (begun next) (begun follower.stream.held.id) follower.stream.offset
      by_test true is =
          subst (λ (i : StreamId). Shares (begun next) (begun i) follower.stream.offset) (sym (same_ids follower.stream.held.id next is))
          (subst (λ (l : List ℕ). Shares l l follower.stream.offset) (sym begun_here) (record { here = shared.here; there = shared.here; same = refl }))
      by_test false is =
          subst (λ (l : List ℕ). Shares l (begun follower.stream.held.id) follower.stream.offset) (sym begun_here)
          (subst (λ (l : List ℕ). Shares front_of l follower.stream.offset) (sym (ap (λ (b : Bool). cond b front_of followed) is))
          (record { here = shared.here; there = within; same = taken_twice follower.stream.offset followed }))

  pub promotion_whole : HasWhole begun n after
  promotion_whole = record {
    own = refl;
    on = subst (λ (l : List ℕ). IsOn l after) (sym begun_here) on_after;
    whole = refl;
    ends = (let ends = ends_after in omega (arith, ends, within, ap (λ (l : List ℕ). length l) begun_here, length-take follower.stream.offset followed));
    former = former_true;
  }

  -- it goes on from there
  pub promotion_goes_on : (node : NodeState) → node.stream ≡ promoted next follower.stream → node.keyspace ≡ follower.keyspace → GoesOn followed follower.stream.offset node
  promotion_goes_on node stream keyspace =
      let offset = on.offset in
      let ends = ends_after in
      let front_long : length front_of ≡ follower.stream.offset = (let w = within in omega (arith, w, length-take follower.stream.offset followed)) in
      let first_kept : (cut follower.stream.offset next follower.stream.held).first ≤ follower.stream.offset = omega arith in
      let kept : (cut follower.stream.offset next follower.stream.held).bytes ≡ drop (cut follower.stream.offset next follower.stream.held).first front_of =
      is_back front_of (cut follower.stream.offset next follower.stream.held).first (length front_of) (cut follower.stream.offset next follower.stream.held).bytes kept_after (omega (arith, ends, front_long))
      ∙ ap (drop (cut follower.stream.offset next follower.stream.held).first) (whole_taken front_of) in
      record {
        state = subst (λ (m : Keyspace). IsStateAt followed follower.stream.offset m) (sym keyspace)
            (record { requests = on.requests; within = within; each = on.each; spelled = is_front followed (stream_spelling on.requests) follower.stream.offset on.spelled offset; replayed = on.keyspace });
        first = subst (λ (s : StreamView). s.held.first ≤ follower.stream.offset) (sym stream) first_kept;
        kept = subst (λ (s : StreamView). s.held.bytes ≡ drop s.held.first front_of) (sym stream) kept;
      }

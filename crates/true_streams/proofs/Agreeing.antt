-- Two that follow one stream up to the same offset have the same keys.
use Rattle.std.proofs.Common.{◌≡◌, ℕ, List, [], take, append-nil, refl, sym, ap, ◌∙◌}
use Rattle.bus.specs.Follower.{Follower}
use Rattle.keyspace.specs.Commands.{replay}
use Rattle.resp2.proofs.Theorems.{a_stream_is_read_in_one_way}
use Rattle.resp2.specs.Law.{IsStream}
use Rattle.resp2.specs.Stream.{HasNoRequest, stream_spelling}
use Rattle.true_streams.proofs.Following.{IsOn, is_on}
use Rattle.true_streams.proofs.Places.{is_front}
use Rattle.true_streams.specs.Full.{Follows}

-- no request has no bytes
no_request : HasNoRequest []
no_request words rest limits is = cc

-- the front of the stream is what each executed
read_so : (full : List ℕ) (replica : Follower) (on : IsOn full replica) (offset : ℕ) → offset ≡ replica.stream.offset → IsStream (take offset full) on.requests []
read_so full replica on offset same = record {
  spelled = is_front full (stream_spelling on.requests) offset on.spelled (same ∙ on.offset) ∙ sym (append-nil (stream_spelling on.requests));
  each = λ at default within. (on.each at default within).limits;
  none = no_request;
}

pub same_keyspace : (full : List ℕ) (one other : Follower) → Follows full one → Follows full other → one.stream.offset ≡ other.stream.offset → one.keyspace ≡ other.keyspace
same_keyspace full one other follows follows_too same =
    let on : IsOn full one = is_on full one follows in
    let on_too : IsOn full other = is_on full other follows_too in
    let requests : on.requests ≡ on_too.requests =
    (a_stream_is_read_in_one_way (take one.stream.offset full) on.requests on_too.requests [] [] (read_so full one on one.stream.offset refl) (read_so full other on_too one.stream.offset same)).0 in
    on.keyspace ∙ ap (λ all. (replay all).last) requests ∙ sym on_too.keyspace

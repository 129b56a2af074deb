-- What a conversation with the node of PONGs writes.
use Rattle.std.proofs.Common.{◌≡◌, ℕ, List, [], ◌∷◌, ◌++◌, length, sym, ap, subst, ◌∙◌, append_assoc, append-nil, inl, inr, refl, ◌⊎◌}
use Rattle.std.specs.Prelude.{Option, Some, All, Ok, Err, Result, map}
use Rattle.std.specs.List.{AllByRecursion, flat_map}
use Rattle.std.proofs.lemmas.List.Elements.{All-from_recursion, All-head, All-tail}
use Rattle.resp2.specs.Law.{IsStream, NoUnfinishedIsWhole, StreamIsReadInOneWay}
use Rattle.resp_values.specs.Reply.{reply_spelling}
use Rattle.resp_values.specs.Request.{IsRequest, KeepsLimits}
use Rattle.resp2.specs.Stream.{IsUnfinished, HasFirstBadByte, stream_spelling, with_words}
use Rattle.resp_header.specs.declared.fault.Fault.{Fault}
use Rattle.resp_values.specs.declared.reply.Reply.{Reply}
use Rattle.node_gate.specs.Asks.{Asked}
use Rattle.node_gate.specs.Asks.Asked.{asking}
use Rattle.connections.specs.declared.conn.Conn.{Conn}
use Rattle.node_step.specs.declared.event.Event.TheVariants.{Close, Request}
use Rattle.node_step.specs.declared.outputs.Outputs.{Outputs}
use Rattle.node_step.specs.declared.response.Response.{Response}
use Rattle.node_step.specs.declared.response.Response.TheVariants.{Replied}
use Rattle.listener.specs.declared.requests.Rest.{Rest}
use Rattle.listener.specs.declared.requests.Rest.TheVariants.{Unfinished, BadByte}
use Rattle.listener.specs.declared.fault.ConnFault.{ConnFault}
use Rattle.listener.specs.Conversation.{ComesBy, Converses, EndsUnopened, Exchange, Serves, Tells, asked_for, awaited, line_of, replies_bytes}
use Rattle.listener.specs.Streams.{Change, Stream, change}
use Rattle.uses.proofs.RequestLemmas.{all_keep_limits}
use Rattle.uses.specs.Pongs.{pong, pongs, pong_answer, AreAnsweredExactly, EndsInTime, EndsBadly, IsPong}

abbrev words_of : Exchange → List (List ℕ)
words_of exchange = exchange.words

-- the step for a request gives its PONG at once
gives_pong : (conn : Conn) (exchange : Exchange) → IsPong (asking (Request conn exchange.words) (Ok exchange.outputs)) → exchange.outputs.response ≡ Replied pong_answer
gives_pong conn exchange given = ap (λ (o : Outputs). o.response) given

is_pong : (exchange : Exchange) → exchange.outputs.response ≡ Replied pong_answer → exchange.reply ≡ pong
is_pong exchange gives = sym (subst (λ (response : Response). ComesBy response exchange.reply) gives exchange.replied)

-- so nothing is waited for
asked_alone : (conn : Conn) (exchange : Exchange) → exchange.outputs.response ≡ Replied pong_answer
    → awaited conn exchange.outputs.response (Some exchange.reply) ≡ []
asked_alone conn exchange gives = ap (λ (response : Response). awaited conn response (Some exchange.reply)) gives

-- each reply is a PONG
all_pongs : (conn : Conn) (exchanges : List Exchange) (more : List Asked) → All IsPong (flat_map (asked_for conn) exchanges ++ more)
    → replies_bytes exchanges ≡ pongs (length (map words_of exchanges))
all_pongs conn [] more given = refl
all_pongs conn (exchange ∷ exchanges) more given =
    let gives = gives_pong conn exchange (All-head IsPong _ _ given) in
    let rest : All IsPong ((awaited conn exchange.outputs.response (Some exchange.reply) ++ flat_map (asked_for conn) exchanges) ++ more) = All-tail IsPong _ _ given in
    let others = subst (λ (asks : List Asked). All IsPong ((asks ++ flat_map (asked_for conn) exchanges) ++ more)) (asked_alone conn exchange gives) rest in
    ap (λ reply. reply_spelling reply ++ replies_bytes exchanges) (is_pong exchange gives)
    ∙ ap (λ bytes. reply_spelling pong ++ bytes) (all_pongs conn exchanges more others)

each_is_request : (exchanges : List Exchange) → AllByRecursion IsRequest (map words_of exchanges)
each_is_request [] = tt
each_is_request (exchange ∷ exchanges) = (exchange.is_request, each_is_request exchanges)

-- more bytes than those that were read don't mend a bad one
still_bad : (fault : Fault) (rest more : List ℕ) → HasFirstBadByte fault rest → HasFirstBadByte fault (rest ++ more)
still_bad fault rest more bad =
    record {
      front = bad.front;
      rest = bad.rest ++ more;
      split = ap (λ bytes. bytes ++ more) bad.split ∙ append_assoc bad.front bad.rest more;
      bad = bad.bad;
      first = bad.first;
    }

abbrev holding : List ℕ → ℕ → Option (List ℕ) → Stream
holding bytes failures at_failure = record { bytes = Some bytes; failures = failures; at_failure = at_failure }

module _ (none_whole : NoUnfinishedIsWhole) (one_way : StreamIsReadInOneWay) (asked : Change (List Asked)) (input left output : List ℕ) (r r' : ℕ) (f f' : Option (List ℕ)) where
  abbrev ConversesOn : Rest → List ℕ → Type 0
  ConversesOn rest replies = Converses IsPong asked (change (holding input r f) (holding left r' f')) (Ok rest) replies

  spelled : (rest : Rest) (replies : List ℕ) (c : ConversesOn rest replies)
      → input ≡ stream_spelling c.talk.requests ++ (c.talk.tail.rest ++ left)
  spelled rest replies c = c.read ∙ append_assoc (stream_spelling c.talk.requests) c.talk.tail.rest left

  each : (rest : Rest) (replies : List ℕ) (c : ConversesOn rest replies) → All IsRequest (map words_of c.talk.exchanges)
  each rest replies c = All-from_recursion IsRequest (map words_of c.talk.exchanges) (each_is_request c.talk.exchanges)

  keep_limits : (rest : Rest) (replies : List ℕ) (c : ConversesOn rest replies) → All KeepsLimits c.talk.requests
  keep_limits rest replies c =
      All-from_recursion KeepsLimits c.talk.requests (all_keep_limits c.talk.requests (subst (AllByRecursion IsRequest) (sym c.answered) (each_is_request c.talk.exchanges)))

  replies_are : (rest : Rest) (replies : List ℕ) (c : ConversesOn rest replies) → replies ≡ pongs (length (map words_of c.talk.exchanges))
  replies_are rest replies c =
      let steps = flat_map (asked_for c.talk.conn) c.talk.exchanges in
      c.replied
      ∙ all_pongs c.talk.conn c.talk.exchanges (c.talk.tail.asked ++ asking (Close c.talk.conn) c.talk.closing ∷ [])
      (subst (All IsPong) (append_assoc steps c.talk.tail.asked (asking (Close c.talk.conn) c.talk.closing ∷ [])) (All-tail IsPong _ _ c.history.each))

  written : (rest : Rest) (replies : List ℕ) (c : ConversesOn rest replies) → output ≡ replies ++ line_of (Ok rest)
      → output ≡ pongs (length (map words_of c.talk.exchanges)) ++ line_of (Ok rest)
  written rest replies c wrote = wrote ∙ ap (λ bytes. bytes ++ line_of (Ok rest)) (replies_are rest replies c)

  in_time : (replies : List ℕ) (c : ConversesOn Unfinished replies) → EndsInTime input (map words_of c.talk.exchanges) (c.talk.tail.rest ++ left) []
  in_time replies c =
      let rest = c.talk.tail.rest in
      let same : rest ≡ rest ++ left = sym (append-nil rest) ∙ ap (λ bytes. rest ++ bytes) (sym c.reads.0) in
      let unfinished = subst IsUnfinished same c.ends.1 in
      let stream : IsStream input c.talk.requests (rest ++ left) =
      record { spelled = spelled Unfinished replies c; each = keep_limits Unfinished replies c; none = none_whole _ unfinished } in
      record {
        unfinished = unfinished;
        nothing_more = refl;
        only = λ others more other. ap with_words (one_way input others c.talk.requests more (rest ++ left) other stream).0 ∙ c.answered;
      }

  badly : (replies : List ℕ) (c : ConversesOn BadByte replies) → EndsBadly (c.talk.tail.rest ++ left) (line_of (Ok BadByte))
  badly replies c =
      let spoilt = c.ends.1 in
      record { fault = spoilt.fault; bad = still_bad spoilt.fault c.talk.tail.rest left spoilt.bad; told = refl }

  answered : (rest : Rest) (replies : List ℕ) → ConversesOn rest replies → output ≡ replies ++ line_of (Ok rest) → AreAnsweredExactly input output
  answered Unfinished replies c wrote =
      record {
        all = c.talk.requests;
        requests = map words_of c.talk.exchanges;
        rest = c.talk.tail.rest ++ left;
        last = [];
        spelled = spelled Unfinished replies c;
        are = c.answered;
        each = each Unfinished replies c;
        ends = inl (in_time replies c);
        written = written Unfinished replies c wrote;
      }
  answered BadByte replies c wrote =
      record {
        all = c.talk.requests;
        requests = map words_of c.talk.exchanges;
        rest = c.talk.tail.rest ++ left;
        last = line_of (Ok BadByte);
        spelled = spelled BadByte replies c;
        are = c.answered;
        each = each BadByte replies c;
        ends = inr (badly replies c);
        written = written BadByte replies c wrote;
      }

  by_end : (ended : Result Rest ConnFault) (replies : List ℕ) (w w' : ℕ) (g g' : Option (List ℕ))
      → Converses IsPong asked (change (holding input r f) (holding left r' f')) ended replies ⊎ EndsUnopened IsPong asked (change (holding input r f) (holding left r' f')) ended replies
      → Tells (Ok tt) ended (change (holding [] w g) (holding output w' g')) (replies ++ line_of ended) → AreAnsweredExactly input output
  by_end (Ok rest) replies w w' g g' (inl c) tells = answered rest replies c tells.1.appends
  by_end (Ok rest) replies w w' g g' (inr unopened) tells = absurd (let e : Ok rest ≡ Err unopened.fault = unopened.failed in cc)
  by_end (Err fault) replies w w' g g' talked tells = absurd (let e : Ok tt ≡ Err fault = tells.0 in cc)

-- what a served client reads
pub are_answered_exactly : (input left output : List ℕ) (asked : Change (List Asked)) (r r' w w' : ℕ) (f f' g g' : Option (List ℕ)) → NoUnfinishedIsWhole → StreamIsReadInOneWay
    → Serves IsPong asked (change (holding input r f) (holding left r' f')) (change (holding [] w g) (holding output w' g')) (Ok tt) → AreAnsweredExactly input output
are_answered_exactly input left output asked r r' w w' f f' g g' none_whole one_way serves =
    by_end none_whole one_way asked input left output r r' f f' serves.ended serves.replies w w' g g' serves.talked serves.told

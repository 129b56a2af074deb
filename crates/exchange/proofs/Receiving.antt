-- Bytes that come in, and what they are to a client.
use Rattle.std.proofs.Common.{◌≡◌, ◌++◌, ℕ, List, [], Option, None, Some, IfNone, append_assoc, append-nil, refl, sym, ap, subst, ◌∙◌}
use Rattle.std.specs.Prelude.{unwrap_or}
use Rattle.std.specs.Io.KnownBytes.{Consumes}
use Rattle.std.proofs.KnownBytes.{Consumes-trans}
use Rattle.resp2.specs.Reader.{ReaderState}
use Rattle.resp2.specs.ReplyReader.{FailsReplyBy, HandsOutReply, HasFirstBadReplyByte, HasNoReply, WaitsForReply}
use Rattle.resp_header.specs.declared.fault.Fault.{Fault}
use Rattle.resp_header.specs.declared.fault.Fault.TheVariants as fault
use Rattle.resp_values.specs.declared.reply.Reply as values
use Rattle.exchange.specs.Wire.{Inlet}
use Rattle.exchange.specs.Exchange.{Answers, IsShort, Receives, outcome_of}

-- what comes in at a moment
abbrev pub inlet : Option (List ℕ) → ℕ → ReaderState → Inlet
inlet bytes failures replies = record { bytes = bytes; failures = failures; pending = replies.pending; fault = replies.fault }

-- these bytes came, and none of them is used
pub record Came (a b : Option (List ℕ)) (old new : ReaderState) : Type 0 where
  pub came : List ℕ
  pub read : Consumes a b came
  pub pending : new.pending ≡ old.pending ++ came
  pub fault : new.fault ≡ old.fault

-- and so did these behind them
abbrev pub came_more : (a b c : Option (List ℕ)) (old mid new : ReaderState) (more : List ℕ) → Came a b old mid → Consumes b c more
    → new ≡ record mid { pending = mid.pending ++ more } → Came a c old new
came_more a b c old mid new more so_far read fed = record {
  came = so_far.came ++ more;
  read = Consumes-trans a b c so_far.came more so_far.read read;
  pending = ap (λ (state : ReaderState). state.pending) fed ∙ ap (λ w. w ++ more) so_far.pending ∙ append_assoc old.pending so_far.came more;
  fault = ap (λ (state : ReaderState). state.fault) fed ∙ so_far.fault;
}

if_none : {P : Type 0} (kept : Option Fault) → (kept ≡ None → P) → IfNone kept P
if_none None f = f refl
if_none (Some x) f = tt

-- more bytes came, and their reader refused them
refused_at : (old new : Inlet) (why : Fault) → why ≡ unwrap_or old.fault fault.Memory → (old.fault ≡ None → IsShort old new) → Receives old (outcome_of why) new
refused_at old new fault.Memory is short = if_none old.fault short
refused_at old new fault.Protocol is short =
    if_none old.fault (λ none. let wrong : fault.Protocol ≡ fault.Memory = is ∙ ap (λ kept. unwrap_or kept fault.Memory) none in cc)
refused_at old new fault.TooLong is short =
    if_none old.fault (λ none. let wrong : fault.TooLong ≡ fault.Memory = is ∙ ap (λ kept. unwrap_or kept fault.Memory) none in cc)

pub refused : (a b c : Option (List ℕ)) (f g : ℕ) (old mid new : ReaderState) (more : List ℕ) (why : Fault) (so_far : Came a b old mid)
    → Consumes a c (so_far.came ++ more) → new ≡ mid → why ≡ unwrap_or mid.fault fault.Memory
    → Receives (inlet a f old) (outcome_of why) (inlet c g new)
refused a b c f g old mid new more why so_far read same is =
    refused_at _ _ why (is ∙ ap (λ kept. unwrap_or kept fault.Memory) so_far.fault)
    (λ none. record {
      came = so_far.came ++ more;
      lost = more;
      read = read;
      left = ap (λ (state : ReaderState). state.pending ++ more) same ∙ ap (λ w. w ++ more) so_far.pending ∙ append_assoc old.pending so_far.came more;
      sound = ap (λ (state : ReaderState). state.fault) same ∙ so_far.fault ∙ none;
    })

-- the reply is whole
pub answered : (a b : Option (List ℕ)) (f g : ℕ) (old mid new : ReaderState) (reply : values.Reply) (so_far : Came a b old mid)
    → HandsOutReply mid reply new → Answers reply (inlet a f old) (inlet b g new)
answered a b f g old mid new reply so_far hands_out = record {
  came = so_far.came;
  read = so_far.read;
  spelled = sym so_far.pending ∙ hands_out.consumed;
  limits = hands_out.limits;
  sound = (sym so_far.fault ∙ hands_out.sound, hands_out.still_sound);
}

-- no reply comes of the bytes, or memory was refused
failed_by : (a b : Option (List ℕ)) (f g : ℕ) (old mid new : ReaderState) (why : Fault) (so_far : Came a b old mid)
    → mid.fault ≡ None → FailsReplyBy why mid new → Receives (inlet a f old) (outcome_of why) (inlet b g new)
failed_by a b f g old mid new fault.Memory so_far sound same =
    if_none old.fault (λ none. record {
      came = so_far.came;
      lost = [];
      read = so_far.read;
      left = append-nil new.pending ∙ ap (λ (state : ReaderState). state.pending) same ∙ so_far.pending;
      sound = ap (λ (state : ReaderState). state.fault) same ∙ sound;
    })
failed_by a b f g old mid new fault.Protocol so_far sound breaks =
    if_none old.fault (λ none. record {
      came = so_far.came;
      read = so_far.read;
      bad = subst HasFirstBadReplyByte so_far.pending breaks.first;
      none = subst HasNoReply so_far.pending breaks.none;
      left = breaks.unread ∙ so_far.pending;
    })
failed_by a b f g old mid new fault.TooLong so_far sound never = absurd never

by_none : {P : Type 0} (kept : Option Fault) → kept ≡ None → IfNone kept P → P
by_none None none p = p
by_none (Some x) none p = cc

pub failed : (a b : Option (List ℕ)) (f g : ℕ) (old mid new : ReaderState) (why : Fault) (so_far : Came a b old mid)
    → mid.fault ≡ None → IfNone mid.fault (FailsReplyBy why mid new) → Receives (inlet a f old) (outcome_of why) (inlet b g new)
failed a b f g old mid new why so_far sound fails = failed_by a b f g old mid new why so_far sound (by_none mid.fault sound fails)

pub waited : (found : Option values.Reply) (mid new : ReaderState) → found ≡ None → IfNone found (WaitsForReply mid new) → new ≡ mid
waited None mid new none waits = waits.unchanged
waited (Some reply) mid new none waits = cc

-- more bytes came, and no reply yet
abbrev pub reads_on : (a b c : Option (List ℕ)) (old mid fed new : ReaderState) (more : List ℕ) (found : Option values.Reply) (so_far : Came a b old mid)
    → Consumes b c more → fed ≡ record mid { pending = mid.pending ++ more } → found ≡ None → IfNone found (WaitsForReply fed new) → Came a c old new
reads_on a b c old mid fed new more found so_far read is none waits =
    let same = waited found fed new none waits in
    let came = came_more a b c old mid fed more so_far read is in
    record {
      came = so_far.came ++ more;
      read = came.read;
      pending = ap (λ (state : ReaderState). state.pending) same ∙ came.pending;
      fault = ap (λ (state : ReaderState). state.fault) same ∙ came.fault;
    }

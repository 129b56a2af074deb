-- Bytes that wait, go out, or go out in part.
use Rattle.std.proofs.Common.{◌≡◌, ◌≢◌, ◌+◌, ℕ, List, [], ◌∷◌, ◌++◌, append_assoc, append-nil, drop, take, Ok, Err, IfOk, MatchResult, Result, arith, inl, inr, refl, sym, ◌∙◌, ap, subst}
use Rattle.std.proofs.lemmas.List.{drop-drop, length-append, take-append-drop}
use Rattle.std.specs.Io.KnownBytes.{Appends}
use Rattle.std.proofs.KnownBytes.{Appends-nil, Appends-trans}
use Rattle.resp2.specs.Counting.{HasRisen}
use Rattle.resp2.specs.Writing.{AppendsBeginning}
use Rattle.resp2.proofs.Beginnings.{begun_behind, begun_before}
use Rattle.listener.specs.Streams.{Fails, FailsLast, Sends, Stream, change}
use Rattle.listener.specs.Progress.{Puts}
use Rattle.listener.specs.Turns.{AccountsFor, IsLeftBy, WritesBy}
use Rattle.listener.specs.declared.batch.Wrote.{Wrote}
use Rattle.listener.specs.declared.batch.Wrote.TheVariants as wrote
use Rattle.listener.specs.declared.outgoing.Left.{Left}
use Rattle.listener.specs.declared.outgoing.Left.TheVariants as left

-- first p and then q were put
pub puts_again : (a b c : Stream) (x y z p q : List ℕ) → Puts (change a b) (change x y) p → Puts (change b c) (change y z) q → Puts (change a c) (change x z) (p ++ q)
puts_again a b c x y z p q first second =
    record {
      sent = first.sent ++ second.sent;
      appends = Appends-trans _ _ _ first.sent second.sent first.appends second.appends;
      all = append_assoc first.sent second.sent z ∙ ap (λ w. first.sent ++ w) second.all ∙ sym (append_assoc first.sent y q)
          ∙ ap (λ w. w ++ q) first.all ∙ append_assoc x p q;
    }

-- nothing was put
pub puts_nothing : (a : Stream) (x : List ℕ) → Puts (change a a) (change x x) []
puts_nothing a x = record { sent = []; appends = Appends-nil a.bytes; all = sym (append-nil x) }

-- all that waited went out
pub puts_waiting : (a b : Stream) (x y : List ℕ) → Sends (change a b) x → y ≡ [] → Puts (change a b) (change x y) []
puts_waiting a b x y sent empty = record { sent = x; appends = sent.appends; all = ap (λ w. x ++ w) empty }

-- first these and then those bytes went out
pub sends_both : (a b c : Stream) (x p : List ℕ) → Sends (change a b) x → Appends b.bytes c.bytes p → c.failures ≡ b.failures → Sends (change a c) (x ++ p)
sends_both a b c x p sent wrote same = record { appends = Appends-trans _ _ _ x p sent.appends wrote; same = same ∙ sent.same }

-- none failed before
pub breaks_behind : (a b c : Stream) → b.failures ≡ a.failures → FailsLast b c → FailsLast a c
breaks_behind a b c same breaks = record { risen = subst (λ n. HasRisen n c.failures) same breaks.risen; last = breaks.last }

-- what waited went out, and a beginning of these bytes
pub fails_behind : (a b c : Stream) (x p : List ℕ) → Sends (change a b) x → Fails (change b c) p → Fails (change a c) (x ++ p)
fails_behind a b c x p sent fails =
    record { begun = begun_behind _ _ _ x p sent.appends fails.begun; breaks = breaks_behind a b c sent.same fails.breaks }

-- a beginning of what waited went out, and nothing of these bytes
pub fails_before : (a b : Stream) (x p : List ℕ) → Fails (change a b) x → Fails (change a b) (x ++ p)
fails_before a b x p fails = record { begun = begun_before _ _ x p fails.begun; breaks = fails.breaks }

-- bytes were put, and then a beginning of what waits went out
pub fails_after : (a b c : Stream) (x y p : List ℕ) → Puts (change a b) (change x y) p → b.failures ≡ a.failures → Fails (change b c) y → Fails (change a c) (x ++ p)
fails_after a b c x y p puts same fails =
    record {
      begun = subst (λ w. AppendsBeginning a.bytes c.bytes w) puts.all (begun_behind _ _ _ puts.sent y puts.appends fails.begun);
      breaks = breaks_behind a b c same fails.breaks;
    }

-- bytes were put, and then all that waits went out
pub sends_after : (a b c : Stream) (x y p : List ℕ) → Puts (change a b) (change x y) p → b.failures ≡ a.failures → Sends (change b c) y → Sends (change a c) (x ++ p)
sends_after a b c x y p puts same sends =
    record {
      appends = subst (λ w. Appends a.bytes c.bytes w) puts.all (Appends-trans _ _ _ puts.sent y puts.appends sends.appends);
      same = sends.same ∙ same;
    }

-- more bytes were put behind those that wait
pub puts_longer : (a b : Stream) (x y p more : List ℕ) → Puts (change a b) (change x y) p → Puts (change a b) (change x (y ++ more)) (p ++ more)
puts_longer a b x y p more puts =
    record {
      sent = puts.sent;
      appends = puts.appends;
      all = sym (append_assoc puts.sent y more) ∙ ap (λ w. w ++ more) puts.all ∙ append_assoc x p more;
    }

-- what waited went out, and then these bytes, or a beginning of them
pub sends_behind : {T E : Type 0} (r : Result T E) (a b c : Stream) (x p : List ℕ) → Sends (change a b) x → MatchResult r (λ _. Sends (change b c) p) (λ _. Fails (change b c) p)
    → MatchResult r (λ _. Sends (change a c) (x ++ p)) (λ _. Fails (change a c) (x ++ p))
sends_behind (Ok value) a b c x p sent sends = sends_both a b c x p sent sends.appends sends.same
sends_behind (Err error) a b c x p sent fails = fails_behind a b c x p sent fails

-- some of what is left of the batch went out
pub puts_some : (a b : Stream) (batch left : List ℕ) (sent count : ℕ) → Appends a.bytes b.bytes (take count (drop sent batch)) → left ≡ drop (sent + count) batch
    → Puts (change a b) (change (drop sent batch) left) []
puts_some a b batch left sent count wrote rest =
    record {
      sent = take count (drop sent batch);
      appends = wrote;
      all = ap (λ w. take count (drop sent batch) ++ w) (rest ∙ sym (drop-drop count sent batch)) ∙ take-append-drop count (drop sent batch)
          ∙ sym (append-nil (drop sent batch));
    }

-- bytes that wait make others wait behind them
pub waits_behind : (x p : List ℕ) → x ≢ [] → x ++ p ≢ []
waits_behind [] p some = absurd (some refl)
waits_behind (byte ∷ x) p some = λ none. cc

-- what a write did to the bytes that wait is so where others wait behind them
pub writes_more : (did : Wrote) (a b : ℕ) (x y p : List ℕ) → WritesBy did (change a b) (change x y) → WritesBy did (change a b) (change (x ++ p) (y ++ p))
writes_more wrote.Nothing a b x y p writes = (ap (λ w. w ++ p) writes.0, writes.1)
writes_more wrote.Some a b x y p writes = (omega (arith, writes.0, length-append x p, length-append y p), writes.1)
writes_more wrote.Interrupted a b x y p writes = (ap (λ w. w ++ p) writes.0, waits_behind x p writes.1, writes.2)
writes_more wrote.Blocked a b x y p writes = (ap (λ w. w ++ p) writes.0, waits_behind x p writes.1, writes.2)

pub writes_behind : {E : Type 0} (r : Result Wrote E) (a b : ℕ) (x y z p : List ℕ) → x ++ p ≡ z → IfOk r (λ did. WritesBy did (change a b) (change x y))
    → IfOk r (λ did. WritesBy did (change a b) (change z (y ++ p)))
writes_behind (Ok did) a b x y z p same writes = rw (sym same) (writes_more did a b x y p writes)
writes_behind (Err e) a b x y z p same writes = tt

-- what is told of the rest is true of what was sent
pub accounts : (did : Wrote) (told : Left) (a b : ℕ) (x y : List ℕ) → WritesBy did (change a b) (change x y) → IsLeftBy did y told → AccountsFor told (change a b) (change x y)
accounts wrote.Nothing left.Nothing a b x y writes is = (is, writes.1)
accounts wrote.Some left.Nothing a b x y writes is = (is, writes.1)
accounts wrote.Interrupted left.Nothing a b x y writes is = absurd (writes.1 (sym writes.0 ∙ is))
accounts wrote.Blocked left.Nothing a b x y writes is = absurd (writes.1 (sym writes.0 ∙ is))
accounts wrote.Nothing left.More a b x y writes is = absurd (is refl)
accounts wrote.Some left.More a b x y writes is = inl writes.0
accounts wrote.Interrupted left.More a b x y writes is = inr writes.2
accounts wrote.Blocked left.More a b x y writes is = inr writes.2
accounts wrote.Nothing left.Blocked a b x y writes is = cc
accounts wrote.Some left.Blocked a b x y writes is = cc
accounts wrote.Interrupted left.Blocked a b x y writes is = cc
accounts wrote.Blocked left.Blocked a b x y writes is = writes.2
accounts wrote.Nothing left.NoMemory a b x y writes is = writes
accounts wrote.Some left.NoMemory a b x y writes is = cc
accounts wrote.Interrupted left.NoMemory a b x y writes is = cc
accounts wrote.Blocked left.NoMemory a b x y writes is = cc

-- some of what waited went out, and nothing of the bytes behind it
pub puts_in_front : {T E : Type 0} (r : Result T E) (a b : Stream) (x y p : List ℕ) → MatchResult r (λ _. Puts (change a b) (change x y) []) (λ _. Fails (change a b) x)
    → MatchResult r (λ _. Puts (change a b) (change (x ++ p) (y ++ p)) []) (λ _. Fails (change a b) (x ++ p))
puts_in_front (Ok value) a b x y p puts =
    record {
      sent = puts.sent;
      appends = puts.appends;
      all = sym (append_assoc puts.sent y p) ∙ ap (λ w. w ++ p) (puts.all ∙ append-nil x) ∙ sym (append-nil (x ++ p));
    }
puts_in_front (Err e) a b x y p fails = fails_before a b x p fails

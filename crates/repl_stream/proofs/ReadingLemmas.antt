-- What stands in front of received bytes.
use Rattle.std.proofs.Common.{◌≡◌, ℕ, zero, suc, ◌≤◌, List, [], ◌∷◌, ◌++◌, length, take, drop, true, false, nat_eq, refl, sym, ap, subst, ◌∙◌, append_assoc, lit≤, true≢false, arith}
use Rattle.std.proofs.Math.Seq.{drop-append_seam}
use Rattle.std.proofs.lemmas.List.{take-append-drop}
use Rattle.std.proofs.lemmas.List.Elements.{All-nil, All-push}
use Rattle.std.proofs.lemmas.Bool.{eqb-true}
use Rattle.std.specs.Cmp.Lexicographic.{bytes_decides}
use Rattle.std.specs.Fmt.{digits}
use Rattle.std.specs.List.{starts_with}
use Rattle.std.specs.Prelude.{◌≢◌, All, Option, None, Some, IfSome, IfNone}
use Rattle.keyspace.specs.Commands.{exec_words, replay_from}
use Rattle.keyspace.specs.Keyspace.{Keyspace}
use Rattle.resp2.proofs.Callers.{stream_spelling-push}
use Rattle.resp2.specs.Law.{NoSpellingBeginsAnother, NoUnfinishedIsWhole}
use Rattle.resp2.specs.Reader.{ReaderState, Breaks, FailsBy, Waits, empty_requests}
use Rattle.resp2.specs.Reader as reader
use Rattle.resp2.specs.Stream.{HasNoRequest, stream_spelling}
use Rattle.resp_header.specs.declared.fault.Fault.{Fault}
use Rattle.resp_header.specs.declared.fault.Fault.TheVariants.{Memory, Protocol, TooLong}
use Rattle.resp_values.specs.Request.{IsRequest, KeepsLimits, request_spelling}
use Rattle.resp_values.specs.declared.words.TheConstants.{MOST_WORD_BYTES}
use Rattle.repl_stream.specs.Reading.{HandsOut, IsPlanned}
use Rattle.bus.specs.Reading.{BeginsWithRequest}

-- ---- requests without words

abbrev pub empty_request : List ℕ
empty_request = 42 ∷ 48 ∷ 13 ∷ 10 ∷ []

empty_spelled : request_spelling [] ≡ empty_request
unfolding digits
empty_spelled = refl

empty_keeps_limits : KeepsLimits []
unfolding digits
empty_keeps_limits = record { each = record { few = omega arith; short = All-nil (λ (word : List ℕ). length word ≤ MOST_WORD_BYTES) }; all = lit≤ tt }

-- no bytes are no request
pub none_in_nothing : (bytes : List ℕ) → nat_eq (length bytes) 0 ≡ true → ¬ BeginsWithRequest bytes
none_in_nothing [] none begins = absurd (cc)
none_in_nothing (byte ∷ bytes) none begins = omega (arith, eqb-true _ _ none)

-- no request with words begins so
pub none_at_empty : (bytes : List ℕ) → NoSpellingBeginsAnother → starts_with nat_eq bytes empty_request ≡ true → ¬ BeginsWithRequest bytes
none_at_empty bytes law front begins =
    let taken : empty_request ≡ take 4 bytes = (bytes_decides empty_request (take 4 bytes)).0 front in
    let spelled : request_spelling [] ++ drop 4 bytes ≡ request_spelling begins.words ++ begins.rest =
    ap (λ (t : List ℕ). t ++ drop 4 bytes) (empty_spelled ∙ taken) ∙ take-append-drop 4 bytes ∙ begins.spelled in
    let same = (law [] begins.words (drop 4 bytes) begins.rest empty_keeps_limits begins.request.limits spelled).0 in
    let none = ap (λ (ws : List (List ℕ)). length ws) same in
    let some = begins.request.some in
    omega (arith, none, some)

starts_empty : (more tail : List ℕ) → starts_with nat_eq (request_spelling [] ++ more ++ tail) empty_request ≡ true
unfolding digits
starts_empty more tail = refl

-- where none stands in front, none is passed over
none_over : (count : ℕ) (bytes tail : List ℕ) → starts_with nat_eq bytes empty_request ≡ false → bytes ≡ empty_requests count ++ tail → bytes ≡ tail
none_over zero bytes tail front over = over
none_over (suc count) bytes tail front over =
    absurd (true≢false (sym (starts_empty (empty_requests count) tail) ∙ ap (λ (t : List ℕ). starts_with nat_eq t empty_request) (sym over) ∙ front))

-- ---- what the reader answers

hands_out : (bytes : List ℕ) (words : List (List ℕ)) (state : ReaderState) → starts_with nat_eq bytes empty_request ≡ false
    → reader.HandsOut (record { pending = bytes; fault = None }) words state → HandsOut bytes words state
hands_out bytes words state front hands = record {
  request = hands.request;
  spelled = none_over hands.count bytes (request_spelling words ++ state.pending) front
      (hands.consumed ∙ append_assoc (empty_requests hands.count) (request_spelling words) state.pending);
  sound = hands.still_sound;
}

none_in : (bytes : List ℕ) → HasNoRequest bytes → ¬ BeginsWithRequest bytes
none_in bytes none begins = none begins.words begins.rest begins.request.limits begins.spelled

no_request_waits : (bytes : List ℕ) (state : ReaderState) → NoUnfinishedIsWhole → starts_with nat_eq bytes empty_request ≡ false
    → Waits (record { pending = bytes; fault = None }) state → ¬ BeginsWithRequest bytes
no_request_waits bytes state law front are =
    let same = none_over are.passes_over.count bytes state.pending front are.passes_over.consumed in
    subst (λ (t : List ℕ). ¬ BeginsWithRequest t) (sym same) (none_in state.pending (law state.pending are.unfinished))

no_request_breaks : (bytes : List ℕ) (fault : Fault) (state : ReaderState) → starts_with nat_eq bytes empty_request ≡ false
    → Breaks fault (record { pending = bytes; fault = None }) state → ¬ BeginsWithRequest bytes
no_request_breaks bytes fault state front are =
    let same = none_over are.passes_over.count bytes state.pending front are.passes_over.consumed in
    subst (λ (t : List ℕ). ¬ BeginsWithRequest t) (sym same) (none_in state.pending are.none)

pub request_found : (bytes : List ℕ) (found : Option (List (List ℕ))) (old state : ReaderState) → old ≡ record { pending = bytes; fault = None }
    → starts_with nat_eq bytes empty_request ≡ false → IfSome found (λ words. reader.HandsOut old words state) → IfSome found (λ words. HandsOut bytes words state)
request_found bytes None old state is front found = tt
request_found bytes (Some words) old state is front found =
    hands_out bytes words state front (subst (λ (t : ReaderState). reader.HandsOut t words state) is found)

pub none_found : (bytes : List ℕ) (found : Option (List (List ℕ))) (old state : ReaderState) → old ≡ record { pending = bytes; fault = None }
    → NoUnfinishedIsWhole → starts_with nat_eq bytes empty_request ≡ false → IfNone found (Waits old state) → IfNone found (¬ BeginsWithRequest bytes)
none_found bytes None old state is law front found =
    no_request_waits bytes state law front (subst (λ (t : ReaderState). Waits t state) is found)
none_found bytes (Some words) old state is law front found = tt

pub bad_found : (bytes : List ℕ) (fault : Fault) (old state : ReaderState) → old ≡ record { pending = bytes; fault = None }
    → fault ≢ Memory → starts_with nat_eq bytes empty_request ≡ false → IfNone old.fault (FailsBy fault old state) → ¬ BeginsWithRequest bytes
bad_found bytes Memory old state is other front found = absurd (other refl)
bad_found bytes Protocol old state is other front found =
    no_request_breaks bytes Protocol state front (subst (λ (t : ReaderState). IfNone t.fault (FailsBy Protocol t state)) is found)
bad_found bytes TooLong old state is other front found =
    no_request_breaks bytes TooLong state front (subst (λ (t : ReaderState). IfNone t.fault (FailsBy TooLong t state)) is found)

-- ---- one request after another

replay_from-push : (requests : List (List (List ℕ))) (keyspace : Keyspace) (words : List (List ℕ))
    → (replay_from keyspace (requests ++ words ∷ [])).last ≡ (exec_words (replay_from keyspace requests).last words).after
replay_from-push [] keyspace words = refl
replay_from-push (request ∷ requests) keyspace words = replay_from-push requests (exec_words keyspace request).after words

-- the bytes begin with requests that leave this keyspace
pub record AreRead (keyspace : Keyspace) (bytes : List ℕ) (after : Keyspace) (rest : List ℕ) : Type 0 where
  pub requests : List (List (List ℕ))
  pub each : All IsRequest requests
  pub spelled : bytes ≡ stream_spelling requests ++ rest
  pub executed : after ≡ (replay_from keyspace requests).last

pub none_read : (keyspace : Keyspace) (bytes : List ℕ) → AreRead keyspace bytes keyspace bytes
none_read keyspace bytes = record { requests = []; each = All-nil IsRequest; spelled = refl; executed = refl }

-- the reader holds what is behind the request
is_pending : (bytes rest : List ℕ) (words : List (List ℕ)) (state : ReaderState)
    → HandsOut bytes words state → rest ≡ drop (length (request_spelling words)) bytes → rest ≡ state.pending
is_pending bytes rest words state hands behind =
    behind ∙ ap (λ (t : List ℕ). drop (length (request_spelling words)) t) hands.spelled ∙ drop-append_seam (request_spelling words) state.pending

pub holds_rest : (bytes rest : List ℕ) (words : List (List ℕ)) (state : ReaderState)
    → HandsOut bytes words state → rest ≡ drop (length (request_spelling words)) bytes → state ≡ record { pending = rest; fault = None }
holds_rest bytes rest words state hands behind =
    ap (λ (t : List ℕ). record { pending = t; fault = state.fault }) (sym (is_pending bytes rest words state hands behind))
    ∙ ap (λ (f : Option Fault). record { pending = rest; fault = f }) hands.sound

pub one_more : (keyspace : Keyspace) (bytes : List ℕ) (after next : Keyspace) (rest last : List ℕ) (words : List (List ℕ)) (state : ReaderState)
    → AreRead keyspace bytes after rest → HandsOut rest words state → last ≡ drop (length (request_spelling words)) rest
    → next ≡ (exec_words after words).after → AreRead keyspace bytes next last
one_more keyspace bytes after next rest last words state are hands behind executed = record {
  requests = are.requests ++ words ∷ [];
  each = All-push IsRequest are.requests words are.each hands.request;
  spelled = are.spelled ∙ ap (λ (t : List ℕ). stream_spelling are.requests ++ t) (hands.spelled ∙ ap (λ (t : List ℕ). request_spelling words ++ t) (sym (is_pending rest last words state hands behind)))
      ∙ sym (append_assoc (stream_spelling are.requests) (request_spelling words) last)
      ∙ ap (λ (t : List ℕ). t ++ last) (sym (stream_spelling-push are.requests words));
  executed = executed ∙ ap (λ (m : Keyspace). (exec_words m words).after) are.executed ∙ sym (replay_from-push are.requests keyspace words);
}

pub all_read : (keyspace : Keyspace) (bytes : List ℕ) (after : Keyspace) (rest : List ℕ)
    → AreRead keyspace bytes after rest → ¬ BeginsWithRequest rest → IsPlanned keyspace bytes after rest
all_read keyspace bytes after rest are none = record {
  requests = are.requests;
  reads = record { each = are.each; spelled = are.spelled; begun = none };
  executed = are.executed;
}

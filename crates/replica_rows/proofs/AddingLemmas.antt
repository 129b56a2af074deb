-- A draft with what it writes.
use Rattle.std.proofs.Common.{◌≡◌, ◌++◌, ◌==◌, ◌+◌, ◌^◌, ◌&&◌, ℕ, Bool, true, false, List, [], ◌∷◌, Option, length, eq-eqb, true≢false, refl, sym, ap, subst, ◌∙◌, arith}
use Rattle.std.proofs.lemmas.Bool.{eqb-true}
use Rattle.std.specs.Prelude.{nat_lt, Result}
use Rattle.bus.specs.Stream.{StreamView, end_of}
use Rattle.bus.specs.declared.message.Body.{Body}
use Rattle.bus.specs.declared.bodies.StreamBody.TheVariants.{Piece}
use Rattle.bus.specs.declared.message.Body.TheVariants.{Stream}
use Rattle.command_table.specs.declared.command.Command.{Command}
use Rattle.command_table.specs.declared.fault.CommandFault.{CommandFault}
use Rattle.node_parts.proofs.ChangeLemmas.{KeepsOwn, keeps_own, records_nothing}
use Rattle.node_parts.specs.Becomes.{Becomes}
use Rattle.node_parts.specs.Drafts.{Drafts, Records, at_epoch}
use Rattle.node_parts.specs.declared.draft.Draft.{Draft}
use Rattle.node_step.specs.Numbers.{has_offset}
use Rattle.node_step.specs.Orders.{to_all}
use Rattle.node_step.specs.Outcome.{Outcome}
use Rattle.node_step.specs.Roles.{replicas_of}
use Rattle.node_step.specs.State.{NodeState}
use Rattle.node_step.specs.Streams.{Requests, is_written, written_by_request}
use Rattle.node_step.specs.declared.response.Response.{Response}
use Rattle.resp2.specs.Stream.{stream_spelling}
use Rattle.resp_values.specs.Request.{request_spelling}
use Rattle.replica_rows.proofs.WriteLemmas.{one_request, written_so}
use Rattle.replica_rows.specs.Adding.{Adds, is_done, pieces_of, written_if}

-- no bytes are no requests
some_bytes : {A : Type 0} (request : List (List ℕ)) (requests : Requests) (bytes : List ℕ) → (length bytes == 0) ≡ true → bytes ≡ stream_spelling (request ∷ requests) → A
some_bytes request requests bytes none is =
    let empty : length (stream_spelling (request ∷ requests)) ≡ 0 = sym (ap (λ (b : List ℕ). length b) is) ∙ eqb-true (length bytes) 0 none in
    let never : ⊥ = omega (arith, empty) in absurd never

no_bytes : {A : Type 0} (bytes : List ℕ) → (length bytes == 0) ≡ false → bytes ≡ [] → A
no_bytes bytes some is = absurd (true≢false (sym (eq-eqb (length bytes) 0 (ap (λ (b : List ℕ). length b) is)) ∙ some))

pub records_none : (old : NodeState) (outcome : Outcome) (requests : Requests) (bytes : List ℕ) (draft : Draft) → (length bytes == 0) ≡ true → bytes ≡ stream_spelling requests
    → Drafts old outcome draft → Records old outcome requests draft
records_none old outcome [] bytes draft none is drafts = records_nothing old outcome draft drafts
records_none old outcome (request ∷ requests) bytes draft none is drafts = some_bytes request requests bytes none is

-- who gets pieces, and of what, a change leaves as it was
abbrev pieces_by : List (Option ℕ) → ℕ → StreamView → List ℕ → List (ℕ × Body)
pieces_by masters number stream bytes =
    to_all (replicas_of masters number) (Stream (Piece (record { stream = stream.held.id; from = end_of stream.held; bytes = bytes; base = stream.former })))

same_pieces : (old new : NodeState) (bytes : List ℕ) → KeepsOwn old new → pieces_of old bytes ≡ pieces_of new bytes
same_pieces old new bytes keeps =
    ap (λ masters. pieces_by masters old.number old.stream bytes) (sym keeps.masters)
    ∙ ap (λ number. pieces_by new.masters number old.stream bytes) (sym keeps.number)
    ∙ ap (λ stream. pieces_by new.masters new.number stream bytes) (sym keeps.stream)

pub records_some : (old : NodeState) (outcome : Outcome) (requests : Requests) (bytes : List ℕ) (before draft : Draft) → (length bytes == 0) ≡ false → bytes ≡ stream_spelling requests
    → Drafts old outcome before → Adds old bytes before draft → Records old outcome requests draft
records_some old outcome [] bytes before draft some is drafts adds = no_bytes bytes some is
records_some old outcome (request ∷ requests) bytes before draft some is drafts adds =
    let keeps : KeepsOwn (at_epoch old before.epoch) outcome.state = keeps_own (at_epoch old before.epoch) before.plan before.change outcome.state drafts.state in
    record {
      response = adds.response ∙ drafts.response;
      released = adds.released ∙ drafts.released;
      sent =
          adds.sent ∙ ap (λ (b : List (ℕ × Body)). b ++ pieces_of old bytes) drafts.sent
          ∙ ap (λ (b : List ℕ). outcome.sent ++ pieces_of old b) is
          ∙ ap (λ (p : List (ℕ × Body)). outcome.sent ++ p) (same_pieces (at_epoch old before.epoch) outcome.state (stream_spelling (request ∷ requests)) keeps);
      promoted = drafts.promoted;
      written = adds.written ∙ is;
      counted = adds.counted;
      stays = adds.succession ∙ drafts.stays;
      state =
          subst (λ e. Becomes (at_epoch old e) draft.plan draft.change outcome.state) (sym adds.epoch)
          (subst (λ p. Becomes (at_epoch old before.epoch) p draft.change outcome.state) (sym adds.plan)
          (subst (λ c. Becomes (at_epoch old before.epoch) before.plan c outcome.state) (sym adds.change) drafts.state));
    }

-- where the stream has no offset behind the bytes
pub no_offset : (old : NodeState) (requests : Requests) (bytes : List ℕ) → (length bytes == 0) ≡ false → bytes ≡ stream_spelling requests
    → nat_lt (end_of old.stream.held + length bytes) (2 ^ 64) ≡ false → has_offset old requests ≡ false
no_offset old [] bytes some is past = no_bytes bytes some is
no_offset old (request ∷ requests) bytes some is past = ap (λ (b : List ℕ). nat_lt (end_of old.stream.held + length b) (2 ^ 64)) (sym is) ∙ past

-- ---- a request that was answered

module _ (words : List (List ℕ)) (is_write recorded : Bool) (response : Response) (test : recorded ≡ (is_write && is_done response)) where
  -- it isn't written
  not_written : recorded ≡ false → (command : Result Command CommandFault) → is_write ≡ is_written command → [] ≡ written_by_request words command response
  not_written none command is = sym (ap (λ r. written_if r words) none) ∙ written_so words is_write recorded response command test is

  -- it is, in its words
  spelled_so : (bytes : List ℕ) → recorded ≡ true → bytes ≡ request_spelling words → (command : Result Command CommandFault) → is_write ≡ is_written command
      → bytes ≡ stream_spelling (written_by_request words command response)
  spelled_so bytes some spelled command is =
      spelled ∙ one_request words ∙ sym (ap (λ (r : Bool). stream_spelling (written_if r words)) some)
      ∙ ap (λ (requests : Requests). stream_spelling requests) (written_so words is_write recorded response command test is)

-- the bytes of a request are some
has_bytes : (words : List (List ℕ)) (bytes : List ℕ) → bytes ≡ request_spelling words → (length bytes == 0) ≡ false
has_bytes words bytes spelled = some (length bytes == 0) refl
  where
    some : (none : Bool) → (length bytes == 0) ≡ none → none ≡ false
    some true is = some_bytes words [] bytes is (spelled ∙ one_request words)
    some false is = refl

pub request_not_written : (old : NodeState) (draft : Draft) (words : List (List ℕ)) (is_write recorded : Bool) → recorded ≡ (is_write && is_done draft.response) → recorded ≡ false
    → (outcome : Outcome) (command : Result Command CommandFault) → is_write ≡ is_written command → Drafts old outcome draft
    → Records old outcome (written_by_request words command draft.response) draft
request_not_written old draft words is_write recorded test none outcome command is drafts =
    subst (λ (requests : Requests). Records old outcome requests draft) (not_written words is_write recorded draft.response test none command is) (records_nothing old outcome draft drafts)

pub request_is_written : (old : NodeState) (words : List (List ℕ)) (is_write recorded : Bool) (bytes : List ℕ) (before draft : Draft)
    → recorded ≡ (is_write && is_done before.response) → recorded ≡ true → bytes ≡ request_spelling words → Adds old bytes before draft
    → (outcome : Outcome) (command : Result Command CommandFault) → is_write ≡ is_written command → Drafts old outcome before
    → Records old outcome (written_by_request words command before.response) draft
request_is_written old words is_write recorded bytes before draft test some spelled adds outcome command is drafts =
    records_some old outcome (written_by_request words command before.response) bytes before draft (has_bytes words bytes spelled)
    (spelled_so words is_write recorded before.response test bytes some spelled command is) drafts adds

pub no_offset_for_request : (old : NodeState) (words : List (List ℕ)) (is_write recorded : Bool) (response : Response) (bytes : List ℕ)
    → recorded ≡ (is_write && is_done response) → recorded ≡ true → bytes ≡ request_spelling words
    → nat_lt (end_of old.stream.held + length bytes) (2 ^ 64) ≡ false
    → (command : Result Command CommandFault) → is_write ≡ is_written command → has_offset old (written_by_request words command response) ≡ false
no_offset_for_request old words is_write recorded response bytes test some spelled past command is =
    no_offset old (written_by_request words command response) bytes (has_bytes words bytes spelled)
    (spelled_so words is_write recorded response test bytes some spelled command is) past

-- What was drafted is a step once it is made.
use Rattle.std.proofs.Common.{◌≡◌, ℕ, List, [], ◌∷◌, refl, ap}
use Rattle.std.specs.Prelude.{IfOk, OnErr, Result, Ok, Err, length, nat_lt, ◌+◌, ◌^◌}
use Rattle.bus.specs.Stream.{StreamView, end_of}
use Rattle.connections.specs.declared.conn.Conn.{Conn}
use Rattle.node_parts.proofs.ChangeLemmas.{made_comes}
use Rattle.node_parts.specs.Drafts.{IsDraftOf, stamped_draft}
use Rattle.node_parts.specs.Making.{IsApplied}
use Rattle.node_parts.specs.declared.draft.Draft.{Draft}
use Rattle.node_step.specs.Numbers.{has_offset}
use Rattle.node_step.specs.State.{NodeState}
use Rattle.node_step.specs.Step.{MayCome, NodeStep}
use Rattle.node_step.specs.Streams.{Requests}
use Rattle.node_step.specs.declared.event.Event.TheVariants.{Request}
use Rattle.node_step.specs.declared.outputs.Outputs.{Outputs}
use Rattle.resp2.specs.Stream.{stream_spelling}

-- an answer
pub answer_is_step : (ticket : ℕ) (old : NodeState) (conn : Conn) (words : List (List ℕ)) (draft : Draft) (outputs : Outputs) (new : NodeState) → IsDraftOf old (MayCome old (Request conn words)) draft
    → outputs ≡ stamped_draft old ticket draft → IsApplied old draft new → NodeStep ticket old (Request conn words) outputs new
answer_is_step ticket old conn words draft outputs new is are applied =
    let comes = made_comes ticket old (MayCome old (Request conn words)) draft outputs new is are applied in
    record { outcome = comes.outcome; may_come = comes.may; outputs_are = comes.outputs_are; state = comes.state }

-- what follows for each outcome that is made
pub if_made : {A E : Type 0} (result : Result A E) (P Q : A → Type 0) → ((made : A) → P made → Q made) → IfOk result P → IfOk result Q
if_made (Ok made) P Q leads holds = leads made holds
if_made (Err fault) P Q leads holds = tt

-- and where it is refused
pub if_refused : {A E : Type 0} (result : Result A E) (P Q : Type 0) → (P → Q) → OnErr result P → OnErr result Q
if_refused (Ok made) P Q leads holds = tt
if_refused (Err fault) P Q leads holds = leads holds

-- whether there is an offset is a matter of the stream alone
pub offset_alike : (old new : NodeState) (requests : Requests) → new.stream ≡ old.stream → has_offset new requests ≡ has_offset old requests
offset_alike old new [] same = refl
offset_alike old new (request ∷ requests) same = ap (λ (stream : StreamView). nat_lt (end_of stream.held + length (stream_spelling (request ∷ requests))) (2 ^ 64)) same

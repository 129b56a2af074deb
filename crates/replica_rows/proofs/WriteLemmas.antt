-- What is written, as it is decided.
use Rattle.std.proofs.Common.{◌≡◌, ◌&&◌, ℕ, Bool, true, false, not, List, [], ◌∷◌, append-nil, refl, sym, ap, ◌∙◌}
use Rattle.std.specs.Prelude.{Result}
use Rattle.command_table.specs.declared.command.Command.{Command}
use Rattle.command_table.specs.declared.fault.CommandFault.{CommandFault}
use Rattle.node_step.specs.Streams.{Requests, is_error, is_executed, is_written, written_by_request}
use Rattle.node_step.specs.declared.response.Response.{Response}
use Rattle.node_step.specs.declared.response.Response.TheVariants.{Nothing, Opened, Parked, Replied}
use Rattle.resp2.specs.Stream.{stream_spelling}
use Rattle.resp_values.specs.Request.{request_spelling}
use Rattle.replica_rows.specs.Adding.{is_done, written_if}

-- one request alone
pub one_request : (words : List (List ℕ)) → request_spelling words ≡ stream_spelling (words ∷ [])
one_request words = sym (append-nil (request_spelling words))

both_ways : (executed write failed : Bool) (words : List (List ℕ)) → written_if (write && (executed && not failed)) words ≡ written_if (executed && write && not failed) words
both_ways true true failed words = refl
both_ways true false true words = refl
both_ways true false false words = refl
both_ways false true failed words = refl
both_ways false false failed words = refl

as_written : (words : List (List ℕ)) (command : Result Command CommandFault) (response : Response) → written_if (is_written command && is_done response) words ≡ written_by_request words command response
as_written words command (Replied answer) = both_ways (is_executed answer.why) (is_written command) (is_error answer.reply) words
as_written words command Nothing = nothing (is_written command)
  where
    nothing : (write : Bool) → written_if (write && false) words ≡ []
    nothing true = refl
    nothing false = refl
as_written words command (Opened conn) = nothing (is_written command)
  where
    nothing : (write : Bool) → written_if (write && false) words ≡ []
    nothing true = refl
    nothing false = refl
as_written words command Parked = nothing (is_written command)
  where
    nothing : (write : Bool) → written_if (write && false) words ≡ []
    nothing true = refl
    nothing false = refl

-- a request that is a write, executed without an error
pub written_so : (words : List (List ℕ)) (is_write recorded : Bool) (response : Response) (command : Result Command CommandFault)
    → recorded ≡ (is_write && is_done response) → is_write ≡ is_written command → written_if recorded words ≡ written_by_request words command response
written_so words is_write recorded response command test is =
    ap (λ t. written_if t words) (test ∙ ap (λ w. w && is_done response) is) ∙ as_written words command response

-- What a step answers.
use Rattle.std.proofs.Common.{◌≡◌, ℕ, Bool, true, false, List, sym, ap, subst, ◌∙◌}
use Rattle.std.specs.Prelude.{MatchBool, ⊤}
use Rattle.command_table.specs.Table.{command_of}
use Rattle.connections.specs.Connections.{connection_at, may_ask}
use Rattle.connections.specs.declared.conn.Conn.{Conn}
use Rattle.node_step.specs.Outcome.{Outcome, silent}
use Rattle.node_step.specs.Requests.{request_outcome}
use Rattle.node_step.specs.State.{NodeState}
use Rattle.node_step.proofs.WithWritten.{with_written_response}
use Rattle.node_step.specs.Step.{IsAnswering, written}
use Rattle.node_step.specs.declared.outputs.Outputs.{Outputs}
use Rattle.node_step.specs.declared.response.Answer.{Answer}
use Rattle.node_step.specs.declared.response.Response.{Response}
use Rattle.node_step.specs.declared.response.Response.TheVariants.{Nothing, Opened, Replied, Parked}
use Rattle.reply_meaning.specs.Law.{Answers}

-- the answer, if the response is one, is such
abbrev pub Says : (Answer → Type 0) → Response → Type 0
Says P (Replied answer) = P answer
Says P Nothing = ⊤
Says P (Opened conn) = ⊤
Says P Parked = ⊤

by_asking : (P : Answer → Type 0) (node : NodeState) (conn : Conn) (words : List (List ℕ)) (asks : Bool) (outcome : Outcome)
    → Says P (request_outcome node conn (command_of words)).response
    → MatchBool asks (IsAnswering node conn words outcome) (outcome ≡ silent node) → Says P outcome.response
by_asking P node conn words true outcome says may =
    let asked : Outcome = request_outcome node conn (command_of words) in
    subst (λ (o : Outcome). Says P o.response) (sym may.comes_to) (subst (Says P) (sym (with_written_response asked (written node conn words) may.dropped)) says)
by_asking P node conn words false outcome says may = subst (λ (o : Outcome). Says P o.response) (sym may) tt

-- what each outcome of the request says is true of the answer
pub says_so : (P : Answer → Type 0) (node : NodeState) (conn : Conn) (words : List (List ℕ)) (answer : Answer) → Answers node conn words answer
    → Says P (request_outcome node conn (command_of words)).response → P answer
says_so P node conn words answer answers says =
    let outcome = answers.step.outcome in
    let same : outcome.response ≡ Replied answer = sym (ap (λ (o : Outputs). o.response) answers.step.outputs_are) ∙ answers.response in
    subst (Says P) same (by_asking P node conn words (may_ask (connection_at node.connections conn)) outcome says answers.step.may_come)

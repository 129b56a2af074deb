use Rattle.std.proofs.Common.{subst, rules}
use Rattle.smart_client.specs.Turns.{IsClient}
use Rattle.smart_client.proofs.StepLemmas.{left, steps_on, steps_out}
use Rattle.smart_client.proofs.WaitLemmas.{told}
use Rattle.smart_client.proofs.client_core.ClientCore.on.Goals as goal

pub end-requires : goal.end-requires
end-requires c = search (rules, left _ _ _ _ c.in-Err-go_on.ensures)

pub returns-in-Ok-go_on : goal.returns-in-Ok-go_on
returns-in-Ok-go_on c =
    let told = told c.args.self.now c.in-Some.call c.args.event c.in-Ok-go_on.action c.go_on.new.self (search rules) (subst IsClient c.self.view_is c.self.invariant) c.requires
    (steps_on c.args.self.now _ c.in-Some.call c.args.event _ _ (search rules) (search rules) c.in-Ok-go_on.ensures) in
    record { steps = told.steps; waits = told.waits; nears = told.nears; limit = told.limit }

pub returns-in-Err-go_on : goal.returns-in-Err-go_on
returns-in-Err-go_on c =
    let told = told c.args.self.now c.in-Some.call c.args.event c.end.result c.end.new.self (search rules) (subst IsClient c.self.view_is c.self.invariant) c.requires
    (steps_out c.args.self.now _ _ c.in-Some.call c.args.event _ _ _ (search rules) (search rules) c.in-Err-go_on.ensures c.end.ensures.done c.end.ensures.peers) in
    record { steps = told.steps; waits = told.waits; nears = told.nears; limit = told.limit }

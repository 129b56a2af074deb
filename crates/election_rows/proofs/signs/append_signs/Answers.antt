use Rattle.std.proofs.Common.{◌++◌, ℕ, List, ap, ◌∙◌}
use Rattle.std.proofs.lemmas.List.{append_assoc}
use Rattle.bus.specs.declared.message.Body.{Body}
use Rattle.bus.specs.declared.bodies.SlotsBody.TheVariants.{Claim}
use Rattle.bus.specs.declared.message.Body.TheVariants.{Slots, Report}
use Rattle.election.specs.Failing.{suspected}
use Rattle.node_step.specs.Failing.{members_of}
use Rattle.node_step.specs.Orders.{claim_of, others, to_all}
use Rattle.election_rows.proofs.signs.append_signs.Goals as goal

pub returns : goal.returns
returns g c =
    let node = c.args.node.now in
    let claims : List (ℕ × Body) = to_all (others node) (Slots (Claim (claim_of node) node.replaced)) in
    let reports : List (ℕ × Body) = to_all (others node) (Report (suspected node.health (members_of node))) in
    c.in_ok-append_reports.ensures ∙ ap (λ (bodies : List (ℕ × Body)). bodies ++ reports) c.in_ok-append_claims.ensures ∙ append_assoc c.args.bodies.now.items claims reports

use Rattle.std.proofs.Common.{◌++◌, ℕ, List, ap, ◌∙◌}
use Rattle.bus.specs.declared.message.Body.{Body}
use Rattle.bus.specs.declared.bodies.SlotsBody.TheVariants.{Claim}
use Rattle.bus.specs.declared.message.Body.TheVariants.{Slots}
use Rattle.node_step.specs.Orders.{others, to_all}
use Rattle.node_step.specs.State.{NodeState}
use Rattle.order_rows.proofs.OrderLemmas.{end_drafted}
use Rattle.order_rows.proofs.orders.end_of_import.Goals as goal

pub returns : goal.returns
returns g c =
    let claim = c.in_ok-claim.claim in
    let numbers = others c.args.node.now in
    end_drafted c.args.node.now c.args.conn c.args.slot c.args.drained c.args.epoch _ _ _ c.draft_reply_in.new.draft c.requires.epoch.0 c.requires.epoch.1 c.in_ok-claim.ensures c.done.ensures
    (c.in_ok-append_to_others.ensures ∙ ap (λ (before : List (ℕ × Body)). before ++ to_all numbers (Slots (Claim claim c.node.inside.election.replaced))) c.new-bodies.ensures.items
    ∙ ap (λ (node : NodeState). to_all numbers (Slots (Claim claim node.replaced))) c.node.view_is)
    c.draft_reply_in.ensures

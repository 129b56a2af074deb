use Rattle.std.proofs.Common.{refl}
use Rattle.node_core.proofs.MessageLemmas.{report_noted}
use Rattle.node_core.proofs.messages.take.Goals as goal

pub returns-in-Report-clause-taken : goal.returns-in-Report-clause-taken
returns-in-Report-clause-taken g c =
    report_noted c.args.ticket c.args.node.now c.args.message.now.from c.args.message.now.body _ c.plain.result.0 c.args.node.now c.in-Report.is c.plain.ensures.outputs refl

use Rattle.std.proofs.Common.{refl}
use Rattle.shared_node.proofs.GateLemmas.{may_come_of_step}
use Rattle.shared_node.proofs.gate.GateNodeGate.step.Goals as goal

pub returns-clause-allowed : goal.returns-clause-allowed
returns-clause-allowed g c =
    may_come_of_step _ _ _ _ c.ask-answer.result c.ask-answer.ensures.cluster c.ask-answer.ensures.number c.ask-answer.ensures.history
    c.ask-answer.ensures.ok c.ask-answer.ensures.err

pub returns-clause-asked : goal.returns-clause-asked
returns-clause-asked g c = rw (c.note_left.ensures, c.ask-answer.ensures.asked, c.take_or_lock-cell.ensures) refl

use Rattle.std.proofs.Common.{◌≡◌, rules, subst, sym}
use Rattle.node_parts.specs.Drafts.{at_epoch}
use Rattle.node_parts.specs.Making.{IsMade}
use Rattle.node_step.specs.State.{NodeState}
use Rattle.node_parts.proofs.ChangeLemmas.{made_at_epoch}
use Rattle.node_parts.proofs.ElectionLemmas.{by_the_taken}
use Rattle.step_making.proofs.applying.apply.Goals as goal

pub returns-clause-ok : goal.returns-clause-ok
returns-clause-ok g c =
    let draft = c.args.draft.now in
    let takes : c.take.result ≡ draft.succession = search rules in
    record {
      made = _;
      makes =
          subst (λ (node : NodeState). IsMade (at_epoch c.args.node.now draft.epoch) draft.plan draft.change draft.written.bytes (at_epoch node draft.epoch)) (sym c.node.view_is)
          (made_at_epoch c.args.node.now c.change_and_write.new.node draft.epoch draft.plan draft.change draft.written.bytes c.in_ok-change_and_write.ensures.ok);
      state = by_the_taken c.succeed_by.new.node _ c.take.result draft.succession takes c.succeed_by.ensures;
    }

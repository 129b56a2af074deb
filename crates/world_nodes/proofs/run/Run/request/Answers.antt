use Rattle.std.proofs.Common.{◌≡◌, rules, ap, ◌∙◌, inl, length, subst, List, ℕ}
use Rattle.node_step.specs.declared.event.Event.TheVariants.{Request}
use Rattle.world_nodes.specs.NodeSteps.{Makes}
use Rattle.world_nodes.specs.Nodes.{RunView}
use Rattle.world_nodes.proofs.Going.{both_at_ok, goes_further, shown_since}
use Rattle.world_nodes.proofs.run.Run.request.Goals as goal

pub returns-clause-asks : goal.returns-clause-asks
returns-clause-asks c =
    let first : c.len-first.result ≡ length c.self.inside.sent.items = search rules in
    let words : c.in_ok-clone.field-0 ≡ c.args.words.now = search rules in
    let event = Request c.args.conn c.args.words.now in
    let makes =
    subst (λ (words : List (List ℕ)). Makes c.args.self.now c.args.node (Request c.args.conn words) c.in-Some.made c.make.new.self) words
    (rw c.in-Some.is at c.in_ok-made.ensures.made) in
    both_at_ok c.finish_request.result _ _ _ (
    λ outputs closes shows. inl (
    record {
      made = c.in-Some.made;
      after = c.make.new.self;
      makes = makes;
      closes = closes;
      shows =
          shown_since c.args.self.now c.make.new.self c.args.node event c.in-Some.made c.len-first.result outputs.items makes
          (first ∙ ap (λ (run : RunView). length run.sent) c.self.view_is) shows;
    }
    )
    ) c.finish_request.ensures.closes c.finish_request.ensures.shows

pub returns-clause-goes_on : goal.returns-clause-goes_on
returns-clause-goes_on c = goes_further _ _ _ c.make.ensures.goes_on c.finish_request.ensures.goes_on

pub returns-in_default-clause-goes_on : goal.returns-in_default-clause-goes_on
returns-in_default-clause-goes_on c = goes_further _ _ _ c.make.ensures.goes_on c.close.ensures.goes_on

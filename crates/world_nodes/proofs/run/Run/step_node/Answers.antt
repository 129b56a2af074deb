use Rattle.std.proofs.Common.{◌≡◌, rules, ap, ◌∙◌, inl, length}
use Rattle.world_nodes.specs.Nodes.{RunView}
use Rattle.world_nodes.proofs.Going.{both_at_ok, closes_served, goes_further, shown_since}
use Rattle.world_nodes.proofs.run.Run.step_node.Goals as goal

pub returns-clause-reaches : goal.returns-clause-reaches
returns-clause-reaches c =
    let first : c.len-first.result ≡ length c.self.inside.sent.items = search rules in
    let makes = rw c.in-Some.is at c.in_ok-made.ensures.made in
    both_at_ok c.finish.result _ _ _ (
    λ outputs closes shows. inl (record {
      made = c.in-Some.made;
      after = c.make.new.self;
      makes = makes;
      closes = closes_served c.args.event c.in-Some.made c.make.new.self c.finish.new.self c.args.node c.requires.unasked closes;
      shows =
          shown_since c.args.self.now c.make.new.self c.args.node c.args.event c.in-Some.made c.len-first.result outputs.items makes
          (first ∙ ap (λ (run : RunView). length run.sent) c.self.view_is) shows;
    })
    ) c.finish.ensures.closes c.finish.ensures.shows

pub returns-clause-goes_on : goal.returns-clause-goes_on
returns-clause-goes_on c = goes_further _ _ _ c.make.ensures.goes_on c.finish.ensures.goes_on

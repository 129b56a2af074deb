use Rattle.std.proofs.Common.{◌<◌, ◌∷◌, ◌++◌, [], ℕ, List, ap, sym, ◌∙◌, subst, take}
use Rattle.std.proofs.lemmas.List.{take_more}
use Rattle.node_step.specs.declared.outputs.Release.{Release}
use Rattle.world_nodes.specs.NodeSteps.{Closes, released_conns}
use Rattle.world_nodes.proofs.Going.{closes_one_more, goes_further}
use Rattle.world_nodes.proofs.run.Run.close_all.Goals as goal

pub returns-in_err-close-clause-goes_on : goal.returns-in_err-close-clause-goes_on
returns-in_err-close-clause-goes_on c = goes_further c.args.self.now c.loop-release.self c.close.new.self c.loop-release.invariant.goes_on c.close.ensures.goes_on

pub loop-release-preserved : goal.loop-release-preserved
loop-release-preserved c =
    let so_far = c.loop-release.invariant in
    let one_more =
    take_more c.args.releases.now c.loop-release.release-index c.release-item.result c.loop-release-test.true
    ∙ ap (λ (release : Release). take c.loop-release.release-index c.args.releases.now ++ release ∷ []) (sym c.release-item.is) in
    record {
      there = subst (λ (count : ℕ). c.args.node < count) (sym c.close.ensures.there) so_far.there;
      goes_on = goes_further c.args.self.now c.loop-release.self c.close.new.self so_far.goes_on c.close.ensures.goes_on;
      remembers = λ was. c.in_ok-close.ensures.remembers (so_far.remembers was);
      closes =
          subst (λ (releases : List Release). Closes c.args.self.now c.args.node (released_conns releases) c.close.new.self) (sym one_more)
          (closes_one_more c.args.self.now c.loop-release.self c.close.new.self c.args.node (take c.loop-release.release-index c.args.releases.now) c.release-item.result so_far.closes c.in_ok-close.ensures.closes);
    }

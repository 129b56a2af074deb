use Rattle.std.proofs.Common.{◌<◌, ℕ, subst, sym}
use Rattle.world_nodes.proofs.Going.{goes_further, goes_on_length}
use Rattle.world_nodes.proofs.run.Run.serve_last.Goals as goal

pub close-requires : goal.close-requires
close-requires c = record {
  there = subst (λ (count : ℕ). c.args.node < count) (sym (goes_on_length c.args.self.now c.serve.new.self c.serve.ensures.goes_on)) c.requires.there;
}

pub returns-in_err-close-clause-goes_on : goal.returns-in_err-close-clause-goes_on
returns-in_err-close-clause-goes_on c = goes_further _ _ _ c.serve.ensures.goes_on c.close.ensures.goes_on

pub returns-clause-goes_on : goal.returns-clause-goes_on
returns-clause-goes_on c = goes_further _ _ _ c.serve.ensures.goes_on c.close.ensures.goes_on

use Rattle.std.proofs.Common.{List, ℕ}
use Rattle.hash.proofs.RunLemmas.{gives_in_order, shows_values_in_order}
use Rattle.hash.proofs.hash.Hash.iter.Goals as goal

pub returns-clause-runs : goal.returns-clause-runs
returns-clause-runs c = gives_in_order

pub returns-clause-values_run : goal.returns-clause-values_run
returns-clause-values_run c = shows_values_in_order (λ (pair : List ℕ × List ℕ). pair)

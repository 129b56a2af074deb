use Rattle.slot_table.proofs.JoinLemmas.{merging_again}
use Rattle.slot_table.proofs.law.merging_again_changes_nothing.Goals as goal

pub returns : goal.returns
returns c = merging_again

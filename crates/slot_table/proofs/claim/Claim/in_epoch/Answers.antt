use Rattle.std.proofs.Common.{ℕ, List, subst, sym}
use Rattle.slot_table.proofs.EpochLemmas.{rising_in_epoch}
use Rattle.slot_table.proofs.claim.Claim.in_epoch.Goals as goal
use Rattle.slot_table.specs.Claims.{IsRising}
use Rattle.slot_table.specs.declared.runs.Run.{Run}

pub new-requires : goal.new-requires
new-requires c =
    subst (λ (claim : List (Run ℕ)). IsRising claim) (sym c.in_ok-runs.ensures)
    (rising_in_epoch c.args.epoch c.runs.result.now (subst (λ (claim : List (Run ℕ)). IsRising claim) (sym c.runs.ensures.same) c.runs.ensures.rising))

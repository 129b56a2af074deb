-- What a line of the entries stands for (ours). No public clause needs it.
use Rattle.world_run.specs.Run.{Deed}
use Rattle.world_run.specs.Run.Deed.{Made as MadeStep, Skipped as NoStep}
use Rattle.world_nodes.specs.declared.entries.Doing.{Doing}
use Rattle.world_nodes.specs.declared.entries.Doing.TheVariants.{Made, Skipped}

abbrev pub deed_of : Doing → Deed
deed_of (Made event outputs) = MadeStep event.value outputs.value
deed_of Skipped = NoStep

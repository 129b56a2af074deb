-- What a function that makes a turn gives.
use Rattle.std.specs.Prelude.{◌≡◌, ◌⊎◌, Result, Ok, Err, IsTrue}
use Rattle.resharder.specs.Step.{Turn, takes_memory}
use Rattle.resharder.specs.Step.Turn.{Goes, Ends, Reads}
use Rattle.resharder.specs.declared.action.Action.TheVariants.{Line}
use Rattle.resharder.specs.declared.deciding.Made.{Made}
use Rattle.resharder.specs.declared.fault.ReshardFault.{ReshardFault}
use Rattle.resharder.specs.declared.fault.ReshardFault.TheVariants.{Memory}
use Rattle.resharder.specs.declared.stage.Stage.TheVariants.{Prints}
use Rattle.resharder.specs.declared.stage.Work.{Work}

-- the turn is made
abbrev pub Does : Turn → Result Made ReshardFault → Type 0
Does (Goes stage action) result = result ≡ Ok (record { stage = stage; action = action })
Does (Ends fault) result = result ≡ Err fault
Does (Reads made) result = Does made result

-- it is made, or memory is refused that it takes
abbrev pub Makes : Turn → Result Made ReshardFault → Type 0
Makes made result = Does made result ⊎ (IsTrue (takes_memory made) × (result ≡ Err Memory))

-- the slot is done, and its line is printed
abbrev pub prints_line : Work → Made
prints_line work = record { stage = Prints work.nodes work.slot; action = Line work.slot work.number work.keys }

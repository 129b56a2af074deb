-- What a line of the node of PONGs stands for. Only the type of such a line cites it.
use Rattle.std.specs.Prelude.{None, Ok}
use Rattle.node_gate.specs.Asks.{Asked}
use Rattle.node_gate.specs.Asks.Asked.{asking, waiting}
use Rattle.uses.specs.declared.pongs.Note.{Note}
use Rattle.uses.specs.declared.pongs.Note.TheVariants.{Stepped, Waited}

abbrev pub noted : Note → Asked
noted (Stepped event outputs) = asking event.value (Ok outputs.value)
noted (Waited conn) = waiting conn None

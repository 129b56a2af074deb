-- How it is noted what was asked of a node through one gate. Only the type of such notes cites it.
use Rattle.std.specs.Prelude.{Ok, Err}
use Rattle.node_cell.specs.declared.asks.Note.{Note}
use Rattle.node_cell.specs.declared.asks.Note.TheVariants.{Stepped, Refused, Waited}
use Rattle.node_gate.specs.Asks.{Asked}
use Rattle.node_gate.specs.Asks.Asked.{asking, waiting}

-- what a note says
abbrev pub noted : Note → Asked
noted (Stepped event outputs) = asking event.value (Ok outputs.value.value)
noted (Refused event fault) = asking event.value (Err fault)
noted (Waited conn reply) = waiting conn reply.value

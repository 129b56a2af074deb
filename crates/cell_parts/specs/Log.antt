-- The entry that a line of a ghost journal stands for. Only the type of such a journal cites it.
use Rattle.cell_parts.specs.declared.entry.Entry.{Entry}
use Rattle.cell_parts.specs.declared.entry.Entry.TheVariants as entry
use Rattle.cell_parts.specs.declared.log.Line.{Line}
use Rattle.cell_parts.specs.declared.log.Line.TheVariants.{Step, Skipped}

abbrev pub entry_of : Line → Entry
entry_of (Step event outputs) = entry.Step event.value outputs.value
entry_of (Skipped ticket) = entry.Skipped ticket

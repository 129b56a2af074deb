use Rattle.slot_table.proofs.TableLemmas.{is_first_table}
use Rattle.slot_table.proofs.table.SlotTable.new.Goals as goal

pub returns-clause-value : goal.returns-clause-value
returns-clause-value c =
    let entries = c.in_ok-entries.entries.items in
    is_first_table c.args.owners.now entries c.in_ok-entries.ensures.whole c.in_ok-entries.ensures.entries

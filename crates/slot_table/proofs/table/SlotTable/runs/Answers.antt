use Rattle.std.proofs.Common.{◌≡◌, ◌∙◌, ap, sym, length, Option}
use Rattle.std.proofs.lemmas.Result.{IfOk-weaker}
use Rattle.slot_table.specs.declared.entry.SlotEntry.{SlotEntry}
use Rattle.slot_table.specs.Table.{owner_at}
use Rattle.slot_table.specs.Runs.{AreRunsOf, runs_of}
use Rattle.slot_table.proofs.RunsOfLemmas.{is_runs_of, no_owner_behind}
use Rattle.slot_table.proofs.table.SlotTable.runs.Goals as goal

pub returns : goal.returns
returns c =
    let table = c.args.self.now in
    let same = c.as_slice.ensures.value ∙ c.self.view_is in
    let whole : length table ≡ 16384 = ap (length {A = Option SlotEntry}) (sym c.self.view_is) ∙ c.self.invariant.slots in
    IfOk-weaker c.runs_of.result (λ runs. AreRunsOf (owner_at c.as_slice.result.now) runs.items) (λ runs. runs.items ≡ runs_of (owner_at table))
    (λ runs are. is_runs_of (owner_at table) runs.items (no_owner_behind table whole) (rw same at are)) c.runs_of.ensures

use Rattle.std.proofs.Common.{◌≡◌, ◌∙◌, ap, sym, subst, length, Option}
use Rattle.slot_table.specs.declared.entry.SlotEntry.{SlotEntry}
use Rattle.slot_table.specs.Table.{claim_at}
use Rattle.slot_table.specs.Runs.{AreRunsOf}
use Rattle.slot_table.proofs.RunsOfLemmas.{is_runs_of, no_claim_behind}
use Rattle.slot_table.proofs.table.SlotTable.made_claim.Goals as goal

pub returns : goal.returns
returns c =
    let table = c.args.self.now in
    let node = c.args.node in
    let runs = c.in_ok-runs.runs.items in
    let same = c.as_slice.ensures.value ∙ c.self.view_is in
    let whole : length table ≡ 16384 = ap (length {A = Option SlotEntry}) (sym c.self.view_is) ∙ c.self.invariant.slots in
    c.in_ok-claim.ensures
    ∙ is_runs_of (claim_at table node) runs (no_claim_behind table node whole) (subst (λ entries. AreRunsOf (claim_at entries node) runs) same c.in_ok-runs.ensures)

use Rattle.std.proofs.Common.{◌≡◌, ◌∙◌, ◌<◌, sym, ap₂, subst, length, arith, ℕ, List, Option, IfOk}
use Rattle.slot_table.specs.Claims.{taken, merged, changed}
use Rattle.slot_table.specs.declared.entry.SlotEntry.{SlotEntry}
use Rattle.slot_table.proofs.KnownLemmas.{known_said}
use Rattle.slot_table.proofs.MergeLemmas.{taken_changes}
use Rattle.slot_table.proofs.RememberedLemmas.{none_changes}
use Rattle.slot_table.proofs.table.SlotTable.changes.Goals as goal

pub returns-then-is_known : goal.returns-then-is_known
returns-then-is_known c =
    c.new.ensures.items ∙ none_changes c.args.self.now (merged c.args.self.now c.args.claim.now c.args.owner) (c.is_known.ensures c.if-is_known.true)

pub taken_slots-requires-clause-known : goal.taken_slots-requires-clause-known
taken_slots-requires-clause-known c =
    let entries = c.self.inside.entries.items in
    let known = c.self.inside.known.items in
    let within : c.index.result < length known = let nodes = c.self.invariant.nodes in let below = c.index.ensures.below in omega arith in
    subst (λ (table : List (Option SlotEntry)). merged table c.runs_in-known.result.now c.args.owner ≡ table) (sym c.as_slice.ensures.value)
    (known_said entries known c.args.owner c.index.result c.index-2.result.now c.runs_in-known.result.now c.self.invariant.slots within c.index.ensures.same c.index-2.ensures c.runs_in-known.ensures c.self.invariant.says)

pub returns : goal.returns
returns c =
    let table = c.args.self.now in
    let claim = c.args.claim.now in
    let owner = c.args.owner in
    let same : taken c.as_slice.result.now c.runs.result.now owner ≡ changed table (merged table claim owner) =
    ap₂ (λ entries runs. taken entries runs owner) (c.as_slice.ensures.value ∙ c.self.view_is) c.runs.ensures.same ∙ taken_changes table claim owner in
    subst (λ (wanted : List ℕ). IfOk c.taken_slots.result (λ slots. slots.items ≡ wanted)) same c.taken_slots.ensures

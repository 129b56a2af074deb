use Rattle.std.proofs.Common.{◌≡◌, ◌≤◌, ◌==◌, ℕ, List, Option, filter, length, take, ap, sym, ◌∙◌, arith}
use Rattle.std.proofs.lemmas.List.{take_all}
use Rattle.std.specs.List.{list_any}
use Rattle.slot_table.specs.Claims.{changed, merged}
use Rattle.slot_table.specs.Table.{owner_at}
use Rattle.slot_table.specs.declared.entry.SlotEntry.{SlotEntry}
use Rattle.node_step.specs.Claiming.{is_owner}
use Rattle.node_step.specs.State.{NodeState}
use Rattle.move_rows.proofs.TakenSlots.{changed_are_lost}
use Rattle.move_rows.proofs.claims.lost_to.Goals as goal

pub returns : goal.returns
returns g c =
    let node = c.args.node.now in
    let items : List ℕ = c.deref-slot-items.result.now in
    let lost : List ℕ = c.loop-slot.lost.items in
    let by_claim : List (Option SlotEntry) → List ℕ = λ table. changed table (merged table c.args.claim.now c.args.from) in
    let mine = λ (slot : ℕ). is_owner (owner_at node.table slot) node.number in
    let table : c.node.inside.table ≡ node.table = ap (λ (state : NodeState). state.table) c.node.view_is in
    let whole : length node.table ≡ 16384 = ap (length {A = Option SlotEntry}) (sym table) ∙ c.node.invariant.0 in
    let past : length items ≤ c.loop-slot.slot-index = omega arith in
    let all : items ≡ by_claim node.table = c.deref-slot-items.ensures.value ∙ c.in_ok-changes.ensures ∙ ap by_claim table in
    let so_far : lost ≡ filter mine (take c.loop-slot.slot-index items) = c.loop-slot.invariant in
    let listed : lost ≡ filter mine (by_claim node.table) = so_far ∙ ap (filter mine) (take_all c.loop-slot.slot-index items past ∙ all) in
    λ slot. ap (λ slots. list_any (λ s. s == slot) slots) listed ∙ changed_are_lost node c.args.claim.now c.args.from whole c.requires slot

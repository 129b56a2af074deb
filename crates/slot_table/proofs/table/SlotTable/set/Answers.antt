use Rattle.std.proofs.Common.{◌≡◌, ◌∙◌, ◌<◌, ap, sym, subst, set, ℕ}
use Rattle.std.proofs.lemmas.List.{length-set}
use Rattle.slot_table.specs.Table.{entry_at}
use Rattle.slot_table.specs.Claims.{is_taken}
use Rattle.slot_table.specs.Remembered.{IsKept}
use Rattle.slot_table.proofs.KnownLemmas.{known_left, places_left}
use Rattle.slot_table.proofs.table.SlotTable.set.Goals as goal

pub invariant_of-self : goal.invariant_of-self
invariant_of-self c =
    let entries = c.self.inside.entries.items in
    let known = c.self.inside.known.items in
    let left = c.forget_unless.new.known.items in
    let entry = c.args.entry in
    let at : ℕ = c.index.result in
    let below : at < 16384 = c.index.ensures.below in
    let there : entry_at c.args.self.now c.args.slot ≡ entry_at entries at = ap (λ table. entry_at table c.args.slot) (sym c.self.view_is) ∙ ap (entry_at entries) (sym c.index.ensures.same) in
    let above : c.is_above-above.result ≡ is_taken (entry_at entries at) entry = c.is_above-above.ensures ∙ ap (λ own. is_taken own entry) there in
    record {
      slots = length-set entries at entry ∙ c.self.invariant.slots;
      nodes = places_left known left c.is_above-above.result c.forget_unless.ensures ∙ c.self.invariant.nodes;
      kept = subst (λ table. IsKept table c.kept_with-kept.result)
          (ap (λ table. set table c.args.slot entry) (sym c.self.view_is) ∙ ap (λ k. set entries k entry) (sym c.index.ensures.same)) c.kept_with-kept.ensures;
      says = known_left entries known left at entry c.is_above-above.result c.self.invariant.slots below above c.forget_unless.ensures c.self.invariant.says;
    }

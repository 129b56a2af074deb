use Rattle.std.proofs.Common.{◌≡◌, ◌∙◌, ◌++◌, ap, arith, drop, length, sym, subst, List, Option, take, ◌<◌}
use Rattle.std.proofs.lemmas.List.{length-set}
use Rattle.slot_table.specs.declared.entry.SlotEntry.{SlotEntry}
use Rattle.slot_table.specs.Table.{entry_at}
use Rattle.slot_table.specs.Claims.{greater, claimed, merged}
use Rattle.slot_table.proofs.MergeLemmas.{is_merged, written}
use Rattle.slot_table.proofs.KnownLemmas.{known_said}
use Rattle.slot_table.proofs.RememberedLemmas.{still_kept, still_known}
use Rattle.slot_table.proofs.table.SlotTable.take.Goals as goal

-- what was written into the entries
entries_written : (c : goal.Joined-index_mut-shared) → take c.self.inside.entries.len (c.take_all-changed.new.entries ++ drop (length c.take_all-changed.new.entries) c.self.inside.entries.items) ≡ c.take_all-changed.new.entries
entries_written c =
    written c.self.inside.entries.len c.take_all-changed.new.entries c.as_mut_slice.result.now c.self.inside.entries.items c.take_all-changed.ensures.whole c.self.invariant.slots c.as_mut_slice.ensures.len c.as_mut_slice.ensures.value

entries_merged : (c : goal.Joined-index_mut-shared) → take c.self.inside.entries.len (c.take_all-changed.new.entries ++ drop (length c.take_all-changed.new.entries) c.self.inside.entries.items) ≡ merged c.self.inside.entries.items c.args.claim.now c.args.owner
entries_merged c =
    let old = c.self.inside.entries.items in
    let runs = c.runs.result.now in
    entries_written c
    ∙ is_merged old c.take_all-changed.new.entries runs c.args.owner c.take_all-changed.ensures.whole (λ slot lt.
    c.take_all-changed.ensures.each slot lt ∙ ap (λ table. greater (entry_at table slot) (claimed runs c.args.owner slot)) c.as_mut_slice.ensures.value)
    ∙ ap (λ claim. merged old claim c.args.owner) c.runs.ensures.same

pub invariant_of-self : goal.invariant_of-self
invariant_of-self c =
    let old = c.self.inside.entries.items in
    let within : c.index-3.result < length c.self.inside.known.items = omega (arith, c.index-3.ensures.below, c.self.invariant.nodes) in
    record {
      slots = ap (length {A = Option SlotEntry}) (entries_written c) ∙ c.take_all-changed.ensures.whole;
      nodes = length-set c.self.inside.known.items c.index-3.result c.shared.result ∙ c.self.invariant.nodes;
      kept = still_kept old _ c.self.inside.kept c.keep_unless.new.kept c.take_all-changed.result
          (λ is. entries_written c ∙ c.take_all-changed.ensures.stays is ∙ c.as_mut_slice.ensures.value) c.keep_unless.ensures c.self.invariant.kept;
      says = still_known old _ c.self.inside.known.items c.args.claim.now c.index-3.result c.shared.result within c.shared.ensures
          (entries_merged c ∙ ap (λ owner. merged old c.args.claim.now owner) (sym c.index-3.ensures.same)) c.self.invariant.says;
    }

pub returns-then-is_known : goal.returns-then-is_known
returns-then-is_known c = sym (c.is_known.ensures c.if-is_known.true)

pub returns : goal.returns
returns c = entries_merged c ∙ ap (λ table. merged table c.args.claim.now c.args.owner) c.self.view_is

pub take_all-changed-requires-clause-known : goal.take_all-changed-requires-clause-known
take_all-changed-requires-clause-known c =
    let entries = c.self.inside.entries.items in
    let known = c.self.inside.known.items in
    let within : c.index.result < length known = let nodes = c.self.invariant.nodes in let below = c.index.ensures.below in omega arith in
    subst (λ (table : List (Option SlotEntry)). merged table c.runs_in-known.result.now c.args.owner ≡ table) (sym c.as_mut_slice.ensures.value)
    (known_said entries known c.args.owner c.index.result c.index-2.result.now c.runs_in-known.result.now c.self.invariant.slots within c.index.ensures.same c.index-2.ensures c.runs_in-known.ensures c.self.invariant.says)

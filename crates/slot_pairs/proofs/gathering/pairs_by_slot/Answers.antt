use Rattle.std.proofs.Common.{ℕ, List, filter, sym, subst, arith}
use Rattle.std.specs.FinMap as map
use Rattle.std.specs.List.Sorted.{IsPermutation}
use Rattle.keyspace.specs.declared.value.Value.{Value}
use Rattle.slot_pairs.proofs.GatheringLemmas.{is_below, pairs_all, pairs_more, pairs_none}
use Rattle.slot_pairs.proofs.PartLemmas.{entries_in_slot}
use Rattle.slot_pairs.proofs.gathering.pairs_by_slot.Goals as goal

pub loop-index-init : goal.loop-index-init
loop-index-init g c =
    let entries = map.entries (g.S.Store.contents c.args.store.now) in
    subst (λ (pairs : List (List ℕ × Value)). IsPermutation pairs (filter (is_below 0) entries)) (sym c.in_ok-pairs.ensures.items) (pairs_none entries)

pub loop-index-preserved : goal.loop-index-preserved
loop-index-preserved g c =
    let keyspace = g.S.Store.contents c.args.store.now in
    let part = g.S.Part.Store.contents c.part.result.now in
    let slot = c.slot_at.result in
    pairs_more (map.entries keyspace) c.loop-index.pairs.items (map.entries part) c.push_pairs.new.pairs.items c.loop-index.index slot c.slot_at.ensures
    (entries_in_slot slot keyspace part c.part.ensures) c.in_ok-push_pairs.ensures c.loop-index.invariant

pub returns : goal.returns
returns g c = pairs_all (map.entries (g.S.Store.contents c.args.store.now)) c.loop-index.pairs.items c.loop-index.index (omega arith) c.loop-index.invariant

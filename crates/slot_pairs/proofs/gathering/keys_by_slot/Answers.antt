use Rattle.std.proofs.Common.{ℕ, List, [], filter, sym, subst}
use Rattle.std.proofs.lemmas.List.{take_all}
use Rattle.std.specs.FinMap as map
use Rattle.slot_pairs.proofs.GatheringLemmas.{keys_more, keys_none}
use Rattle.slot_pairs.proofs.PartLemmas.{keys_in_slot}
use Rattle.slot_pairs.proofs.gathering.keys_by_slot.Goals as goal
use Rattle.slot_pairs.specs.Several.{HaveSameKeys, is_in_one}

pub loop-slot-init : goal.loop-slot-init
loop-slot-init g c =
    let all = map.keys (g.S.Store.contents c.args.store.now) in
    subst (λ (listed : List (List ℕ)). HaveSameKeys listed (filter (is_in_one []) all)) (sym c.in_ok-keys.ensures.items) (keys_none all)

pub loop-slot-preserved : goal.loop-slot-preserved
loop-slot-preserved g c =
    let keyspace = g.S.Store.contents c.args.store.now in
    let part = g.S.Part.Store.contents c.part.result.now in
    let slot = c.slot-item.result in
    keys_more (map.keys keyspace) c.loop-slot.keys.items (map.keys part) c.push_keys.new.keys.items c.args.slots.now c.loop-slot.slot-index slot c.loop-slot-test.true c.slot-item.is
    (keys_in_slot slot keyspace part c.part.ensures) c.in_ok-push_keys.ensures c.loop-slot.invariant

pub returns : goal.returns
returns g c =
    subst (λ (slots : List ℕ). HaveSameKeys c.loop-slot.keys.items (filter (is_in_one slots) (map.keys (g.S.Store.contents c.args.store.now))))
    (take_all c.loop-slot.slot-index c.args.slots.now c.loop-slot-test.false) c.loop-slot.invariant

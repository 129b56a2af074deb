use Rattle.std.proofs.Common.{length, ap, ◌∙◌, arith, length-append}
use Rattle.slot_store.proofs.Empty.{empty_push, contents_empty, placed_empty}
use Rattle.slot_store.proofs.store.SlotStore.new.Goals as goal

pub loop-preserved : goal.loop-preserved
loop-preserved c =
    record {
      size = simp length-append at (ap length c.in_ok-push.ensures.items) ∙ omega arith;
      empty = rw c.in_ok-push.ensures.items (empty_push c.loop.maps.items c.new.result c.loop.invariant.empty c.new.ensures.empty);
    }

pub invariant_of-result : goal.invariant_of-result
invariant_of-result c = (c.loop.invariant.size ∙ omega arith, placed_empty c.loop.maps.items c.loop.invariant.empty)

pub returns : goal.returns
returns c = contents_empty c.loop.maps.items c.loop.invariant.empty

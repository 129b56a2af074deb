use Rattle.std.proofs.Common.{◌≡◌, length}
use Rattle.slot_store.proofs.Empty.{AreEmpty}
use Rattle.slot_store.proofs.store.SlotStore.new.Given as goal

abbrev pub invariant-loop : goal.invariant-loop
invariant-loop l =
    record {
      size : length l.maps.items ≡ l.counter;
      empty : AreEmpty l.maps.items;
    }

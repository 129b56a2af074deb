use Rattle.std.proofs.Common.{◌≡◌, ◌++◌, All, map, take, drop, length}
use Rattle.std.specs.List.{flat_map}
use Rattle.world.specs.Clients.{IsSettled, lost_at, stopped_at}
use Rattle.world.proofs.scene.stop_all.Given as goal

-- those so far stopped
abbrev pub invariant-loop-at : goal.invariant-loop-at
invariant-loop-at l = record {
  clients : l.clients.items ≡ map (stopped_at l.node) (take l.at l.fn.clients.items) ++ drop l.at l.fn.clients.items;
  len : length l.clients.items ≡ length l.fn.clients.items;
  settled : All IsSettled l.clients.items;
  outputs : l.outputs.items ≡ l.fn.outputs.items ++ flat_map (lost_at l.node) (take l.at l.fn.clients.items);
}

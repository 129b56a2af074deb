use Rattle.std.proofs.Common.{◌≡◌, ◌+◌, ◌-◌, ◌≤◌}
use Rattle.turn_queue.proofs.turn_queue.TurnQueue.make_room.Given as goal

-- the keys are the same, and no room is lost
abbrev pub invariant-rooms : goal.invariant-rooms
invariant-rooms l = record {
  keys : l.self.keys ≡ l.fn.self.keys;
  kept : l.fn.self.room ≤ l.self.room;
}

abbrev pub decreases-rooms : goal.decreases-rooms
decreases-rooms l = l.key + 1 - l.self.room

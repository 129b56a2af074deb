use Rattle.std.proofs.Common.{◌≡◌, ◌+◌, ◌++◌, drop}
use Rattle.config_text.specs.Faults.{pairs_in, ranges_from}
use Rattle.config_text.proofs.FormLemmas.{before}
use Rattle.config_text.proofs.checks.are_slots.Given as goal

abbrev pub invariant-loop-pair : goal.invariant-loop-pair
invariant-loop-pair l = ranges_from (pairs_in l.nodes) ≡ before l.ranges.items (ranges_from (drop l.pair-index l.pair-items ++ pairs_in (drop (l.node-index + 1) l.nodes)))

abbrev pub invariant-loop-node : goal.invariant-loop-node
invariant-loop-node l = ranges_from (pairs_in l.nodes) ≡ before l.ranges.items (ranges_from (pairs_in (drop l.node-index l.nodes)))

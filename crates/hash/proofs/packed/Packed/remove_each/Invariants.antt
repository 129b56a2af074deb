use Rattle.std.proofs.Common.{drop}
use Rattle.hash.specs.Pairs.{fields_changed}
use Rattle.hash.proofs.KeptLemmas.{LeadDown}
use Rattle.hash.proofs.packed.Packed.remove_each.Given as goal

-- the removals that are left lead to the same fields
abbrev pub invariant-loop-field : goal.invariant-loop-field
invariant-loop-field l = LeadDown l.self (drop l.field-index l.changes) (fields_changed l.fn.self l.fn.changes)

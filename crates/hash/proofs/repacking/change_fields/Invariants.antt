use Rattle.std.proofs.Common.{drop}
use Rattle.hash.specs.Packed.{pairs_in}
use Rattle.hash.specs.Pairs.{fields_changed}
use Rattle.hash.proofs.ShortLemmas.{Leads}
use Rattle.hash.proofs.repacking.change_fields.Given as goal

-- the changes that are left lead to the same fields
abbrev pub invariant-loop-field : goal.invariant-loop-field
invariant-loop-field l = Leads l.bytes.items (drop l.field-index l.changes) (fields_changed (pairs_in l.fn.bytes.items) l.fn.changes)

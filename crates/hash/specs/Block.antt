-- The bytes in a block, and what is counted of them. No public clause needs it: clauses see the pairs.
use Rattle.std.specs.Prelude.{ℕ, List, []}
use Rattle.hash.specs.declared.block.Form.{Form}
use Rattle.hash.specs.declared.block.Form.TheVariants.{Empty, In23, In39, In55, In71, In87, In103, In119, In135, In167, In199, In247, Longer}
use Rattle.hash.specs.declared.count.Count.{Count}

pub record Kept : Type 0 where
  pub bytes : List ℕ
  pub count : Count

abbrev pub kept_in : Form → Kept
kept_in (Empty count) = record { bytes = []; count = count }
kept_in (In23 count block) = record { bytes = block.value; count = count }
kept_in (In39 count block) = record { bytes = block.value; count = count }
kept_in (In55 count block) = record { bytes = block.value; count = count }
kept_in (In71 count block) = record { bytes = block.value; count = count }
kept_in (In87 count block) = record { bytes = block.value; count = count }
kept_in (In103 count block) = record { bytes = block.value; count = count }
kept_in (In119 count block) = record { bytes = block.value; count = count }
kept_in (In135 count block) = record { bytes = block.value; count = count }
kept_in (In167 count block) = record { bytes = block.value; count = count }
kept_in (In199 count block) = record { bytes = block.value; count = count }
kept_in (In247 count block) = record { bytes = block.value; count = count }
kept_in (Longer count buffer) = record { bytes = buffer.value.items; count = count }

-- Some bytes in a block of a fixed size. No public clause needs it: clauses see the bytes.
use Rattle.std.specs.Prelude.{◌≤◌, ℕ}
use Rattle.byte_string.specs.declared.block.Block.{Block}
use Rattle.byte_string.specs.declared.block.TheConstants.{MOST_IN_BLOCK}

-- the bytes are the first of the block
pub record IsBlock {size : ℕ} (block : Block size) : Type 0 where
  pub len : block.len ≤ size
  pub small : size ≤ MOST_IN_BLOCK

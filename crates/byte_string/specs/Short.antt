-- A few bytes in place. No public clause needs it: clauses see the bytes.
use Rattle.std.specs.Prelude.{◌≡◌, ◌≤◌, ℕ, slice_index}
use Rattle.byte_string.specs.declared.short.TheConstants.{MOST_SHORT}
use Rattle.byte_string.specs.declared.short.Short.{Short}

-- the bytes are the first of the array, and behind them are zeros
pub record IsShort (short : Short) : Type 0 where
  pub len : short.len ≤ MOST_SHORT
  pub zeros : (k : ℕ) → short.len ≤ k → slice_index short.bytes k ≡ 0

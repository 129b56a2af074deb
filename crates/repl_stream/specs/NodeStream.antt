-- What a contract sees of a replica.
use Rattle.std.specs.Prelude.{ℕ}
use Rattle.bus.specs.Stream.{StreamView}

-- what the node has of the stream; for how many bytes there is room, which only who appends has to know; and how many of the last bytes
-- are kept, whatever comes
pub record NodeStreamView : Type 0 where
  pub stream : StreamView
  pub room : ℕ
  pub keeps : ℕ

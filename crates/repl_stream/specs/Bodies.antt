-- What the two bodies of a stream keep (Redis documentation, "Redis replication": the replication backlog, of a fixed size).
use Rattle.std.specs.Prelude.{◌+◌, ◌-◌, ℕ, length, vec_len, vec_capacity}
use Rattle.bus.specs.Stream.{Held}
use Rattle.repl_stream.specs.declared.backlog.Backlog.{Backlog}
use Rattle.repl_stream.specs.declared.whole_stream.WholeStream.{WholeStream}

-- all bytes
abbrev pub all_of : WholeStream → Held
all_of stream = record { id = stream.id; first = stream.first; bytes = stream.bytes.items }

-- so many more find room in the block
abbrev pub spare : WholeStream → ℕ
spare stream = vec_capacity stream.bytes - vec_len stream.bytes

-- the last bytes
abbrev pub last_of : Backlog → Held
last_of stream = record { id = stream.id; first = stream.end - length stream.ring.items; bytes = stream.ring.items }

-- those go that find no place beside so many more
abbrev pub overwritten : Backlog → ℕ → ℕ
overwritten stream count = length stream.ring.items + count - stream.ring.capacity

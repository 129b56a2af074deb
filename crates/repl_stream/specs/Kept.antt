-- Which bytes are kept, and which are taken out.
use Rattle.std.specs.Prelude.{ℕ, ◌-◌, ◌++◌, List, take, drop}
use Rattle.bus.specs.Stream.{Held}
use Rattle.circular_buffer.specs.Buffer.{Buffer, buffer, keep_last}

-- the last bytes, once more came: as many as there is room for
abbrev pub extended : Buffer ℕ → List ℕ → Buffer ℕ
extended ring bytes = buffer (keep_last ring.capacity (ring.items ++ bytes)) ring.capacity

-- at most so many bytes, from that offset on
abbrev pub part_from : Held → ℕ → ℕ → List ℕ
part_from held from most = take most (drop (from - held.first) held.bytes)

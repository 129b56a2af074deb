-- Messages that wait for a link in greater numbers than they should (ours).
use Rattle.std.specs.Prelude.{◌+◌, ◌-◌, ◌≤◌, ◌||◌, ℕ, Bool, List, Option, SomeIff, length, nat_lt, sum_by}
use Rattle.bus.specs.declared.message.Body.{Body}
use Rattle.bus.specs.declared.bodies.SlotsBody.TheVariants.{Copy}
use Rattle.bus.specs.declared.bodies.StreamBody.TheVariants.{Piece}
use Rattle.bus.specs.declared.message.Body.TheVariants.{Slots, Stream}
use Rattle.bus.specs.declared.message.Message.{Message}
use Rattle.hash.specs.Size.{size_of}
use Rattle.keyspace.specs.declared.value.Value.{Value}
use Rattle.keyspace.specs.declared.value.Value.TheVariants.{Str, Hash}
use Rattle.links.specs.declared.pace.TheConstants.{MOST_WAITING, MOST_WAITING_BYTES}

-- the bytes of a string, or those that the pairs of a hash take in a request
abbrev pub value_bytes : Value → ℕ
value_bytes (Str bytes) = length bytes
value_bytes (Hash pairs) = size_of pairs

-- the bytes of a key and its value
abbrev pub pair_bytes : List ℕ × Value → ℕ
pair_bytes pair = length pair.0 + value_bytes pair.1

-- the bytes of a stream that a message brings, or those of keys that move. The keys of a snapshot aren't counted
abbrev pub brought_bytes : Body → ℕ
brought_bytes (Stream (Piece piece)) = length piece.bytes
brought_bytes (Slots (Copy id pairs)) = sum_by pair_bytes pairs
brought_bytes body = 0

abbrev pub waiting_bytes : List Message → ℕ
waiting_bytes waiting = sum_by (λ message. brought_bytes message.body) waiting

-- they are many, or bring many bytes
abbrev pub are_many : List Message → Bool
are_many waiting = nat_lt MOST_WAITING (length waiting) || nat_lt MOST_WAITING_BYTES (waiting_bytes waiting)

-- what is left of the room behind so many bytes, or None where they are more
abbrev pub IsRoomBehind : ℕ → ℕ → Option ℕ → Type 0
IsRoomBehind bytes room left = SomeIff left (bytes ≤ room) (room - bytes)

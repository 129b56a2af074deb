-- The connections of a node's clients (ours).
use Rattle.std.specs.Prelude.{◌≡◌, ◌≢◌, ◌+◌, ◌-◌, ◌^◌, ◌==◌, ℕ, List, [], ◌∷◌, Option, Some, None, Bool, false, count_by, length, map, max, is_none, is_some, slice_index_or, slice_set, if◌then◌else◌, true}
use Rattle.redirect.specs.declared.asked.Asking.TheVariants.{No}
use Rattle.redirect.specs.declared.asked.Asking.{Asking}
use Rattle.connections.specs.declared.conn.Conn.{Conn}
use Rattle.connections.specs.declared.conn.Connection.{Connection}
use Rattle.connections.specs.declared.conn.Wait.{Wait}

-- for each key the connection that is open there, and how often the key was opened
pub record ConnectionTable : Type 0 where
  pub slots : List (Option Connection)
  pub opens : List ℕ

-- what is open at a key
abbrev pub open_at : ConnectionTable → ℕ → Option Connection
open_at table key = slice_index_or table.slots key None

-- how often a key was opened
abbrev pub opens_at : ConnectionTable → ℕ → ℕ
opens_at table key = slice_index_or table.opens key 0

-- a connection is the one that is open at its key only if that has its generation
abbrev pub with_generation : ℕ → Option Connection → Option Connection
with_generation generation None = None
with_generation generation (Some connection) = if connection.generation == generation then Some connection else None

-- what is known of a connection, if it is open
abbrev pub connection_at : ConnectionTable → Conn → Option Connection
connection_at table conn = with_generation conn.generation (open_at table conn.key)

-- how many connections are open
abbrev pub count_of_open : ConnectionTable → ℕ
count_of_open table = count_by is_some table.slots

-- a connection as it begins
abbrev pub fresh : ℕ → Connection
fresh generation = record { generation = generation; asking = No; numbered = false; waits = None }

-- a free key was taken, and its generation is how often it was opened before; there is a new key only where at all others a connection is open
pub record Opens (old new : ConnectionTable) (conn : Conn) : Type 0 where
  pub free : open_at old conn.key ≡ None
  pub generation : conn.generation ≡ opens_at old conn.key
  pub opened : open_at new conn.key ≡ Some (fresh conn.generation)
  pub others : (key : ℕ) → key ≢ conn.key → open_at new key ≡ open_at old key
  pub counted : opens_at new conn.key ≡ opens_at old conn.key + 1
  pub other_counts : (key : ℕ) → key ≢ conn.key → opens_at new key ≡ opens_at old key
  pub keys : length new.slots ≡ max (length old.slots) (count_of_open new)
  pub counted_keys : length new.opens ≡ length new.slots

-- the key of the connection is free again
pub record Closes (old new : ConnectionTable) (conn : Conn) : Type 0 where
  pub closed : open_at new conn.key ≡ None
  pub others : (key : ℕ) → key ≢ conn.key → open_at new key ≡ open_at old key
  pub keys : length new.slots ≡ length old.slots
  pub counts : new.opens ≡ old.opens

-- a free key was opened as often as can be counted
abbrev pub IsUsedUp : ConnectionTable → Type 0
IsUsedUp table = (key : ℕ) × (open_at table key ≡ None) × (opens_at table key ≡ 2 ^ 64 - 1)

-- a connection that waits for no reply may send a request
abbrev pub may_ask : Option Connection → Bool
may_ask None = false
may_ask (Some connection) = is_none connection.waits

-- what is known of the connection that is open at the key is this
abbrev pub with_connection : ConnectionTable → ℕ → Connection → ConnectionTable
with_connection table key connection = record table { slots = slice_set table.slots key (Some connection) }

-- the connection is changed, if it is open
abbrev pub updated : ConnectionTable → ℕ → (Connection → Connection) → Option Connection → ConnectionTable
updated table key change None = table
updated table key change (Some connection) = with_connection table key (change connection)

abbrev pub with_change : ConnectionTable → Conn → (Connection → Connection) → ConnectionTable
with_change table conn change = updated table conn.key change (connection_at table conn)

-- the connection, whose next request has this asking
abbrev pub connection_asking : Asking → Connection → Connection
connection_asking asking connection = record connection { asking = asking }

-- the connection, whose ASK lines name the move
abbrev pub connection_numbered : Connection → Connection
connection_numbered connection = record connection { numbered = true }

-- the connection, which waits so
abbrev pub connection_waiting : Wait → Connection → Connection
connection_waiting wait connection = record connection { waits = Some wait }

-- ---- connections that wait

-- it waits so
abbrev pub waits_so : (Wait → Bool) → Option Wait → Bool
waits_so test None = false
waits_so test (Some wait) = test wait

-- it is open, and waits so
abbrev pub is_waiting : (Wait → Bool) → Option Connection → Bool
is_waiting test None = false
is_waiting test (Some connection) = waits_so test connection.waits

-- the connections that wait so, by rising key; the first has that key
abbrev pub waiting_from : ℕ → (Wait → Bool) → List (Option Connection) → List Conn
waiting_from key test [] = []
waiting_from key test (None ∷ slots) = waiting_from (key + 1) test slots
waiting_from key test (Some connection ∷ slots) =
    if waits_so test connection.waits then record { key = key; generation = connection.generation } ∷ waiting_from (key + 1) test slots
    else waiting_from (key + 1) test slots

abbrev pub waiting : ConnectionTable → (Wait → Bool) → List Conn
waiting table test = waiting_from 0 test table.slots

-- a connection that waits so waits no more
abbrev pub freed : (Wait → Bool) → Option Connection → Option Connection
freed test None = None
freed test (Some connection) = if waits_so test connection.waits then Some (record connection { waits = None }) else Some connection

abbrev pub all_freed : ConnectionTable → (Wait → Bool) → ConnectionTable
all_freed table test = record table { slots = map (freed test) table.slots }

-- ---- a tick

-- the time of a wait is over with this tick
abbrev pub is_over : Wait → Bool
is_over wait = wait.ticks == 1

-- each wait has a tick less
abbrev pub shortened : Option Wait → Option Wait
shortened None = None
shortened (Some wait) = Some (record wait { ticks = wait.ticks - 1 })

abbrev pub aged : Option Connection → Option Connection
aged None = None
aged (Some connection) = Some (record connection { waits = shortened connection.waits })

abbrev pub all_aged : ConnectionTable → ConnectionTable
all_aged table = record table { slots = map aged table.slots }

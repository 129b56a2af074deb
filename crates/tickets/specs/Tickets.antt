-- Tickets: what a seat drew, of which table it is, and what all seats together drew.
use Rattle.std.specs.Prelude.{◌≡◌, ℕ, ◌+◌, ◌<◌, ◌++◌, List, [], ◌∷◌, ◌==◌, nat_lt, cond, All}
use Rattle.std.specs.Arc.{arc_value}
use Rattle.atomic_table.specs.Seated.{TableId}
use Rattle.tickets.specs.declared.seat.Seat.{Seat}
use Rattle.tickets.specs.declared.seat.Table.{Table}

-- the tickets that the seat drew, in order
abbrev pub drawn : Seat → List ℕ
drawn s = s.token.me.0.drawn

-- the table of the seat
abbrev pub table_of : Seat → TableId
table_of s = s.token.table_id

-- how many seats the table was opened for
abbrev pub seats_of : Seat → ℕ
seats_of s = s.token.me.0.all

-- the table's name, which no other table has
abbrev pub id_of : Table → TableId
id_of t = (arc_value t.raw).shared.table_id

-- how many seats the table was opened for
abbrev pub seat_count : Table → ℕ
seat_count t = (arc_value t.raw).shared.key

-- the name of no table, where a type needs some name
abbrev pub no_table : TableId
no_table = record { words = 0; slots = 0; views_name = 0; atom = 0; block = 0; offset = 0; slot_names = [] }

-- a seat of the table `id`, of n in all, that has drawn nothing
abbrev pub IsFresh : TableId → ℕ → Seat → Type 0
IsFresh id n s = (table_of s ≡ id) × (seats_of s ≡ n) × (drawn s ≡ [])

-- a seat of the table `id`, of n in all, that has drawn these tickets
abbrev pub IsSeatOf : TableId → ℕ → List ℕ → Seat → Type 0
IsSeatOf id n tickets s = (drawn s ≡ tickets) × (table_of s ≡ id) × (seats_of s ≡ n)

-- the seat has drawn no more, and is of the same table
abbrev pub IsSameSeat : Seat → Seat → Type 0
IsSameSeat old new = (drawn new ≡ drawn old) × (table_of new ≡ table_of old) × (seats_of new ≡ seats_of old)

-- the seat has drawn n, which is greater than all that it had
abbrev pub HasDrawnNext : Seat → Seat → ℕ → Type 0
HasDrawnNext old new n = (drawn new ≡ drawn old ++ n ∷ []) × All (λ x. x < n) (drawn old)

-- the sum of f over a list
abbrev pub total : {A : Type 0} → (A → ℕ) → List A → ℕ
total f [] = 0
total f (x ∷ xs) = f x + total f xs

-- how often x is in a list
abbrev pub times : ℕ → List ℕ → ℕ
times x [] = 0
times x (y ∷ ys) = cond (x == y) 1 0 + times x ys

-- 1 for a number below n, else 0
abbrev pub once_below : ℕ → ℕ → ℕ
once_below x n = cond (nat_lt x n) 1 0

-- together the seats drew each number below n once, and no other
abbrev pub DrewEachOnce : List Seat → ℕ → Type 0
DrewEachOnce seats n = (x : ℕ) → total (λ s. times x (drawn s)) seats ≡ once_below x n

-- Worked values of the definitions: two connections are open, and the first waits for copy 3 of move 7 of slot 12182.
use Rattle.std.proofs.Common.{◌≡◌, ℕ, List, [], ◌∷◌, refl, true, false, arith}
use Rattle.std.specs.Prelude.{Some, None}
use Rattle.redirect.specs.declared.asked.Asking.TheVariants.{No, Any}
use Rattle.connections.specs.Connections.{ConnectionTable, Opens, all_aged, all_freed, connection_at, count_of_open, fresh, is_over, may_ask, waiting, with_change}
use Rattle.connections.specs.Waiting.{is_for}
use Rattle.connections.specs.declared.conn.Conn.{Conn}
use Rattle.connections.specs.declared.conn.Connection.{Connection}
use Rattle.connections.specs.declared.conn.Wait.{Wait}
use Rattle.slot_state.specs.Moves.{copy_id}

-- the connection with key 0 waits so long, that with key 1 was closed, and that with key 2 is the fifth with its key
abbrev waits_for : ℕ → Wait
waits_for ticks = record { id = copy_id 12182 7 3; ticks = ticks }

abbrev first_waits : Wait → Connection
first_waits wait = record { generation = 0; asking = No; numbered = true; waits = Some wait }

abbrev two_open : ℕ → ConnectionTable
two_open ticks = record { slots = Some (first_waits (waits_for ticks)) ∷ None ∷ Some (fresh 4) ∷ []; opens = 1 ∷ 2 ∷ 5 ∷ [] }

abbrev first : Conn
first = record { key = 0; generation = 0 }

abbrev fifth : Conn
fifth = record { key = 2; generation = 4 }

abbrev fourth : Conn
fourth = record { key = 2; generation = 3 }

-- a former generation isn't open
is_open : connection_at (two_open 1) fifth ≡ Some (fresh 4)
is_open = refl

was_open : connection_at (two_open 1) fourth ≡ None
was_open = refl

no_place : connection_at (two_open 1) (record { key = 3; generation = 0 }) ≡ None
no_place = refl

-- there is no fourth key while the second is free
are_open : count_of_open (two_open 1) ≡ 2
are_open = refl

no_new_key : (counts : List ℕ) → Opens (two_open 1) (record { slots = Some (first_waits (waits_for 1)) ∷ None ∷ Some (fresh 4) ∷ Some (fresh 0) ∷ []; opens = counts }) (record { key = 3; generation = 0 }) → ⊥
no_new_key counts opens = omega (arith, opens.keys)

-- who waits may not ask, and who isn't open neither
asks : may_ask (connection_at (two_open 1) fifth) ≡ true
asks = refl

waits : may_ask (connection_at (two_open 1) first) ≡ false
waits = refl

is_gone : may_ask (connection_at (two_open 1) fourth) ≡ false
is_gone = refl

-- the wait with a tick left is over with this tick, and that with two isn't
is_last : waiting (two_open 1) is_over ≡ first ∷ []
is_last = refl

is_not_last : waiting (two_open 2) is_over ≡ []
is_not_last = refl

goes_on : all_aged (all_freed (two_open 2) is_over) ≡ two_open 1
goes_on = refl

stays_at_none : all_aged (two_open 0) ≡ two_open 0
stays_at_none = refl

-- the acknowledgement of this copy frees who waits for it, and that of another nobody
is_acknowledged : may_ask (connection_at (all_freed (two_open 5) (is_for (copy_id 12182 7 3))) first) ≡ true
is_acknowledged = refl

another_is : all_freed (two_open 5) (is_for (copy_id 12182 7 4)) ≡ two_open 5
another_is = refl

-- nothing is changed for a former generation
changed_late : with_change (two_open 1) fourth (λ connection. record connection { asking = Any }) ≡ two_open 1
changed_late = refl

-- How many connections wait.
use Rattle.std.proofs.Common.{◌≡◌, ℕ, zero, suc, ◌+◌, ◌≤◌, Bool, true, false, List, [], ◌∷◌, get_or, length, set, map, Option, Some, None, is_some, cond, refl, sym, ap, ◌∙◌, inl, inr, arith}
use Rattle.std.proofs.lemmas.Bool.{cases_eq, false≢true}
use Rattle.std.proofs.lemmas.List.Sums.{count_by-le-length, sum_by-cons}
use Rattle.connections.specs.Connections.{ConnectionTable, aged, all_aged, all_freed, freed, is_waiting, shortened, waiting, waiting_from, waits_so}
use Rattle.connections.specs.Counting.{count_of_waits}
use Rattle.connections.specs.declared.conn.Connection.{Connection}
use Rattle.connections.specs.declared.conn.Wait.{Wait}
use Rattle.connections.specs.Places.{Fills}
use Rattle.redirect.specs.declared.asked.Asking.{Asking}

abbrev pub one_if : Bool → ℕ
one_if is = cond is 1 0

-- 1 for a connection that waits, and else 0
abbrev pub weight : Option Connection → ℕ
weight slot = one_if (is_waiting (λ wait. true) slot)

count-cons : (slot : Option Connection) (slots : List (Option Connection)) → count_of_waits (slot ∷ slots) ≡ weight slot + count_of_waits slots
count-cons slot slots = sum_by-cons weight slot slots

-- the count depends on what is at each key alone
count-same : (old new : List (Option Connection)) → ((key : ℕ) → weight (get_or new key None) ≡ weight (get_or old key None)) → count_of_waits new ≡ count_of_waits old
count-same [] [] same = refl
count-same [] (slot ∷ slots) same = omega (arith, count-cons slot slots, same 0, count-same [] slots (λ key. same (suc key)))
count-same (slot ∷ slots) [] same = omega (arith, count-cons slot slots, same 0, count-same slots [] (λ key. same (suc key)))
count-same (slot ∷ slots) (other ∷ others) same =
    omega (arith, count-cons slot slots, count-cons other others, same 0, count-same slots others (λ key. same (suc key)))

one_if-le : (is : Bool) → one_if is ≤ 1
one_if-le true = omega arith
one_if-le false = omega arith

-- what waits beside an open connection is less than the places
count-below : (slots : List (Option Connection)) (key : ℕ) → is_some (get_or slots key None) ≡ true → count_of_waits slots + 1 ≤ length slots + weight (get_or slots key None)
count-below [] key there = absurd (false≢true there)
count-below (None ∷ slots) zero there = absurd (false≢true there)
count-below (Some connection ∷ slots) zero there =
    omega (arith, count-cons (Some connection) slots, count_by-le-length (is_waiting (λ wait. true)) slots)
count-below (slot ∷ slots) (suc key) there =
    omega (arith, count-cons slot slots, one_if-le (is_waiting (λ wait. true) slot), count-below slots key there)

-- ---- one place

waits_any : (waits : Option Wait) → waits_so (λ wait. true) waits ≡ is_some waits
waits_any None = refl
waits_any (Some wait) = refl

-- by what is known of the connection
weight_of : (slot : Option Connection) (connection : Connection) → slot ≡ Some connection → weight slot ≡ one_if (is_some connection.waits)
weight_of slot connection is = ap weight is ∙ ap one_if (waits_any connection.waits)

-- the place of a connection is another one
count-set : (slots : List (Option Connection)) (key : ℕ) (connection : Connection) (slot : Option Connection) → get_or slots key None ≡ Some connection
    → count_of_waits (set slots key slot) + one_if (is_some connection.waits) ≡ count_of_waits slots + weight slot
count-set [] key connection slot is = absurd (cc)
count-set (former ∷ slots) zero connection slot is =
    omega (arith, count-cons former slots, count-cons slot slots, weight_of former connection is)
count-set (former ∷ slots) (suc key) connection slot is =
    omega (arith, count-cons former slots, count-cons former (set slots key slot), count-set slots key connection slot is)

-- what is known of the connection is this
pub count-put : (slots : List (Option Connection)) (key : ℕ) (connection other : Connection) → get_or slots key None ≡ Some connection
    → count_of_waits (set slots key (Some other)) + one_if (is_some connection.waits) ≡ count_of_waits slots + one_if (is_some other.waits)
count-put slots key connection other is = omega (arith, count-set slots key connection (Some other) is, weight_of (Some other) other refl)

-- a connection was opened at a free key
pub count-opened : (old new : List (Option Connection)) (key : ℕ) (connection : Connection) → Fills old new key connection → connection.waits ≡ None → count_of_waits new ≡ count_of_waits old
count-opened old new key connection fills rests = count-same old new same
  where
    same : (other : ℕ) → weight (get_or new other None) ≡ weight (get_or old other None)
    same other =
        elim (cases_eq other key) [
          | inl here ↦
              ap (λ at. weight (get_or new at None)) here ∙ weight_of _ connection fills.filled ∙ ap (λ waits. one_if (is_some waits)) rests
              ∙ sym (ap (λ at. weight (get_or old at None)) here ∙ ap weight fills.free)
          | inr elsewhere ↦ ap weight (fills.others other elsewhere)
        ]

-- without one that is open, fewer wait than there are places
pub count-room : (slots : List (Option Connection)) (key : ℕ) (connection : Connection) (waits : ℕ) → get_or slots key None ≡ Some connection → waits + one_if (is_some connection.waits) ≡ count_of_waits slots → waits + 1 ≤ length slots
count-room slots key connection waits is rest =
    omega (arith, weight_of _ connection is, count-below slots key (ap is_some is))

-- the connection with a key waits no more, if it waited so
weight-freed : (test : Wait → Bool) (slot : Option Connection) → one_if (is_waiting test slot) + weight (freed test slot) ≡ weight slot
weight-freed test None = refl
weight-freed test (Some connection) = by_wait connection.waits
  where
    by_test : (wait : Wait) (is : Bool)
        → one_if is + weight (cond is (Some (record connection { waits = None })) (Some (record connection { waits = Some wait }))) ≡ 1
    by_test wait true = refl
    by_test wait false = refl

    by_wait : (waits : Option Wait) → one_if (waits_so test waits) + weight (freed test (Some (record connection { waits = waits }))) ≡ one_if (waits_so (λ wait. true) waits)
    by_wait None = refl
    by_wait (Some wait) = by_test wait (test wait)

count-freed : (test : Wait → Bool) (slots : List (Option Connection)) (key : ℕ)
    → one_if (is_waiting test (get_or slots key None)) + count_of_waits (set slots key (freed test (get_or slots key None))) ≡ count_of_waits slots
count-freed test [] key = refl
count-freed test (slot ∷ slots) zero = omega (arith, count-cons slot slots, count-cons (freed test slot) slots, weight-freed test slot)
count-freed test (slot ∷ slots) (suc key) =
    omega (arith, count-cons slot slots, count-cons slot (set slots key (freed test (get_or slots key None))), count-freed test slots key)

pub count-freed_at : (test : Wait → Bool) (slots later : List (Option Connection)) (key : ℕ) (is : Bool) → is ≡ is_waiting test (get_or slots key None)
    → later ≡ set slots key (freed test (get_or slots key None)) → one_if is + count_of_waits later ≡ count_of_waits slots
count-freed_at test slots later key is meant written = rw (meant, written) (count-freed test slots key)

-- ---- where none waits

-- a connection that waits for this, or for nothing
abbrev connection_with : ℕ → Asking → Bool → Option Wait → Connection
connection_with generation asking numbered waits = record { generation = generation; asking = asking; numbered = numbered; waits = waits }

still : (slot : Option Connection) (slots : List (Option Connection)) → count_of_waits (slot ∷ slots) ≡ 0 → (weight slot ≡ 0) × (count_of_waits slots ≡ 0)
still slot slots none = (omega (arith, count-cons slot slots), omega (arith, count-cons slot slots))

waits_not : (test : Wait → Bool) (waits : Option Wait) → one_if (waits_so (λ wait. true) waits) ≡ 0 → waits_so test waits ≡ false
waits_not test None none = refl
waits_not test (Some wait) none = absurd (omega arith)

waiting_from_none : (test : Wait → Bool) (key : ℕ) (slots : List (Option Connection)) → count_of_waits slots ≡ 0 → waiting_from key test slots ≡ []
waiting_from_none test key [] none = refl
waiting_from_none test key (None ∷ slots) none = waiting_from_none test (key + 1) slots (still None slots none).1
waiting_from_none test key (Some connection ∷ slots) none =
    ap (λ is. cond is (record { key = key; generation = connection.generation } ∷ waiting_from (key + 1) test slots) (waiting_from (key + 1) test slots))
    (waits_not test connection.waits (still (Some connection) slots none).0)
    ∙ waiting_from_none test (key + 1) slots (still (Some connection) slots none).1

freed_none : (test : Wait → Bool) (slot : Option Connection) → weight slot ≡ 0 → freed test slot ≡ slot
freed_none test None none = refl
freed_none test (Some connection) none =
    ap (λ is. cond is (Some (record connection { waits = None })) (Some connection)) (waits_not test connection.waits none)

slots_freed_none : (test : Wait → Bool) (slots : List (Option Connection)) → count_of_waits slots ≡ 0 → map (freed test) slots ≡ slots
slots_freed_none test [] none = refl
slots_freed_none test (slot ∷ slots) none =
    ap (λ head. head ∷ map (freed test) slots) (freed_none test slot (still slot slots none).0)
    ∙ ap (λ later. slot ∷ later) (slots_freed_none test slots (still slot slots none).1)

shortened_none : (waits : Option Wait) → one_if (waits_so (λ wait. true) waits) ≡ 0 → shortened waits ≡ waits
shortened_none None none = refl
shortened_none (Some wait) none = absurd (omega arith)

aged_none : (slot : Option Connection) → weight slot ≡ 0 → aged slot ≡ slot
aged_none None none = refl
aged_none (Some connection) none =
    ap (λ waits. Some (connection_with connection.generation connection.asking connection.numbered waits)) (shortened_none connection.waits none)

slots_aged_none : (slots : List (Option Connection)) → count_of_waits slots ≡ 0 → map aged slots ≡ slots
slots_aged_none [] none = refl
slots_aged_none (slot ∷ slots) none =
    ap (λ head. head ∷ map aged slots) (aged_none slot (still slot slots none).0)
    ∙ ap (λ later. slot ∷ later) (slots_aged_none slots (still slot slots none).1)

-- nobody is listed or freed, and a tick changes nothing
pub waiting_none : (table : ConnectionTable) (test : Wait → Bool) → count_of_waits table.slots ≡ 0 → waiting table test ≡ []
waiting_none table test none = waiting_from_none test 0 table.slots none

pub all_freed_none : (table : ConnectionTable) (test : Wait → Bool) → count_of_waits table.slots ≡ 0 → all_freed table test ≡ table
all_freed_none table test none = ap (λ slots. record table { slots = slots }) (slots_freed_none test table.slots none)

pub all_aged_none : (table : ConnectionTable) → count_of_waits table.slots ≡ 0 → all_aged table ≡ table
all_aged_none table none = ap (λ slots. record table { slots = slots }) (slots_aged_none table.slots none)

-- Places that are free.
use Rattle.std.proofs.Common.{◌≡◌, ◌≢◌, ◌+◌, ◌≤◌, ◌<◌, ◌++◌, ℕ, zero, suc, Bool, true, false, List, [], ◌∷◌, length, get_or, set, map, reverse, Option, Some, None, Result, Ok, Err, is_some, count_by, ◌-◌, refl, sym, ap, ◌∙◌, subst, inl, inr, arith}
use Rattle.std.specs.Prelude.{All, IfOk, IsSome, IsTrue, OnOk, slice_get, unwrap_or}
use Rattle.std.proofs.Math.Seq.{map-set_same, get_or-append_seam}
use Rattle.std.proofs.lemmas.Bool.{cases_lt, false≢true}
use Rattle.std.proofs.lemmas.List.{get_or-append_right, get_or-set_other, get_or-set_same, get_or_append_left, get_or_past, length-append, length-map, length-reverse, length-set, map-set, reverse-append, reverse-reverse, set-set}
use Rattle.std.proofs.lemmas.List.Elements.{All-head, All-tail}
use Rattle.std.proofs.lemmas.List.Sums.{count_by-le-length, sum_by-append, sum_by-cons}
use Rattle.connections.specs.Places.{AreFree, AreKept, Fills, next_key}
use Rattle.connections.specs.declared.conn.Connection.{Connection}
use Rattle.connections.proofs.Counts.{one_if}

-- ---- places that are taken

-- how many places are taken
abbrev pub count_of_taken : List Bool → ℕ
count_of_taken taken = count_by (λ is. is) taken

all-taken : (taken : List Bool) → All IsTrue taken → count_of_taken taken ≡ length taken
all-taken [] all = refl
all-taken (is ∷ taken) all =
    let here : is ≡ true = All-head IsTrue is taken all in
    omega (arith, sum_by-cons one_if is taken, ap one_if here, all-taken taken (All-tail IsTrue is taken all))

-- one more place is taken
one-taken : (taken : List Bool) (key : ℕ) → slice_get taken key ≡ Some false → count_of_taken (set taken key true) ≡ count_of_taken taken + 1
one-taken [] key free = absurd (cc)
one-taken (is ∷ taken) zero free =
    let here : is ≡ false = cc in
    omega (arith, sum_by-cons one_if is taken, sum_by-cons one_if true taken, ap one_if here)
one-taken (is ∷ taken) (suc key) free =
    omega (arith, sum_by-cons one_if is taken, sum_by-cons one_if is (set taken key true), one-taken taken key free)

-- the free keys and the places that are taken are all
count-free : (keys : List ℕ) (taken : List Bool) → AreFree keys taken → length keys + count_of_taken taken ≡ length taken
count-free [] taken all = omega (arith, all-taken taken all)
count-free (key ∷ keys) taken free =
    omega (arith, one-taken taken key free.0, length-set taken key true, count-free keys (set taken key true) free.1)

some-taken : (taken : List Bool) (key : ℕ) → slice_get taken key ≡ Some true → 1 ≤ count_of_taken taken
some-taken [] key there = absurd (cc)
some-taken (is ∷ taken) zero there =
    let here : is ≡ true = cc in
    omega (arith, sum_by-cons one_if is taken, ap one_if here)
some-taken (is ∷ taken) (suc key) there = omega (arith, sum_by-cons one_if is taken, some-taken taken key there)

set-there : (taken : List Bool) (key : ℕ) (is : Bool) → slice_get taken key ≡ Some is → set taken key is ≡ taken
set-there [] key is there = refl
set-there (other ∷ taken) zero is there = let same : is ≡ other = cc in ap (λ first. first ∷ taken) same
set-there (other ∷ taken) (suc key) is there = ap (λ later. other ∷ later) (set-there taken key is there)

slice_get-set : (taken : List Bool) (key : ℕ) (was is : Bool) → slice_get taken key ≡ Some was → slice_get (set taken key is) key ≡ Some is
slice_get-set [] key was is there = absurd (cc)
slice_get-set (other ∷ taken) zero was is there = refl
slice_get-set (other ∷ taken) (suc key) was is there = slice_get-set taken key was is there

-- a place that was taken is free, and its key comes first
free-again : (keys : List ℕ) (taken : List Bool) (key : ℕ) → slice_get taken key ≡ Some true → AreFree keys taken → AreFree (key ∷ keys) (set taken key false)
free-again keys taken key there free =
    (slice_get-set taken key true false there, subst (AreFree keys) (sym (set-set taken key false true ∙ set-there taken key true there)) free)

-- ---- connections

free-at : (slots : List (Option Connection)) (key : ℕ) → slice_get (map is_some slots) key ≡ Some false → (get_or slots key None ≡ None) × (key < length slots)
free-at [] key free = absurd (cc)
free-at (None ∷ slots) zero free = (refl, omega arith)
free-at (Some connection ∷ slots) zero free = absurd (cc)
free-at (slot ∷ slots) (suc key) free = let later = free-at slots key free in (later.0, omega arith)

open-at : (slots : List (Option Connection)) (key : ℕ) → IsSome (get_or slots key None) → slice_get (map is_some slots) key ≡ Some true
open-at [] key there = absurd (false≢true there)
open-at (slot ∷ slots) zero there = ap (λ is. Some is) there
open-at (slot ∷ slots) (suc key) there = open-at slots key there

-- nothing is at the next key, which is no later than the one behind the last place
pub next-free : (keys : List ℕ) (slots : List (Option Connection)) → AreFree keys (map is_some slots) → get_or slots (next_key keys (length slots)) None ≡ None
next-free [] slots free = get_or_past slots (length slots) None (omega arith)
next-free (key ∷ keys) slots free = (free-at slots key free.0).0

pub next-within : (keys : List ℕ) (slots : List (Option Connection)) → AreFree keys (map is_some slots) → next_key keys (length slots) ≤ length slots
next-within [] slots free = omega arith
next-within (key ∷ keys) slots free = omega (arith, (free-at slots key free.0).1)

-- the last of the free keys is taken first
pub last-first : (free : List ℕ) (key : ℕ) → reverse (free ++ key ∷ []) ≡ key ∷ reverse free
last-first free key = reverse-append free (key ∷ [])

pub last-free : (slots : List (Option Connection)) (free rest : List ℕ) (key capacity : ℕ) → AreKept slots free capacity → free ≡ rest ++ key ∷ []
    → (slice_get (map is_some slots) key ≡ Some false) × AreFree (reverse rest) (set (map is_some slots) key true)
last-free slots free rest key capacity kept is =
    subst (λ keys. AreFree keys (map is_some slots)) (ap reverse is ∙ last-first rest key) kept.keys

pub last-within : (slots : List (Option Connection)) (free rest : List ℕ) (key capacity : ℕ) → AreKept slots free capacity → free ≡ rest ++ key ∷ [] → key < length slots
last-within slots free rest key capacity kept is = (free-at slots key (last-free slots free rest key capacity kept is).0).1

-- ---- what becomes of the places

-- a connection is another one
pub kept-put : (slots : List (Option Connection)) (free : List ℕ) (key capacity : ℕ) (connection : Connection) → AreKept slots free capacity → IsSome (get_or slots key None)
    → AreKept (set slots key (Some connection)) free capacity
kept-put slots free key capacity connection kept there = record {
  keys = subst (AreFree (reverse free)) (sym (map-set_same is_some slots key (Some connection) None (sym there))) kept.keys;
  room = omega (arith, length-set slots key (Some connection), kept.room);
}

-- a place is free again, and there is room for its key
pub room-removed : (slots : List (Option Connection)) (free : List ℕ) (key capacity : ℕ) → AreKept slots free capacity → IsSome (get_or slots key None) → length free < capacity
room-removed slots free key capacity kept there =
    omega (arith, count-free (reverse free) (map is_some slots) kept.keys, length-reverse free, length-map slots is_some, some-taken (map is_some slots) key (open-at slots key there), kept.room)

pub kept-removed : (slots : List (Option Connection)) (free : List ℕ) (key capacity : ℕ) → AreKept slots free capacity → IsSome (get_or slots key None)
    → AreKept (set slots key None) (free ++ key ∷ []) capacity
kept-removed slots free key capacity kept there = record {
  keys =
      subst (λ keys. AreFree keys (map is_some (set slots key None))) (sym (last-first free key))
      (subst (AreFree (key ∷ reverse free)) (sym (map-set is_some slots key None)) (free-again (reverse free) (map is_some slots) key (open-at slots key there) kept.keys));
  room = omega (arith, length-set slots key None, kept.room);
}

-- the place of the last free key is filled
pub kept-filled : (slots : List (Option Connection)) (free rest : List ℕ) (key capacity : ℕ) (connection : Connection) → AreKept slots free capacity → free ≡ rest ++ key ∷ []
    → AreKept (set slots key (Some connection)) rest capacity
kept-filled slots free rest key capacity connection kept is = record {
  keys = subst (AreFree (reverse rest)) (sym (map-set is_some slots key (Some connection))) (last-free slots free rest key capacity kept is).1;
  room = omega (arith, length-set slots key (Some connection), kept.room);
}

pub fills-free : (slots : List (Option Connection)) (free rest : List ℕ) (key capacity : ℕ) (connection : Connection) → AreKept slots free capacity → free ≡ rest ++ key ∷ []
    → Fills slots (set slots key (Some connection)) key connection
fills-free slots free rest key capacity connection kept is =
    let here = free-at slots key (last-free slots free rest key capacity kept is).0 in
    record {
      free = here.0;
      filled = get_or-set_same slots key (Some connection) None here.1;
      others = λ other elsewhere. get_or-set_other slots key other (Some connection) None elsewhere;
      len = omega (arith, length-set slots key (Some connection), here.1);
      places = omega (arith, length-set slots key (Some connection), count_by-le-length is_some (set slots key (Some connection)));
    }

-- a place is new, where all others are filled
all-open : (slots : List (Option Connection)) → All IsTrue (map is_some slots) → count_by is_some slots ≡ length slots
all-open [] all = refl
all-open (slot ∷ slots) all =
    let here : is_some slot ≡ true = All-head IsTrue (is_some slot) (map is_some slots) all in
    omega (arith, sum_by-cons (λ slot. one_if (is_some slot)) slot slots, ap one_if here, all-open slots (All-tail IsTrue (is_some slot) (map is_some slots) all))

past-new : (slots : List (Option Connection)) (connection : Connection) (other : ℕ) → other ≢ length slots → get_or (slots ++ Some connection ∷ []) other None ≡ get_or slots other None
past-new slots connection other elsewhere =
    elim (cases_lt other (length slots)) [
      | inl below ↦ get_or_append_left slots (Some connection ∷ []) None other below
      | inr above ↦
          get_or-append_right slots (Some connection ∷ []) (length slots) other None refl above
          ∙ get_or_past (Some connection ∷ []) (other - length slots) None (omega arith)
          ∙ sym (get_or_past slots other None above)
    ]

nothing-left : (free : List ℕ) (taken : List Bool) → AreFree (reverse free) taken → length free ≡ 0 → All IsTrue taken
nothing-left [] taken all none = all
nothing-left (key ∷ free) taken all none = absurd (omega arith)

pub fills-new : (slots : List (Option Connection)) (free : List ℕ) (capacity : ℕ) (connection : Connection) → AreKept slots free capacity → length free ≡ 0
    → Fills slots (slots ++ Some connection ∷ []) (length slots) connection
fills-new slots free capacity connection kept none = record {
  free = get_or_past slots (length slots) None (omega arith);
  filled = get_or-append_seam slots (Some connection) [] None;
  others = past-new slots connection;
  len = omega (arith, length-append slots (Some connection ∷ []));
  places =
      omega (
        arith,
        length-append slots (Some connection ∷ []),
        sum_by-append (λ slot. one_if (is_some slot)) slots (Some connection ∷ []),
        all-open slots (nothing-left free (map is_some slots) kept.keys none),
      );
}

pub fills-if_added : {E : Type 0} (slots later : List (Option Connection)) (added : Result ℕ E) (places : ℕ) (connection : Connection) → Fills slots (slots ++ Some connection ∷ []) (length slots) connection
    → places ≡ length slots → IfOk added (λ key. key ≡ places) → OnOk added (later ≡ slots ++ Some connection ∷ []) → IfOk added (λ key. Fills slots later key connection)
fills-if_added slots later (Ok key) places connection fills all is new = rw (is, new, all) fills
fills-if_added slots later (Err error) places connection fills all is new = tt

-- ---- the key that is taken first

slice_get-end : (keys : List ℕ) (key : ℕ) → slice_get (keys ++ key ∷ []) (length keys) ≡ Some key
slice_get-end [] key = refl
slice_get-end (other ∷ keys) key = slice_get-end keys key

next-end : (keys : List ℕ) (places : ℕ) → unwrap_or (slice_get (reverse keys) (length (reverse keys) - 1)) places ≡ next_key keys places
next-end [] places = refl
next-end (key ∷ keys) places =
    let end : length (reverse keys ++ key ∷ []) - 1 ≡ length (reverse keys) = omega (arith, length-append (reverse keys) (key ∷ [])) in
    ap (λ free. unwrap_or (slice_get free (length free - 1)) places) (reverse-append (key ∷ []) keys)
    ∙ ap (λ place. unwrap_or (slice_get (reverse keys ++ key ∷ []) place) places) end
    ∙ ap (λ found. unwrap_or found places) (slice_get-end (reverse keys) key)

pub next-last : (free : List ℕ) (places : ℕ) → unwrap_or (slice_get free (length free - 1)) places ≡ next_key (reverse free) places
next-last free places =
    ap (λ free. unwrap_or (slice_get free (length free - 1)) places) (sym (reverse-reverse free)) ∙ next-end (reverse free) places

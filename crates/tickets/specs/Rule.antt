-- Only private clauses cite this file: the rule of the word and of the seats' views, and what a step shows its seat.
use Rattle.std.specs.Prelude.{◌≡◌, ℕ, ◌*◌, ◌^◌, ◌<◌, ◌≤◌, List, [], ◌∷◌, ◌++◌, length, slice_index, All}
use mathlib.Core.Option.{some}
use lib.ListN.{get_elem?}
use Rattle.atomic_table.specs.Table.{State, Me}
use Rattle.tickets.specs.declared.rule.SeatView.{SeatView}
use Rattle.tickets.specs.Tickets.{total, times, once_below}

-- a seat's view, by its fields
abbrev pub seat_view : ℕ → ℕ → List ℕ → SeatView
seat_view parts all drawn = record { parts = parts; all = all; drawn = drawn }

-- one view: it has at most 2^48 tickets for each of its parts, and the number of all seats
pub record FitsView (n : ℕ) (v : SeatView) : Type 0 where
  pub few : length v.drawn ≤ v.parts * 2 ^ 48
  pub seats : 0 < v.parts → v.all ≡ n

-- the rule: the views have all n parts, and each number below the word once
pub record HoldsTickets {S : Type 0} (n : ℕ) (s : State S SeatView) : Type 0 where
  pub one_word : length s.words ≡ 1
  pub seats : n ≤ 16
  pub parts : total (λ (v : SeatView). v.parts) s.views ≡ n
  pub numbers : total (λ (v : SeatView). length v.drawn) s.views ≡ slice_index s.words 0
  pub each_once : (x : ℕ) → total (λ (v : SeatView). times x v.drawn) s.views ≡ once_below x (slice_index s.words 0)
  pub fits : (id : ℕ) (v : SeatView) → get_elem? s.views id ≡ some v → FitsView n v

-- a draw: the number found is greater than the seat's numbers, and is added to them
abbrev pub HasDrawn : {S : Type 0} → Me S SeatView → ℕ → Me S SeatView → Type 0
HasDrawn me n me' = (me' ≡ (seat_view me.0.parts me.0.all (me.0.drawn ++ n ∷ []), me.1)) × All (λ x. x < n) me.0.drawn

-- the numbers of a seat with all parts are those below the word n, each once
pub record HasAll (n : ℕ) (drawn : List ℕ) : Type 0 where
  pub count : length drawn ≡ n
  pub each_once : (x : ℕ) → times x drawn ≡ once_below x n

-- what a seat knows of a word that it loads: its numbers are below the word, and with all parts they are those below it
pub record KnowsWord (v : SeatView) (n : ℕ) : Type 0 where
  pub above : All (λ x. x < n) v.drawn
  pub within : 0 < v.parts → n ≤ v.all * 2 ^ 48
  pub whole : 0 < v.parts → v.parts ≡ v.all → HasAll n v.drawn

-- a load: the seat stays as it was, and knows the word
abbrev pub HasLoaded : {S : Type 0} → Me S SeatView → ℕ → Me S SeatView → Type 0
HasLoaded me n me' = (me' ≡ me) × KnowsWord me.0 n

-- Seats that are made one by one, and seats that are taken back one by one.
use Rattle.std.proofs.Common.{◌≡◌, ℕ, ◌+◌, ◌<◌, List, [], ◌∷◌, ◌++◌, length, All, Some, sym, ap, ◌∙◌, subst, arith, length-append}
use Rattle.std.proofs.lemmas.List.Elements.{All-pop, All-push, All-same}
use Rattle.atomic_table.specs.declared.shared.Seat.{Seat as Token}
use Rattle.atomic_table.specs.Seated.{TableId}
use Rattle.tickets.specs.declared.rule.SeatView.{SeatView}
use Rattle.tickets.specs.declared.seat.Seat.{Seat}
use Rattle.tickets.specs.Tickets.{drawn, table_of, seats_of, total, times, IsFresh}
use Rattle.tickets.specs.Rule.{seat_view}
use Rattle.tickets.proofs.TotalLemmas.{total-snoc, times-append}

-- a seat with a token that has drawn nothing comes behind fresh seats
pub fresh_push : (id : TableId) (n parts : ℕ) (seats after : List Seat) (s : Seat) (token : Token ℕ SeatView) → All (IsFresh id n) seats → after ≡ seats ++ s ∷ [] → s.token ≡ token → token.table_id ≡ id → token.me ≡ (seat_view parts n [], []) → All (IsFresh id n) after
fresh_push id n parts seats after s token fresh pushed same seated dealt =
    let view : s.token.me ≡ (seat_view parts n [], []) = ap (λ (t : Token ℕ SeatView). t.me) same ∙ dealt in
    let new : IsFresh id n s = (
      ap (λ (t : Token ℕ SeatView). t.table_id) same ∙ seated,
      ap (λ (me : SeatView × List (ℕ × ℕ)). me.0.all) view,
      ap (λ (me : SeatView × List (ℕ × ℕ)). me.0.drawn) view,
    ) in
    All-same (IsFresh id n) after (seats ++ s ∷ []) pushed (All-push (IsFresh id n) seats s fresh new)

-- of n seats of the table `id`, k are left, and `all` has what the others drew
pub record IsGathered (n : ℕ) (id : TableId) (seats : List Seat) (k : ℕ) (left : List Seat) (all : Token ℕ SeatView) : Type 0 where
  pub parts : all.me.0.parts + k ≡ n
  pub some_part : 0 < all.me.0.parts
  pub known : all.me.0.all ≡ n
  pub seated : All (λ s. table_of s ≡ id) left
  pub all_seated : all.table_id ≡ id
  pub at_rest : all.me.1 ≡ []
  pub each : (x : ℕ) → times x all.me.0.drawn + total (λ (s : Seat). times x (drawn s)) left ≡ total (λ (s : Seat). times x (drawn s)) seats
  pub count : length all.me.0.drawn + total (λ (s : Seat). length (drawn s)) left ≡ total (λ (s : Seat). length (drawn s)) seats

-- the last of a list counts beside the others
total-pop : (f : Seat → ℕ) (seats left : List Seat) (s : Seat) → seats ≡ left ++ s ∷ [] → total f seats ≡ total f left + f s
total-pop f seats left s is = ap (total f) is ∙ total-snoc f left s

-- the first seat that is taken
pub starts : (n : ℕ) (id : TableId) (seats : List Seat) (k : ℕ) (left : List Seat) (s : Seat) (token : Token ℕ SeatView) → token ≡ s.token → seats ≡ left ++ s ∷ [] → k + 1 ≡ n → All (λ s. table_of s ≡ id) seats → All (λ s. seats_of s ≡ n) seats → IsGathered n id seats k left token
starts n id seats k left s token same is one seated whole =
    let of_table = All-pop (λ (s : Seat). table_of s ≡ id) seats left (Some s) is seated in
    let of_all = All-pop (λ (s : Seat). seats_of s ≡ n) seats left (Some s) is whole in
    let part : s.token.me.0.parts ≡ 1 = s.one_part in
    subst (IsGathered n id seats k left) (sym same) record {
      parts = omega arith;
      some_part = omega arith;
      known = of_all.1;
      seated = of_table.0;
      all_seated = of_table.1;
      at_rest = s.at_rest;
      each = λ x. let split = total-pop (λ (s : Seat). times x (drawn s)) seats left s is in omega arith;
      count = let split = total-pop (λ (s : Seat). length (drawn s)) seats left s is in omega arith;
    }

-- one more seat is taken in
pub takes_in : (n : ℕ) (id : TableId) (seats : List Seat) (k j : ℕ) (before left : List Seat) (s : Seat) (token all after : Token ℕ SeatView) → token ≡ s.token → IsGathered n id seats k before all → before ≡ left ++ s ∷ [] → j + 1 ≡ k → after.table_id ≡ all.table_id → after.me ≡ (seat_view (all.me.0.parts + token.me.0.parts) all.me.0.all (all.me.0.drawn ++ token.me.0.drawn), all.me.1) → IsGathered n id seats j left after
takes_in n id seats k j before left s token all after same h is one same_table joined =
    let both = subst (λ (t : Token ℕ SeatView). after.me ≡ (seat_view (all.me.0.parts + t.me.0.parts) all.me.0.all (all.me.0.drawn ++ t.me.0.drawn), all.me.1)) same joined in
    let of_table = All-pop (λ (s : Seat). table_of s ≡ id) before left (Some s) is h.seated in
    let part : s.token.me.0.parts ≡ 1 = s.one_part in
    let parts : after.me.0.parts ≡ all.me.0.parts + s.token.me.0.parts = ap (λ (me : SeatView × List (ℕ × ℕ)). me.0.parts) both in
    let tickets : after.me.0.drawn ≡ all.me.0.drawn ++ s.token.me.0.drawn = ap (λ (me : SeatView × List (ℕ × ℕ)). me.0.drawn) both in
    let was = h.parts in
    record {
      parts = omega arith;
      some_part = omega arith;
      known = ap (λ (me : SeatView × List (ℕ × ℕ)). me.0.all) both ∙ h.known;
      seated = of_table.0;
      all_seated = same_table ∙ h.all_seated;
      at_rest = ap (λ (me : SeatView × List (ℕ × ℕ)). me.1) both ∙ h.at_rest;
      each = λ x. let split = total-pop (λ (s : Seat). times x (drawn s)) before left s is in let more = ap (times x) tickets ∙ times-append x all.me.0.drawn s.token.me.0.drawn in let old = h.each x in omega arith;
      count = let split = total-pop (λ (s : Seat). length (drawn s)) before left s is in let more = ap length tickets ∙ length-append all.me.0.drawn s.token.me.0.drawn in let old = h.count in omega arith;
    }

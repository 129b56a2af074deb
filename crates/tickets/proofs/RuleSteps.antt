-- Each move of a seat keeps the rule.
use Rattle.std.proofs.Common.{◌≡◌, ◌≢◌, ℕ, ◌+◌, ◌-◌, ◌*◌, ◌^◌, ◌%◌, ◌<◌, ◌≤◌, List, [], ◌∷◌, ◌++◌, length, set, All, refl, sym, ap, ◌∙◌, subst, ⊎_elim, arith, length-append}
use Rattle.std.specs.Prelude.{slice_index}
use Rattle.std.proofs.Math.ListN.{length-set}
use mathlib.Core.Option.{some}
use lib.ListN.{get_elem?}
use Rattle.atomic_table.specs.Table.{State, Me, keeps, Allows, Splits, Joins}
use Rattle.atomic_table.proofs.Lists.{at_set, at_snoc, set_again}
use Rattle.tickets.specs.declared.rule.SeatView.{SeatView}
use Rattle.tickets.specs.Tickets.{times, total, once_below}
use Rattle.tickets.specs.Rule.{seat_view, FitsView, HoldsTickets, HasDrawn, HasAll, HasLoaded}
use Rattle.tickets.proofs.TotalLemmas.{total-set, total-more, total-split, total-join, total-at, total-le, total-times, times-append, once_below-next, all_below}

abbrev parts_of : SeatView → ℕ
parts_of v = v.parts

abbrev count_of : SeatView → ℕ
count_of v = length v.drawn

abbrev times_in : ℕ → SeatView → ℕ
times_in x v = times x v.drawn

-- the view of a seat that was taken in
abbrev gone : SeatView
gone = seat_view 0 0 []

-- a view that is gone fits
fits_gone : (n : ℕ) → FitsView n gone
fits_gone n = record { few = omega arith; seats = λ some_part. absurd (omega arith) }

-- what holds of each view holds after one is replaced by another that fits
fits_set : (n : ℕ) (views : List SeatView) (id : ℕ) (w : SeatView) → ((j : ℕ) (u : SeatView) → get_elem? views j ≡ some u → FitsView n u) → FitsView n w → (j : ℕ) (u : SeatView) → get_elem? (set views id w) j ≡ some u → FitsView n u
fits_set n views id w others mine j u at =
    ⊎_elim
    (λ (t : (j ≡ id) × (w ≡ u)). subst (FitsView n) t.1 mine)
    (λ (t : (j ≢ id) × (get_elem? views j ≡ some u)). others j u t.1)
    (at_set views id j w u at)

-- the word of a list of one, after it is written
word_set : (words : List ℕ) (x : ℕ) → length words ≡ 1 → slice_index (set words 0 x) 0 ≡ x
word_set [] x one = absurd (omega arith)
word_set (w ∷ ws) x one = refl

-- a word that is written as it was
word_again : (words : List ℕ) → length words ≡ 1 → set words 0 (slice_index words 0) ≡ words
word_again [] one = absurd (omega arith)
word_again (w ∷ ws) one = refl

module _ {S : Type 0} (n : ℕ) where
  -- 16 seats with 2^48 tickets each never fill a word
  bounded : (s : State S SeatView) → HoldsTickets n s → slice_index s.words 0 ≤ n * 2 ^ 48
  bounded s h =
      let most = total-le count_of parts_of s.views (λ i v at. (h.fits i v at).few) in
      let numbers : total count_of s.views ≡ slice_index s.words 0 = h.numbers in
      let parts : total parts_of s.views ≡ n = h.parts in
      omega arith

  -- the tickets of one seat are below the word
  below : (s : State S SeatView) → HoldsTickets n s → (id : ℕ) (v : SeatView) → get_elem? s.views id ≡ some v → All (λ x. x < slice_index s.words 0) v.drawn
  below s h id v at =
      all_below
      (slice_index s.words 0)
      v.drawn
      (λ x. let mine = total-at (times_in x) s.views id v at in let all : total (times_in x) s.views ≡ once_below x (slice_index s.words 0) = h.each_once x in omega arith)

  -- a seat draws the number that it finds
  pub draws : (slots id : ℕ) (me : Me S SeatView) → me.0.parts ≡ 1 → length me.0.drawn < 2 ^ 48 → Allows (HoldsTickets n) slots id me 0 (λ w. (w + 1) % 2 ^ 64) (HasDrawn me)
  draws slots id me one room s h homes at fits =
      let v : SeatView = me.0 in
      let found : ℕ = slice_index s.words 0 in
      let w : SeatView = seat_view v.parts v.all (v.drawn ++ found ∷ []) in
      let most = bounded s h in
      let limit : n ≤ 16 = h.seats in
      let next : (found + 1) % 2 ^ 64 ≡ found + 1 = omega arith in
      let word : slice_index (set s.words 0 ((found + 1) % 2 ^ 64)) 0 ≡ found + 1 = word_set s.words _ h.one_word ∙ next in
      let longer : length w.drawn ≡ length v.drawn + 1 = length-append v.drawn (found ∷ []) in (
        w,
        keeps,
        tt,
        record {
          one_word = length-set s.words 0 _ ∙ h.one_word;
          seats = h.seats;
          parts = total-more parts_of s.views id v w 0 at (omega arith) ∙ (let parts : total parts_of s.views ≡ n = h.parts in omega arith);
          numbers = total-more count_of s.views id v w 1 at longer ∙ ap (λ k. k + 1) h.numbers ∙ sym word;
          each_once = λ x. total-more (times_in x) s.views id v w (times x (found ∷ [])) at (times-append x v.drawn (found ∷ [])) ∙ ap (λ k. k + times x (found ∷ [])) (h.each_once x) ∙ sym (once_below-next x found) ∙ ap (once_below x) (sym word);
          fits = fits_set n s.views id w h.fits record { few = omega arith; seats = (h.fits id v at).seats };
        },
        (refl, below s h id v at),
      )

  -- who has all parts has all numbers
  whole : (s : State S SeatView) → HoldsTickets n s → (id : ℕ) (v : SeatView) → get_elem? s.views id ≡ some v → v.parts ≡ n → HasAll (slice_index s.words 0) v.drawn
  whole s h id v at all =
      let others : List SeatView = set s.views id gone in
      let fit = fits_set n s.views id gone h.fits (fits_gone n) in
      let no_parts : total parts_of others ≡ 0 = (let rest = total-set parts_of s.views id v gone at in let parts : total parts_of s.views ≡ n = h.parts in omega arith) in
      let none : total count_of others ≡ 0 = (let few = total-le count_of parts_of others (λ i u there. (fit i u there).few) in omega arith) in
      record {
        count = let rest = total-set count_of s.views id v gone at in let numbers : total count_of s.views ≡ slice_index s.words 0 = h.numbers in omega arith;
        each_once = λ x.
            let few = total-times (λ (u : SeatView). u.drawn) x others in
            let rest = total-set (times_in x) s.views id v gone at in
            let once : total (times_in x) s.views ≡ once_below x (slice_index s.words 0) = h.each_once x in
            omega arith;
      }

  -- a seat loads the word
  pub loads : (slots id : ℕ) (me : Me S SeatView) → Allows (HoldsTickets n) slots id me 0 (λ w. w) (HasLoaded me)
  loads slots id me s h homes at fits =
      let v : SeatView = me.0 in
      let words = word_again s.words h.one_word in
      let views = set_again s.views id v at in
      let known = (h.fits id v at).seats in (
        v,
        keeps,
        tt,
        subst (λ (p : List ℕ × List SeatView). HoldsTickets n record { words = p.0; homes = s.homes; views = p.1 }) (λ i. (sym words i, sym views i)) h,
        (
          refl,
          record {
            above = below s h id v at;
            within = λ part. subst (λ k. slice_index s.words 0 ≤ k * 2 ^ 48) (sym (known part)) (bounded s h);
            whole = λ part all. whole s h id v at (all ∙ known part);
          },
        ),
      )

  -- a seat with several parts gives one away before it draws
  pub splits : (id : ℕ) (v : SeatView) → 1 < v.parts → v.drawn ≡ [] → Splits (HoldsTickets {S = S} n) id v (seat_view (v.parts - 1) v.all v.drawn) (seat_view 1 v.all [])
  splits id v several nothing s h at =
      let left : SeatView = seat_view (v.parts - 1) v.all v.drawn in
      let right : SeatView = seat_view 1 v.all [] in
      let short : length v.drawn ≡ 0 = ap length nothing in
      let known : v.all ≡ n = (h.fits id v at).seats (omega arith) in
      record {
        one_word = h.one_word;
        seats = h.seats;
        parts = total-split parts_of s.views id v left right at (omega arith) ∙ h.parts;
        numbers = total-split count_of s.views id v left right at (omega arith) ∙ h.numbers;
        each_once = λ x. total-split (times_in x) s.views id v left right at (omega arith) ∙ h.each_once x;
        fits = λ j u there. ⊎_elim
            (λ old. fits_set n s.views id left h.fits record { few = omega arith; seats = λ _. known } j u old)
            (λ (new : right ≡ u). subst (FitsView n) new record { few = omega arith; seats = λ _. known })
            (at_snoc (set s.views id left) right u j there);
      }

  -- a seat takes in another
  pub joins : (id : ℕ) (v : SeatView) (other : ℕ) (w : SeatView) → 0 < v.parts → Joins (HoldsTickets {S = S} n) id v other w (seat_view (v.parts + w.parts) v.all (v.drawn ++ w.drawn)) gone
  joins id v other w part s h at apart there =
      let both : SeatView = seat_view (v.parts + w.parts) v.all (v.drawn ++ w.drawn) in
      let known : v.all ≡ n = (h.fits id v at).seats part in
      let was = ⊎_elim (λ (t : (other ≡ id) × (both ≡ w)). absurd (apart t.0)) (λ (t : (other ≢ id) × (get_elem? s.views other ≡ some w)). t.1) (at_set s.views id other both w there) in
      let mine = (h.fits id v at).few in
      let theirs = (h.fits other w was).few in
      let longer = length-append v.drawn w.drawn in
      let joined = fits_set n s.views id both h.fits record { few = omega arith; seats = λ _. known } in
      record {
        one_word = h.one_word;
        seats = h.seats;
        parts = total-join parts_of s.views id other v w both gone at there refl refl ∙ h.parts;
        numbers = total-join count_of s.views id other v w both gone at there longer refl ∙ h.numbers;
        each_once = λ x. total-join (times_in x) s.views id other v w both gone at there (times-append x v.drawn w.drawn) refl ∙ h.each_once x;
        fits = fits_set n (set s.views id both) other gone joined (fits_gone n);
      }

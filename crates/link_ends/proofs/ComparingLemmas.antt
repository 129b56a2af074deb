-- A node's ends are compared with those of the others for it, from the last on.
use Rattle.std.proofs.Common.{◌≡◌, ℕ, suc, ◌<◌, ◌≤◌, ◌+◌, List, [], ◌∷◌, ◌++◌, length, set, take, slice_index_or, sym, ap, ◌∙◌, subst, ⊎_elim, arith}
use Rattle.std.proofs.Math.Nat.{eq-or-lt_of_le}
use Rattle.std.proofs.lemmas.List.{length-append, take_at}
use Rattle.link_ends.specs.Ends.{EndView, end_at}
use Rattle.link_ends.specs.Comparing.{AreAcross, BothArrived, EachArrived, FaceEachOther}
use Rattle.link_ends.proofs.ChangingLemmas.{changed_at, changed_from, changed_more}
use Rattle.link_ends.proofs.LastLemmas.{last_of, taken_before, taken_last}

module _ {T : Type 0} (others : List (List (EndView T))) (row : List (EndView T)) (are : AreAcross others row)
    (now : List (List (EndView T))) (rest fewer : List (EndView T)) (here : EndView T) (is_rest : rest ≡ fewer ++ here ∷ [])
    (within : length rest ≤ length others) (taken : rest ≡ take (length rest) row) (so_far : now ≡ changed_from (take (length others)) (length rest) others)
    (place : ℕ) (is_place : place ≡ length fewer) (ends : List (EndView T)) (is_ends : ends ≡ slice_index_or now place []) where
  one_fewer : length rest ≡ suc (length fewer)
  one_fewer = ap length is_rest ∙ length-append fewer (here ∷ []) ∙ omega arith

  pub place_within : place < length others
  place_within = omega (arith, one_fewer, within, is_place)

  so_far_there : now ≡ changed_from (take (length others)) (suc place) others
  so_far_there = so_far ∙ ap (λ from. changed_from (take (length others)) from others) (one_fewer ∙ ap suc (sym is_place))

  is_here : (none : EndView T) → here ≡ slice_index_or row place none
  is_here none = taken_last fewer rest row here none (omega (arith, one_fewer, within, are.count)) is_rest taken ∙ ap (λ at. slice_index_or row at none) (sym is_place)

  -- the node has the ends that it had
  ends_before : ends ≡ slice_index_or others place []
  ends_before = is_ends ∙ ap (λ all. slice_index_or all place []) so_far_there ∙ changed_at (take (length others)) place others []

  ends_length : length ends ≡ length others + 1
  ends_length = ap length ends_before ∙ are.whole place place_within

  -- so it has an end
  pub some_end : 0 < length ends
  some_end = omega (arith, ends_length)

  -- the ends left are still the first of the row
  pub still_taken : fewer ≡ take (length fewer) row
  still_taken = taken_before fewer rest row here here (omega (arith, one_fewer, within, are.count)) is_rest taken

  module _ (left : List (EndView T)) (there : EndView T) (is_left : ends ≡ left ++ there ∷ []) where
    left_length : length left ≡ length others
    left_length = omega (arith, sym (ap length is_left ∙ length-append left (there ∷ [])) ∙ ends_length)

    is_there : (none : EndView T) → there ≡ end_at others place (length others) none
    is_there none = sym (last_of left there none (length others) left_length) ∙ ap (λ list. slice_index_or list (length others) none) (sym is_left ∙ ends_before)

    -- both ends face each other
    pub next_face : FaceEachOther here there
    next_face = subst (λ end. FaceEachOther end there) (sym (is_here here)) (subst (FaceEachOther (slice_index_or row place here)) (sym (is_there there)) (are.across place here there place_within))

    -- the node has one end fewer
    pub next_shorter : set now place left ≡ changed_from (take (length others)) (length fewer) others
    next_shorter = (λ i. set (so_far_there i) place ((sym (take_at left (there ∷ []) (length others) left_length) ∙ ap (take (length others)) (sym is_left ∙ ends_before)) i))
        ∙ changed_more (take (length others)) place others [] place_within ∙ ap (λ from. changed_from (take (length others)) from others) is_place

    -- one more is compared
    pub next_arrived : BothArrived here there → EachArrived (length rest) others row → EachArrived (length fewer) others row
    next_arrived both behind node none nothing from is_node = ⊎_elim
        (λ same. subst (λ node. BothArrived (slice_index_or row node none) (end_at others node (length others) nothing)) (is_place ∙ same)
        (subst (λ end. BothArrived end (end_at others place (length others) nothing)) (is_here none) (subst (BothArrived here) (is_there nothing) both)))
        (λ more. behind node none nothing (omega (arith, more, one_fewer)) is_node)
        (eq-or-lt_of_le {n = length fewer} {m = node} from)

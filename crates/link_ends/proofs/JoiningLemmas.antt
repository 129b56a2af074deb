-- The ends of nodes that are joined.
use Rattle.std.proofs.Common.{◌≡◌, ℕ, zero, suc, ◌<◌, List, [], ◌∷◌, ◌++◌, length, take, drop, set, slice_index_or, sym, refl, ap, subst, ◌∙◌, arith}
use Rattle.std.proofs.Math.Seq.{take-append_seam}
use Rattle.link_ends.specs.Ends.{EndView}
use Rattle.link_ends.specs.Joining.{facing, joined}

module _ {T : Type 0} where
  -- no node is added
  pub joined_length : (others : List (List (EndView T))) (row : List (EndView T)) → length (joined others row) ≡ length others
  joined_length others [] = refl
  joined_length [] (end ∷ row) = refl
  joined_length (ends ∷ others) (end ∷ row) = ap suc (joined_length others row)

  -- as many nodes as before are joined, so that nothing is left behind them
  pub written_back : (others now : List (List (EndView T))) (row : List (EndView T)) (count : ℕ) → now ≡ joined others row → length others ≡ count
      → take count (now ++ drop (length now) others) ≡ joined others row
  written_back others now row count is_now is_count =
      subst (λ place. take place (now ++ drop (length now) others) ≡ now) (ap length is_now ∙ joined_length others row ∙ is_count) (take-append_seam now _) ∙ is_now

  -- the row has one end more
  joined_more : (others : List (List (EndView T))) (row : List (EndView T)) (end : EndView T) → length row < length others
      → joined others (row ++ end ∷ []) ≡ set (joined others row) (length row) (slice_index_or (joined others row) (length row) [] ++ facing end ∷ [])
  joined_more [] row end within = absurd (omega (arith, within))
  joined_more (ends ∷ others) [] end within = refl
  joined_more (ends ∷ others) (first ∷ row) end within = ap (λ rest. (ends ++ facing first ∷ []) ∷ rest) (joined_more others row end (omega (arith, within)))

  -- the next node has one end more, which faces the row's next
  pub joined_next : (others now : List (List (EndView T))) (row after : List (EndView T)) (other : ℕ) (ends more : List (EndView T)) (there here : EndView T) → now ≡ joined others row
      → length row ≡ other → other < length others → after ≡ row ++ here ∷ [] → ends ≡ slice_index_or now other [] → more ≡ ends ++ there ∷ [] → there ≡ facing here
      → set now other more ≡ joined others after
  joined_next others now row after other ends more there here so_far count within is_after is_ends is_more faces =
      let is_all : more ≡ slice_index_or (joined others row) (length row) [] ++ facing here ∷ []
      = is_more ∙ (λ i. (is_ends ∙ (λ j. slice_index_or (so_far j) (sym count j) [])) i ++ faces i ∷ []) in
      (λ i. set (so_far i) (sym count i) (is_all i)) ∙ sym (joined_more others row here (omega (arith, count, within))) ∙ ap (joined others) (sym is_after)

  -- the ends of a node that is joined
  pub joined_at : (others : List (List (EndView T))) (row : List (EndView T)) (node : ℕ) (none : EndView T) → node < length others → length row ≡ length others
      → slice_index_or (joined others row) node [] ≡ slice_index_or others node [] ++ facing (slice_index_or row node none) ∷ []
  joined_at [] row node none within count = absurd (omega (arith, within))
  joined_at (ends ∷ others) [] node none within count = absurd (omega (arith, count))
  joined_at (ends ∷ others) (end ∷ row) zero none within count = refl
  joined_at (ends ∷ others) (end ∷ row) (suc node) none within count = joined_at others row node none (omega (arith, within)) (omega (arith, count))

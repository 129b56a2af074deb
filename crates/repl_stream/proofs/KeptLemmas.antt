-- The last items of a list.
use Rattle.std.proofs.Common.{rules, ◌≡◌, ℕ, ◌+◌, ◌-◌, ◌≤◌, min, List, ◌++◌, length, take, drop, arith}
use Rattle.std.proofs.lemmas.List.{same_lists, places}
use Rattle.circular_buffer.specs.Buffer.{keep_last}

module _ {X : Type 0} where
  pub keep_last-few : (n : ℕ) (xs : List X) → length xs ≤ n → keep_last n xs ≡ xs
  keep_last-few n xs few = same_lists _ _ (search (rules, places)) (λ k d h. grind (arith, places))

  pub keep_last-behind : (n : ℕ) (xs ys : List X) → n ≤ length ys → keep_last n (xs ++ ys) ≡ keep_last n ys
  keep_last-behind n xs ys few = same_lists _ _ (search (rules, places)) (λ k d h. grind (arith, places))

  -- as many as find room of what was kept and what comes
  pub keep_last-more : (capacity kept n : ℕ) (xs ys : List X) → kept ≤ length xs → kept ≤ capacity → n ≡ min (kept + length ys) capacity
      → keep_last n (xs ++ ys) ≡ keep_last capacity (keep_last kept xs ++ ys)
  keep_last-more capacity kept n xs ys there within is = same_lists _ _ (search (rules, places)) (λ k d h. grind (arith, places))

  pub keep_last-twice : (n : ℕ) (xs ys zs : List X) → keep_last n (keep_last n (xs ++ ys) ++ zs) ≡ keep_last n (xs ++ (ys ++ zs))
  keep_last-twice n xs ys zs = same_lists _ _ (search (rules, places)) (λ k d h. grind (arith, places))

  pub keep_last-take : (n kept : ℕ) (xs : List X) → n ≤ kept → kept ≤ length xs → keep_last (kept - n) (take (length xs - n) xs) ≡ take (kept - n) (keep_last kept xs)
  keep_last-take n kept xs few there = same_lists _ _ (search (rules, places)) (λ k d h. grind (arith, places))

  -- the last bytes of two runs, each of which has its part
  pub keep_last-split : (n : ℕ) (xs ys : List X) → keep_last n (xs ++ ys) ≡ keep_last (n - length ys) xs ++ keep_last n ys
  keep_last-split n xs ys = same_lists _ _ (search (rules, places)) (λ k d h. grind (arith, places))

  pub take-twice : (n : ℕ) (xs ys zs : List X) → take n (take n (xs ++ ys) ++ zs) ≡ take n (xs ++ (ys ++ zs))
  take-twice n xs ys zs = same_lists _ _ (search (rules, places)) (λ k d h. grind (arith, places))

  -- as many of the others as find room
  pub take-joined : (most n : ℕ) (xs ys : List X) → length xs ≤ most → n ≡ min (length ys) (most - length xs) → xs ++ take n ys ≡ take most (xs ++ ys)
  take-joined most n xs ys fits is = same_lists _ _ (search (rules, places)) (λ k d h. grind (arith, places))

  -- what stands behind other items, without the last of it
  pub take_front : (xs ys : List X) (n : ℕ) → n ≤ length ys → xs ++ take (length ys - n) ys ≡ take (length (xs ++ ys) - n) (xs ++ ys)
  take_front xs ys n few = same_lists _ _ (search (rules, places)) (λ k d h. grind (arith, places))

  -- what would go again isn't put there
  pub keep_last-skip : (n skipped : ℕ) (xs ys : List X) → skipped ≡ length ys - n
      → keep_last n (xs ++ take (length ys - skipped) (drop skipped ys)) ≡ keep_last n (xs ++ ys)
  keep_last-skip n skipped xs ys is = same_lists _ _ (search (rules, places)) (λ k d h. grind (arith, places))

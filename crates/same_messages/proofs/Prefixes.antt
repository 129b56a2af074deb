-- Lists that are compared from their beginnings.
use Rattle.std.proofs.Common.{◌≡◌, ◌<◌, ◌∙◌, ◌++◌, ℕ, suc, List, [], ◌∷◌, length, refl, sym, ap, append_assoc, arith}
use Rattle.std.specs.Prelude.{slice_index_or}

module _ {A : Type 0} where
  -- one element further
  pub one_further : (one other front rest theirs left behind : List A) (x y : A) → one ≡ front ++ rest → other ≡ front ++ theirs → rest ≡ x ∷ left → theirs ≡ y ∷ behind → x ≡ y
      → (longer : List A) × (one ≡ longer ++ left) × (other ≡ longer ++ behind)
  one_further one other front rest theirs left behind x y mine its begins also same = (
    front ++ x ∷ [],
    mine ∙ ap (λ xs. front ++ xs) begins ∙ sym (append_assoc front (x ∷ []) left),
    its ∙ ap (λ xs. front ++ xs) (also ∙ ap (λ z. z ∷ behind) (sym same)) ∙ sym (append_assoc front (x ∷ []) behind),
  )

  cancel : (front xs ys : List A) → front ++ xs ≡ front ++ ys → xs ≡ ys
  cancel [] xs ys same = same
  cancel (x ∷ front) xs ys same = cancel front xs ys (cc)

  abbrev first_of : (x : A) (xs : List A) → List A → A
  first_of x xs [] = x
  first_of x xs (y ∷ ys) = y

  -- they differ in the next element
  pub differ_next : (one other front rest theirs left behind : List A) (x y : A) → one ≡ front ++ rest → other ≡ front ++ theirs → rest ≡ x ∷ left → theirs ≡ y ∷ behind → (x ≡ y → ⊥) → one ≡ other → ⊥
  differ_next one other front rest theirs left behind x y mine its begins also apart same =
      let rests : rest ≡ theirs = cancel front rest theirs (sym mine ∙ same ∙ its) in
      apart (ap (first_of x left) (sym begins ∙ rests ∙ also))

  -- one of them ends
  pub other_ends : (one other front rest theirs left : List A) (x : A) → one ≡ front ++ rest → other ≡ front ++ theirs → rest ≡ x ∷ left → theirs ≡ [] → one ≡ other → ⊥
  other_ends one other front rest theirs left x mine its begins ends same =
      let rests : rest ≡ theirs = cancel front rest theirs (sym mine ∙ same ∙ its) in
      let none : x ∷ left ≡ [] = sym begins ∙ rests ∙ ends in
      absurd (cc)

  -- lists that are as long, and the same up to the place
  abbrev pub AreSameBelow : ℕ → List A → List A → Type 0
  AreSameBelow place xs ys = (i : ℕ) (other : A) → i < place → slice_index_or xs i other ≡ slice_index_or ys i other

  pub same_lists : (xs ys : List A) → length xs ≡ length ys → AreSameBelow (length xs) xs ys → xs ≡ ys
  same_lists [] [] lengths same = refl
  same_lists [] (y ∷ ys) lengths same = absurd (omega (arith, lengths))
  same_lists (x ∷ xs) [] lengths same = absurd (omega (arith, lengths))
  same_lists (x ∷ xs) (y ∷ ys) lengths same =
      ap (λ z. z ∷ xs) (same 0 x (omega arith)) ∙ ap (λ zs. y ∷ zs) (same_lists xs ys (omega (arith, lengths)) (λ i other below. same (suc i) other (omega (arith, below))))

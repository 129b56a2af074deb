-- One more message has come.
use Rattle.std.proofs.Common.{◌≡◌, ◌<◌, ◌-◌, Bool, true, false, cond, List, [], ◌∷◌, ◌++◌, drop, get_or, length, refl, sym, ap, arith, append_assoc, ◌∙◌}
use Rattle.std.specs.Prelude.{nat_le}
use Rattle.link_ends.specs.Shims.{due, ticked}
use Rattle.link_ends.specs.declared.held.Held.{Held}

module _ {T : Type 0} where
  -- the first of those that are left comes out of the list
  pub first_of : (left kept : List (Held T)) (first : Held T) (popped : List (Held T)) → left ++ kept ≡ first ∷ popped → 0 < length left
      → (rest : List (Held T)) × (left ≡ first ∷ rest) × (popped ≡ rest ++ kept)
  first_of [] kept first popped are some = absurd (omega (arith, some))
  first_of (one ∷ rest) kept first popped are some = (rest, ap (λ (all : List (Held T)). get_or all 0 one ∷ rest) are, sym (ap (λ (all : List (Held T)). drop 1 all) are))

  pub ticked-cons : (one : Held T) (held : List (Held T)) → ticked (one ∷ held) ≡ ticked (one ∷ []) ++ ticked held
  ticked-cons one held = by_last (nat_le one.left 1) where
    by_last : (is : Bool) → cond is (ticked held) (record one { left = one.left - 1 } ∷ ticked held) ≡ cond is [] (record one { left = one.left - 1 } ∷ []) ++ ticked held
    by_last true = refl
    by_last false = refl

  pub due-cons : (one : Held T) (held : List (Held T)) → due (one ∷ held) ≡ due (one ∷ []) ++ due held
  due-cons one held = by_last (nat_le one.left 1) where
    by_last : (is : Bool) → cond is (one.message ∷ due held) (due held) ≡ cond is (one.message ∷ []) [] ++ due held
    by_last true = refl
    by_last false = refl

  pub ticked-append : (held others : List (Held T)) → ticked (held ++ others) ≡ ticked held ++ ticked others
  ticked-append [] others = refl
  ticked-append (one ∷ held) others = ticked-cons one (held ++ others) ∙ ap (λ rest. ticked (one ∷ []) ++ rest) (ticked-append held others)
      ∙ sym (append_assoc (ticked (one ∷ [])) (ticked held) (ticked others)) ∙ ap (λ first. first ++ ticked others) (sym (ticked-cons one held))

  pub due-append : (held others : List (Held T)) → due (held ++ others) ≡ due held ++ due others
  due-append [] others = refl
  due-append (one ∷ held) others = due-cons one (held ++ others) ∙ ap (λ rest. due (one ∷ []) ++ rest) (due-append held others)
      ∙ sym (append_assoc (due (one ∷ [])) (due held) (due others)) ∙ ap (λ first. first ++ due others) (sym (due-cons one held))

use Rattle.std.proofs.Common.{◌≡◌, ℕ, ◌+◌, List, [], ◌∷◌, ◌++◌, take, append_assoc, add-one, sym, ap, ◌∙◌}
use Rattle.slot_store.proofs.store.first_keys.Goals as goal

-- the next item is pushed, which is one less to take
pushed : {A : Type 0} (done after left rest all : List A) (x : A) (m n : ℕ) → after ≡ done ++ x ∷ [] → left ≡ x ∷ rest → m + 1 ≡ n → done ++ take n left ≡ all → after ++ take m rest ≡ all
pushed done after left rest all x m n push step less before =
    ap (λ xs. xs ++ take m rest) push ∙ append_assoc done (x ∷ []) (take m rest)
    ∙ ap (λ k. done ++ take k (x ∷ rest)) (sym (add-one m) ∙ less) ∙ ap (λ xs. done ++ take n xs) (sym step) ∙ before

pub loop-key-preserved : goal.loop-key-preserved
loop-key-preserved c =
    pushed c.loop-key.found.items c.push.new.self.items c.loop-key.key-iterator.iter c.next.new.self.iter _ c.in-Some.key.now c.next.new.self.n c.loop-key.key-iterator.n
    (c.in_ok-push.ensures.items ∙ ap (λ key. c.loop-key.found.items ++ key ∷ []) c.in_ok-clone.ensures.cases)
    c.in-Some.ensures.steps.0 c.in-Some.ensures.steps.1 c.loop-key.invariant

-- One body for the nodes that pass a test, node by node.
use Rattle.std.proofs.Common.{◌≡◌, ◌++◌, ◌+◌, ℕ, Bool, true, false, cond, List, [], ◌∷◌, filter, append-nil, refl, sym, ap, ◌∙◌, arith}
use Rattle.std.proofs.lemmas.List.{append_assoc, map-append}
use Rattle.std.specs.List.{range_with_len}
use Rattle.bus.specs.declared.message.Body.{Body}
use Rattle.node_step.specs.Orders.{to_all}
use Rattle.slot_table.proofs.MergeLemmas.{filter_more_range}

-- those below a bound that pass
abbrev pub those_below : (ℕ → Bool) → ℕ → List ℕ
those_below test bound = filter test (range_with_len 0 bound)

kept : (b : Bool) (place : ℕ) (body : Body) → to_all (cond b (place ∷ []) []) body ≡ cond b ((place, body) ∷ []) []
kept true place body = refl
kept false place body = refl

module _ (test : ℕ → Bool) (place : ℕ) (body : Body) where
  abbrev so_far : List (ℕ × Body)
  so_far = to_all (those_below test place) body

  one_more : to_all (those_below test (place + 1)) body ≡ so_far ++ cond (test place) ((place, body) ∷ []) []
  one_more =
      ap (λ numbers. to_all numbers body) (filter_more_range test 0 place place (place + 1) (omega arith) refl)
      ∙ map-append (λ (other : ℕ). (other, body)) (those_below test place) (cond (test place) (place ∷ []) [])
      ∙ ap (λ bodies. so_far ++ bodies) (kept (test place) place body)

  -- the next one passes
  pub sent_on : (to : ℕ) (sent : Body) (first before after : List (ℕ × Body)) → to ≡ place → sent ≡ body → test to ≡ true
      → before ≡ first ++ so_far → after ≡ before ++ ((to, sent) ∷ []) → after ≡ first ++ to_all (those_below test (place + 1)) body
  sent_on to sent first before after at same is so more =
      more ∙ ap (λ bodies. bodies ++ ((to, sent) ∷ [])) so
      ∙ ap (λ (b : Body). (first ++ so_far) ++ ((to, b) ∷ [])) same
      ∙ ap (λ t. (first ++ so_far) ++ ((t, body) ∷ [])) at
      ∙ append_assoc first so_far ((place, body) ∷ [])
      ∙ ap (λ bodies. first ++ bodies) (sym (one_more ∙ ap (λ b. so_far ++ cond b ((place, body) ∷ []) []) (ap test (sym at) ∙ is)))

  -- or it doesn't
  pub left_out : (to : ℕ) (first before after : List (ℕ × Body)) → to ≡ place → test to ≡ false
      → before ≡ first ++ so_far → after ≡ before → after ≡ first ++ to_all (those_below test (place + 1)) body
  left_out to first before after at is so more =
      more ∙ so ∙ ap (λ bodies. first ++ bodies)
      (sym (one_more ∙ ap (λ b. so_far ++ cond b ((place, body) ∷ []) []) (ap test (sym at) ∙ is) ∙ append-nil so_far))

-- one more that doesn't, where none did
pub none_more : (test : ℕ → Bool) (place other : ℕ) → other ≡ place → test other ≡ false → those_below test place ≡ [] → those_below test (place + 1) ≡ []
none_more test place other at is none =
    filter_more_range test 0 place place (place + 1) (omega arith) refl
    ∙ ap (λ those. those ++ cond (test place) (place ∷ []) []) none
    ∙ ap (λ b. cond b (place ∷ []) []) (ap test (sym at) ∙ is)

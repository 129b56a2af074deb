-- Slots that are lost one after another.
use Rattle.std.proofs.Common.{◌≡◌, ◌<◌, ◌==◌, ◌&&◌, ◌||◌, ℕ, ◌+◌, not, Bool, true, false, cond, List, length, take, get_or, Option, inl, inr, refl, sym, ap, ◌∙◌}
use Rattle.std.proofs.lemmas.Bool.Decides.{eqb_tells}
use Rattle.std.proofs.lemmas.List.Folds.{list_any_more}
use Rattle.std.specs.Cmp.{nat_cmp_total, unsigned_tied}
use Rattle.std.specs.FinMap as map
use Rattle.std.specs.List.{list_any}
use Rattle.std.specs.Ordering.{nat_cmp}
use Rattle.std.specs.Prelude.{Some, None}
use Rattle.slot_state.specs.Moves.{Moves, ended, move_of}
use Rattle.slot_state.specs.declared.running.Move.{Move}
use Rattle.slot_state.specs.declared.running.Move.TheVariants.{Leaves, Comes}
use Rattle.migrate.specs.Losing.{after_loss, is_leaving}

-- what is left of the move of a slot
abbrev left : Bool → Option Move → Option Move
left is_lost move = cond (not (is_lost && is_leaving move)) move None

-- moves that agree at each slot
same_moves : (moves : Moves) (a b : map.FinMap nat_cmp Move) → ((q : ℕ) → map.get a q ≡ map.get b q) → ◌≡◌ {A = Moves} (record moves { running = a }) (record moves { running = b })
same_moves moves a b agree = ap (λ running. record moves { running = running }) (map.same_map nat_cmp_total map.nat_cmp-IsAntisymmetric a b agree)

get-after_loss : (moves : Moves) (is_lost : ℕ → Bool) (q : ℕ) → move_of (after_loss moves is_lost) q ≡ left (is_lost q) (move_of moves q)
get-after_loss moves is_lost q =
    map.get-retain_keys moves.running _ q (λ x same. ap (λ slot. not (is_lost slot && is_leaving (move_of moves slot))) (sym (map.nat_cmp-IsAntisymmetric q x same)))

left-none : (move : Option Move) → left false move ≡ move
left-none move = refl

left-twice : (a b : Bool) (move : Option Move) → left b (left a move) ≡ left (a || b) move
left-twice true true None = refl
left-twice true false None = refl
left-twice false b None = refl
left-twice true true (Some (Leaves to number copies frozen)) = refl
left-twice true false (Some (Leaves to number copies frozen)) = refl
left-twice false b (Some (Leaves to number copies frozen)) = refl
left-twice true true (Some (Comes from number last drained)) = refl
left-twice true false (Some (Comes from number last drained)) = refl
left-twice false b (Some (Comes from number last drained)) = refl

left-leaving : (move : Option Move) → is_leaving move ≡ true → None ≡ left true move
left-leaving None leaves = refl
left-leaving (Some (Leaves to number copies frozen)) leaves = refl
left-leaving (Some (Comes from number last drained)) leaves = absurd (cc)

left-other : (is_lost : Bool) (move : Option Move) → is_leaving move ≡ false → move ≡ left is_lost move
left-other true None stays = refl
left-other false None stays = refl
left-other is_lost (Some (Leaves to number copies frozen)) stays = absurd (cc)
left-other true (Some (Comes from number last drained)) stays = refl
left-other false (Some (Comes from number last drained)) stays = refl

-- where no slot is lost nothing changes
pub after_loss-none : (moves : Moves) → moves ≡ after_loss moves (λ slot. false)
after_loss-none moves = same_moves moves moves.running _ (λ q. sym (get-after_loss moves (λ slot. false) q))

-- some are lost, and then others
pub after_loss-after_loss : (moves : Moves) (first others : ℕ → Bool) → after_loss (after_loss moves first) others ≡ after_loss moves (λ slot. first slot || others slot)
after_loss-after_loss moves first others =
    same_moves moves _ _ (λ q.
    get-after_loss (after_loss moves first) others q ∙ ap (left (others q)) (get-after_loss moves first q) ∙ left-twice (first q) (others q) (move_of moves q)
    ∙ sym (get-after_loss moves (λ slot. first slot || others slot) q))

-- one more of a list is lost
pub after_loss-more : (moves : Moves) (lost : List ℕ) (i slot : ℕ) → i < length lost → slot ≡ get_or lost i slot
    → after_loss (after_loss moves (λ s. list_any (λ other. other == s) (take i lost))) (λ other. slot == other) ≡ after_loss moves (λ s. list_any (λ other. other == s) (take (i + 1) lost))
after_loss-more moves lost i slot within is =
    after_loss-after_loss moves (λ s. list_any (λ other. other == s) (take i lost)) (λ other. slot == other)
    ∙ ap (after_loss moves) (λ j s. (ap (λ x. list_any (λ other. other == s) (take i lost) || x == s) is ∙ sym (list_any_more (λ other. other == s) lost i slot within)) j)

-- one slot is lost that leaves
pub ended-after_loss : (moves : Moves) (slot : ℕ) → is_leaving (move_of moves slot) ≡ true → ended moves slot ≡ after_loss moves (λ other. slot == other)
ended-after_loss moves slot leaves =
    same_moves moves _ _ (λ q.
    map.get-remove nat_cmp_total moves.running slot q ∙ ap (λ b. cond b None (move_of moves q)) (unsigned_tied q slot)
    ∙ elim (eqb_tells q slot) as (λ _. cond (q == slot) None (move_of moves q) ≡ left (slot == q) (move_of moves q)) [
      | inl same ↦ ap (λ b. cond b None (move_of moves q)) same.0 ∙ left-leaving (move_of moves q) (ap (λ s. is_leaving (move_of moves s)) same.1 ∙ leaves)
          ∙ ap (λ b. left b (move_of moves q)) (sym (is_one slot q (sym same.1)))
      | inr other ↦ ap (λ b. cond b None (move_of moves q)) other.0 ∙ ap (λ b. left b (move_of moves q)) (sym (is_another slot q (λ same. other.1 (sym same))))
    ]
    ∙ sym (get-after_loss moves (λ other. slot == other) q))
  where
    is_one : (a b : ℕ) → a ≡ b → (a == b) ≡ true
    is_one a b same = elim (eqb_tells a b) [ inl is ↦ is.0 | inr is ↦ absurd (is.1 same) ]

    is_another : (a b : ℕ) → (a ≡ b → ⊥) → (a == b) ≡ false
    is_another a b other = elim (eqb_tells a b) [ inl is ↦ absurd (other is.1) | inr is ↦ is.0 ]

-- one slot is lost that doesn't leave
pub same-after_loss : (moves : Moves) (slot : ℕ) → is_leaving (move_of moves slot) ≡ false → moves ≡ after_loss moves (λ other. slot == other)
same-after_loss moves slot stays =
    same_moves moves moves.running _ (λ q.
    elim (eqb_tells slot q) as (λ _. move_of moves q ≡ left (slot == q) (move_of moves q)) [
      | inl same ↦ left-other (slot == q) (move_of moves q) (ap (λ s. is_leaving (move_of moves s)) (sym same.1) ∙ stays)
      | inr other ↦ ap (λ b. left b (move_of moves q)) (sym other.0)
    ]
    ∙ sym (get-after_loss moves (λ other. slot == other) q))

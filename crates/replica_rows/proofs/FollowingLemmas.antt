-- A replica that follows its master.
use Rattle.std.proofs.Common.{◌≡◌, ℕ, true, false, not, true≢false, refl, sym, ap, subst, ◌∙◌}
use Rattle.std.proofs.lemmas.Bool.{cond-false, cond-true, not-false, not-true}
use Rattle.bus.specs.Follower.{Follower}
use Rattle.bus.specs.Piece.{PieceVerdict, PieceView, TakesBy, TakesPiece, verdict_on}
use Rattle.bus.specs.Piece.PieceVerdict.{Gap, OtherStream, Takes}
use Rattle.bus.specs.Snapshot.{restored}
use Rattle.bus.specs.declared.snapshot.Snapshot.{Snapshot as Whole}
use Rattle.node_step.specs.Replicas.{follower_of, restored_by, with_follower, with_piece}
use Rattle.node_step.specs.Roles.{is_just}
use Rattle.node_step.specs.State.{NodeState, own_master}
use Rattle.replica_rows.specs.Following.{Follows, TakesOrNot}

-- a piece that is taken
module _ (old new : NodeState) (piece : PieceView) (follower : Follower) (state : new ≡ with_follower old follower) where
  by_verdict : (verdict : PieceVerdict) → verdict_on old.stream piece ≡ verdict → TakesBy verdict (follower_of old) piece follower → TakesOrNot old piece new
  by_verdict Gap is taken = absurd taken
  by_verdict OtherStream is taken = absurd taken
  by_verdict (Takes place) is taken = record {
    follower = follower;
    may_follow = λ other same. subst (λ v. TakesBy v (follower_of old) piece follower) (sym is ∙ same) taken;
    state = state ∙ ap (with_piece old follower) (sym is);
  }

  pub piece_taken : TakesPiece (follower_of old) piece follower → TakesOrNot old piece new
  piece_taken taken = by_verdict (verdict_on old.stream piece) refl taken

-- one that is refused
module _ (old new : NodeState) (piece : PieceView) (same : new ≡ old) where
  pub piece_gap : verdict_on old.stream piece ≡ Gap → TakesOrNot old piece new
  piece_gap is = record { follower = follower_of old; may_follow = λ place takes. absurd (gap_is_none place (sym is ∙ takes)); state = same ∙ ap (with_piece old (follower_of old)) (sym is) }
    where
      gap_is_none : (place : ℕ) → Gap ≡ Takes place → ⊥
      gap_is_none place never = cc

  pub piece_of_other : verdict_on old.stream piece ≡ OtherStream → TakesOrNot old piece new
  piece_of_other is = record { follower = follower_of old; may_follow = λ place takes. absurd (other_is_none place (sym is ∙ takes)); state = same ∙ ap (with_piece old (follower_of old)) (sym is) }
    where
      other_is_none : (place : ℕ) → OtherStream ≡ Takes place → ⊥
      other_is_none place never = cc

-- a piece of the own master
module _ (old new : NodeState) (from : ℕ) (piece : PieceView) where
  pub own_piece : not (is_just (own_master old) from) ≡ false → TakesOrNot old piece new → Follows old from piece new
  own_piece own takes =
      let is : is_just (own_master old) from ≡ true = not-false (is_just (own_master old) from) own in
      record {
        follower = takes.follower;
        may_follow = λ same. takes.may_follow;
        state = takes.state ∙ sym (cond-true (is_just (own_master old) from) (with_piece old takes.follower (verdict_on old.stream piece)) old is);
      }

  -- one of another node
  pub other_piece : not (is_just (own_master old) from) ≡ true → new ≡ old → Follows old from piece new
  other_piece other same =
      let is : is_just (own_master old) from ≡ false = not-true (is_just (own_master old) from) other in
      record {
        follower = follower_of old;
        may_follow = λ own. absurd (true≢false (sym own ∙ is));
        state = same ∙ sym (cond-false (is_just (own_master old) from) (with_piece old (follower_of old) (verdict_on old.stream piece)) old is);
      }

-- a snapshot of the own master
module _ (old new : NodeState) (from : ℕ) (snapshot : Whole) where
  pub own_snapshot : not (is_just (own_master old) from) ≡ false → new ≡ with_follower old (restored snapshot (follower_of old)) → new ≡ (restored_by old from snapshot).state
  own_snapshot own restores =
      restores
      ∙ sym (cond-true (is_just (own_master old) from) (with_follower old (restored snapshot (follower_of old))) old (not-false (is_just (own_master old) from) own))

  pub other_snapshot : not (is_just (own_master old) from) ≡ true → new ≡ old → new ≡ (restored_by old from snapshot).state
  other_snapshot other same =
      same ∙ sym (cond-false (is_just (own_master old) from) (with_follower old (restored snapshot (follower_of old))) old (not-true (is_just (own_master old) from) other))

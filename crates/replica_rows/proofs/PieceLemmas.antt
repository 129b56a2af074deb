-- Pieces for the replicas of a node.
use Rattle.std.proofs.Common.{◌≡◌, ◌+◌, ◌++◌, ◌∷◌, ℕ, Bool, true, false, cond, List, [], append-nil, arith, refl, sym, ap, ◌∙◌}
use Rattle.std.proofs.lemmas.List.{append_assoc, map-append}
use Rattle.std.specs.Prelude.{None, Some, Option, IfNone, IfSome, slice_index_or}
use Rattle.bus.specs.declared.message.Body.{Body}
use Rattle.node_step.specs.Orders.{to_all}
use Rattle.node_step.specs.Roles.{is_just, replicas_of}
use Rattle.node_step.specs.State.{NodeState}
use Rattle.node_parts.proofs.ToAll.{those_below}
use Rattle.replica_rows.specs.Adding.{piece_of, pieces_of, replicas_below}
use Rattle.slot_table.proofs.MergeLemmas.{filter_more_range}

-- a node is a replica of this one
abbrev pub copies : List (Option ℕ) → ℕ → ℕ → Bool
copies masters number other = is_just (slice_index_or masters other None) number

-- who has none sends nothing
pub none_sent : (node : NodeState) (before : List (ℕ × Body)) (bytes : List ℕ) → replicas_of node.masters node.number ≡ [] → before ≡ before ++ pieces_of node bytes
none_sent node before bytes none = sym (ap (λ replicas. before ++ to_all replicas (piece_of node bytes)) none ∙ append-nil before)

-- the piece for each replica below the last one, and then for that one, is one for each
pub last_sent : (node : NodeState) (before below after : List (ℕ × Body)) (bytes : List ℕ) (last : ℕ) (sent : Body)
    → replicas_of node.masters node.number ≡ replicas_below node last ++ last ∷ [] → sent ≡ piece_of node bytes
    → below ≡ before ++ to_all (replicas_below node last) sent → after ≡ below ++ (last, sent) ∷ []
    → after ≡ before ++ pieces_of node bytes
last_sent node before below after bytes last sent are is so more =
    more ∙ ap (λ bodies. bodies ++ (last, sent) ∷ []) so
    ∙ append_assoc before (to_all (replicas_below node last) sent) ((last, sent) ∷ [])
    ∙ ap (λ bodies. before ++ bodies) (sym (ap (λ numbers. to_all numbers sent) are ∙ map-append (λ (other : ℕ). (other, sent)) (replicas_below node last) (last ∷ [])))
    ∙ ap (λ (b : Body). before ++ to_all (replicas_of node.masters node.number) b) is

-- that number is the last of these, or there are none
pub record IsLastOf (test : ℕ → Bool) (found : Option ℕ) (place : ℕ) : Type 0 where
  pub none : IfNone found (those_below test place ≡ [])
  pub last : IfSome found (λ last. those_below test place ≡ those_below test last ++ last ∷ [])

module _ (test : ℕ → Bool) (place other : ℕ) (at : other ≡ place) where
  -- the next number passes, so it is the last one
  pub is_next : test other ≡ true → IsLastOf test (Some other) (place + 1)
  is_next is = record {
    none = tt;
    last = filter_more_range test 0 place place (place + 1) (omega arith) refl
        ∙ ap (λ b. those_below test place ++ cond b (place ∷ []) []) (ap test (sym at) ∙ is)
        ∙ ap (λ k. those_below test k ++ k ∷ []) (sym at);
  }

  same_below : test other ≡ false → those_below test (place + 1) ≡ those_below test place
  same_below is =
      filter_more_range test 0 place place (place + 1) (omega arith) refl
      ∙ ap (λ b. those_below test place ++ cond b (place ∷ []) []) (ap test (sym at) ∙ is)
      ∙ append-nil (those_below test place)

  -- it doesn't, so the last one stays
  pub is_former : (last : Option ℕ) → test other ≡ false → IsLastOf test last place → IsLastOf test last (place + 1)
  is_former None is former = record { none = same_below is ∙ former.none; last = tt }
  is_former (Some last) is former = record { none = tt; last = same_below is ∙ former.last }

-- The ends of all nodes are compared from the last node on.
use Rattle.std.proofs.Common.{◌≡◌, ℕ, ◌<◌, ◌+◌, List, [], ◌∷◌, ◌++◌, length, map, take, slice_index_or, refl, sym, ap, ◌∙◌, subst, arith}
use Rattle.std.proofs.Math.ListN.{get_or-append}
use Rattle.std.proofs.lemmas.List.{get_or-map, get_or-take, length-append, length-map, length-take-le}
use Rattle.link_ends.specs.Ends.{AllArrived, AreWired, EndView, end_at}
use Rattle.link_ends.specs.Comparing.{AreAcross, EachArrived, HasArrived}
use Rattle.link_ends.proofs.LastLemmas.{last_of, last_or_before}

module _ {T : Type 0} where
  -- the same of ends that are the same
  arrived_too : {here here_too there there_too : EndView T} → here ≡ here_too → there ≡ there_too → HasArrived here_too there_too → HasArrived here there
  arrived_too is_here is_there arrived = (arrived.0, ap (λ end. end.sent) is_here ∙ arrived.1 ∙ ap (λ end. end.received ++ arrived.0) (sym is_there))

  -- the others are as they were left, and the node that was taken off comes to them again
  pub left_wired : (others now left : List (List (EndView T))) → left ≡ now → AreWired (length others) now → AreWired (length left) left
  left_wired others now left is_left wired = subst (λ all. AreWired (length all) all) (sym is_left) (subst (λ count. AreWired count now) (sym wired.nodes) wired)

  pub left_arrived : (others now left all : List (List (EndView T))) (last : List (EndView T)) → left ≡ now → length now ≡ length others → all ≡ others ++ last ∷ []
      → (AllArrived (length others) now → AllArrived (length others + 1) (others ++ last ∷ [])) → AllArrived (length left) left → AllArrived (length all) all
  left_arrived others now left all last is_left count is_all more rest = subst (λ all. AllArrived (length all) all) (sym is_all)
      (subst (λ count. AllArrived count (others ++ last ∷ [])) (sym (length-append others (last ∷ [])))
      (more (subst (λ count. AllArrived count now) count (subst (λ all. AllArrived (length all) all) is_left rest))))

  -- the last node has an end
  pub some_end : (others : List (List (EndView T))) (last : List (EndView T)) → AreWired (length others + 1) (others ++ last ∷ []) → 0 < length last
  some_end others last wired = omega (arith, sym (ap length (last_of others last [] (length others) refl)) ∙ wired.others (length others) (omega arith))

module _ {T : Type 0} (others : List (List (EndView T))) (last row : List (EndView T)) (own : EndView T)
    (wired : AreWired (length others + 1) (others ++ last ∷ [])) (is_last : last ≡ row ++ own ∷ []) where
  -- the ends of all nodes
  abbrev whole : List (List (EndView T))
  whole = others ++ last ∷ []

  -- those of the others without the ends for the last node
  abbrev shorter : List (List (EndView T))
  shorter = map (take (length others)) others

  of_other : (node : ℕ) → node < length others → slice_index_or whole node [] ≡ slice_index_or others node []
  of_other node within = get_or-append others (last ∷ []) [] node within

  of_last : slice_index_or whole (length others) [] ≡ row ++ own ∷ []
  of_last = last_of others last [] (length others) refl ∙ is_last

  row_length : length row ≡ length others
  row_length = omega (arith, sym (ap length of_last ∙ length-append row (own ∷ [])) ∙ wired.others (length others) (omega arith))

  -- each end, by whose it is
  to_last : (node : ℕ) (none : EndView T) → node < length others → end_at whole node (length others) none ≡ end_at others node (length others) none
  to_last node none within = ap (λ ends. slice_index_or ends (length others) none) (of_other node within)

  from_last : (other : ℕ) (none : EndView T) → other < length others → end_at whole (length others) other none ≡ slice_index_or row other none
  from_last other none within = ap (λ ends. slice_index_or ends other none) of_last ∙ get_or-append row (own ∷ []) none other (omega (arith, within, row_length))

  to_itself : (none : EndView T) → end_at whole (length others) (length others) none ≡ own
  to_itself none = ap (λ ends. slice_index_or ends (length others) none) of_last ∙ last_of row own none (length others) row_length

  other_length : (node : ℕ) → node < length others → length (slice_index_or others node []) ≡ length others + 1
  other_length node within = ap length (sym (of_other node within)) ∙ wired.others node (omega (arith, within))

  shorter_row : (node : ℕ) → node < length others → slice_index_or shorter node [] ≡ take (length others) (slice_index_or others node [])
  shorter_row node within = get_or-map (take (length others)) others node [] [] within

  of_others : (node other : ℕ) (none : EndView T) → node < length others → other < length others → end_at whole node other none ≡ end_at shorter node other none
  of_others node other none is_node is_other = ap (λ ends. slice_index_or ends other none) (of_other node is_node)
      ∙ sym (ap (λ ends. slice_index_or ends other none) (shorter_row node is_node) ∙ get_or-take (length others) _ other none is_other)

  -- the last node's own end is that of one link
  pub own_link : own.to ≡ own.from
  own_link = ap (λ end. end.to) (sym (to_itself own)) ∙ wired.linked (length others) (length others) own own (omega arith) (omega arith) ∙ ap (λ end. end.from) (to_itself own)

  -- its other ends face those of the others for it
  pub last_across : AreAcross others row
  last_across = record {
    count = row_length;
    whole = other_length;
    across = λ node none nothing within. record {
      to = ap (λ end. end.to) (sym (from_last node none within)) ∙ wired.linked (length others) node none nothing (omega arith) (omega (arith, within)) ∙ ap (λ end. end.from) (to_last node nothing within);
      from = ap (λ end. end.to) (sym (to_last node nothing within)) ∙ wired.linked node (length others) nothing none (omega (arith, within)) (omega arith) ∙ ap (λ end. end.from) (from_last node none within);
    };
  }

  -- the others are wired without it
  pub others_wired : AreWired (length others) shorter
  others_wired = record {
    nodes = length-map others (take (length others));
    others = λ node within. ap length (shorter_row node within) ∙ length-take-le (length others) _ (omega (arith, other_length node within));
    linked = λ node other none nothing is_node is_other. ap (λ end. end.to) (sym (of_others node other none is_node is_other))
        ∙ wired.linked node other none nothing (omega (arith, is_node)) (omega (arith, is_other)) ∙ ap (λ end. end.from) (of_others other node nothing is_other is_node);
  }

  -- all that remains is to compare the others
  pub all_arrived : HasArrived own own → EachArrived 0 others row → AllArrived (length others) shorter → AllArrived (length others + 1) whole
  all_arrived itself each rest node other none nothing is_node is_other =
      last_or_before (λ node. HasArrived (end_at whole node other none) (end_at whole other node nothing)) (length others)
      (last_or_before (λ other. HasArrived (end_at whole (length others) other none) (end_at whole other (length others) nothing)) (length others)
      (arrived_too (to_itself none) (to_itself nothing) itself)
      (λ other within. arrived_too (from_last other none within) (to_last other nothing within) (each other none nothing (omega arith) within).sent)
      other is_other)
      (λ node node_within. last_or_before (λ other. HasArrived (end_at whole node other none) (end_at whole other node nothing)) (length others)
      (arrived_too (to_last node none node_within) (from_last node nothing node_within) (each node nothing none (omega arith) node_within).received)
      (λ other within. arrived_too (of_others node other none node_within within) (of_others other node nothing within node_within) (rest node other none nothing node_within within))
      other is_other)
      node is_node

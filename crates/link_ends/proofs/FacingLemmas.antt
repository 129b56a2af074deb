-- Ends that face each other.
use Rattle.std.proofs.Common.{◌≡◌, ℕ, ◌<◌, ◌+◌, List, [], ◌∷◌, ◌++◌, All, length, slice_index_or, sym, ap, ◌∙◌, arith}
use Rattle.std.proofs.Math.ListN.{get_or-append}
use Rattle.std.proofs.lemmas.List.{length-append}
use Rattle.link_ends.specs.Ends.{AreLinked, EndView, IsUnused, end_at}
use Rattle.link_ends.specs.Joining.{facing, joined}
use Rattle.link_ends.proofs.LastLemmas.{last_of, last_or_before}
use Rattle.link_ends.proofs.JoiningLemmas.{joined_at, joined_length}

-- so many nodes have an end each for each, and that of one for another faces that of the other for the one
pub record AllFacing {T : Type 0} (count : ℕ) (ends : List (List (EndView T))) : Type 0 where
  pub nodes : length ends ≡ count
  pub others : (node : ℕ) → node < count → length (slice_index_or ends node []) ≡ count
  pub faces : (node other : ℕ) (none nothing : EndView T) → node < count → other < count → end_at ends node other none ≡ facing (end_at ends other node nothing)

module _ {T : Type 0} where
  -- ends that face each other are linked, and weren't used
  pub linked : (count : ℕ) (ends : List (List (EndView T))) → AllFacing count ends → AreLinked count ends
  linked count ends all = record {
    nodes = all.nodes;
    others = all.others;
    linked = λ node other none nothing is_node is_other. ap (λ end. end.to) (all.faces node other none nothing is_node is_other);
    unused = λ node other none is_node is_other. record {
      sent = ap (λ end. end.sent) (all.faces node other none none is_node is_other);
      received = ap (λ end. end.received) (all.faces node other none none is_node is_other);
    };
  }

  -- an end that wasn't used faces the one that faces it
  faces_back : (end : EndView T) → IsUnused end → end ≡ facing (facing end)
  faces_back end unused i = record { to = end.to; from = end.from; sent = unused.sent i; received = unused.received i }

module _ {T : Type 0} (count : ℕ) (all : List (List (EndView T))) (row : List (EndView T)) (own : EndView T)
    (so_far : AllFacing count all) (is_row : length row ≡ count) (unused : All IsUnused row) (is_own : own ≡ facing own) where
  -- the ends with those of one node more
  abbrev grown : List (List (EndView T))
  grown = joined all row ++ (row ++ own ∷ []) ∷ []

  -- a node that was there before
  before : (node : ℕ) (none : EndView T) → node < count → slice_index_or grown node [] ≡ slice_index_or all node [] ++ facing (slice_index_or row node none) ∷ []
  before node none within = get_or-append (joined all row) ((row ++ own ∷ []) ∷ []) [] node (omega (arith, within, joined_length all row, so_far.nodes))
      ∙ joined_at all row node none (omega (arith, within, so_far.nodes)) (is_row ∙ sym so_far.nodes)

  -- the node that came
  last : slice_index_or grown count [] ≡ row ++ own ∷ []
  last = last_of (joined all row) (row ++ own ∷ []) [] count (joined_length all row ∙ so_far.nodes)

  -- each end, by which of both nodes came
  both_before : (node other : ℕ) (none : EndView T) → node < count → other < count → end_at grown node other none ≡ end_at all node other none
  both_before node other none is_node is_other = ap (λ ends. slice_index_or ends other none) (before node none is_node)
      ∙ get_or-append (slice_index_or all node []) _ none other (omega (arith, is_other, so_far.others node is_node))

  to_last : (node : ℕ) (none nothing : EndView T) → node < count → end_at grown node count none ≡ facing (slice_index_or row node nothing)
  to_last node none nothing is_node = ap (λ ends. slice_index_or ends count none) (before node nothing is_node)
      ∙ last_of (slice_index_or all node []) _ none count (so_far.others node is_node)

  of_last : (other : ℕ) (none : EndView T) → other < count → end_at grown count other none ≡ slice_index_or row other none
  of_last other none is_other = ap (λ ends. slice_index_or ends other none) last ∙ get_or-append row _ none other (omega (arith, is_other, is_row))

  of_last_to_itself : (none : EndView T) → end_at grown count count none ≡ own
  of_last_to_itself none = ap (λ ends. slice_index_or ends count none) last ∙ last_of row own none count is_row

  -- the ends still face each other
  pub one_more : AllFacing (count + 1) grown
  one_more = record {
    nodes = length-append (joined all row) _ ∙ omega (arith, joined_length all row, so_far.nodes);
    others = last_or_before (λ node. length (slice_index_or grown node []) ≡ count + 1) count (ap length last ∙ length-append row _ ∙ omega (arith, is_row))
        (λ node within. ap length (before node own within) ∙ length-append (slice_index_or all node []) _ ∙ omega (arith, so_far.others node within));
    faces = λ node other none nothing is_node is_other.
        last_or_before (λ node. end_at grown node other none ≡ facing (end_at grown other node nothing)) count
        (last_or_before (λ other. end_at grown count other none ≡ facing (end_at grown other count nothing)) count
        (of_last_to_itself none ∙ is_own ∙ ap facing (sym (of_last_to_itself nothing)))
        (λ other within. of_last other none within ∙ faces_back _ (unused other none (omega (arith, within, is_row))) ∙ ap facing (sym (to_last other nothing none within)))
        other is_other)
        (λ node node_within. last_or_before (λ other. end_at grown node other none ≡ facing (end_at grown other node nothing)) count
        (to_last node none nothing node_within ∙ ap facing (sym (of_last node nothing node_within)))
        (λ other within. both_before node other none node_within within ∙ so_far.faces node other none nothing node_within within ∙ ap facing (sym (both_before other node nothing within node_within)))
        other is_other)
        node is_node;
  }

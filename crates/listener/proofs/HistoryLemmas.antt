-- What is asked of a node, one after another.
use Rattle.std.proofs.Common.{List, [], ◌++◌, append_assoc, append-nil, sym, ◌∙◌, ap}
use Rattle.std.proofs.lemmas.List.Elements.{All-append, All-nil}
use Rattle.node_gate.specs.Asks.{Asked}
use Rattle.listener.specs.Streams.{Adds, change}

module _ (allowed : Asked → Type 0) where
  pub adds_nothing : (a : List Asked) → Adds allowed (change a a) []
  adds_nothing a = record { grown = sym (append-nil a); each = All-nil allowed }

  pub adds_again : (a b c xs ys : List Asked) → Adds allowed (change a b) xs → Adds allowed (change b c) ys → Adds allowed (change a c) (xs ++ ys)
  adds_again a b c xs ys first second =
      record {
        grown = second.grown ∙ ap (λ w. w ++ ys) first.grown ∙ append_assoc a xs ys;
        each = All-append allowed xs ys first.each second.each;
      }

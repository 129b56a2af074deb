use Rattle.std.proofs.Common.{arith, ◌≡◌, ◌∷◌, [], ◌∙◌, ap}
use Rattle.std.proofs.lemmas.Grind.{common_steps}
use Rattle.tickets.specs.Tickets.{drawn, once_below}
use Rattle.uses.proofs.TurnLemmas.{drawn_once, drew_two}
use Rattle.uses.proofs.turns.turn_about.Goals as goal

pub returns-clause-each_once : goal.returns-clause-each_once
returns-clause-each_once c x =
    let draws = c.in-Some-Some-Some-Some in
    let no_first : drawn c.in-Some-Some.first ≡ [] = grind (arith, common_steps) in
    let no_second : drawn c.in-Some-Some.second ≡ [] = grind (arith, common_steps) in
    let first : drawn c.draw-3.new.self ≡ draws.a ∷ draws.c ∷ [] = drew_two no_first draws.ensures.some.0 draws.ensures''.some.0 in
    let second : drawn c.draw-4.new.self ≡ draws.b ∷ draws.d ∷ [] = drew_two no_second draws.ensures'.some.0 draws.ensures'''.some.0 in
    let word : c.in-Some.word ≡ 4 = grind (arith, common_steps) in
    drawn_once _ _ _ _ _ _ _ c.in-Some.word x c.in_ok-both.ensures.items first second (c.in-Some.ensures.each_once x)
    ∙ ap (once_below x) word

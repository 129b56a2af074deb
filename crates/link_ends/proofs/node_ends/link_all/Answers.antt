use Rattle.std.proofs.Common.{rules, ◌≡◌, ◌+◌, ◌++◌, ◌∷◌, [], sym, ap, ◌∙◌, subst, arith}
use Rattle.link_ends.specs.Ends.{AreLinked}
use Rattle.link_ends.specs.Joining.{joined}
use Rattle.link_ends.proofs.FacingLemmas.{AllFacing, linked, one_more}
use Rattle.link_ends.proofs.JoiningLemmas.{written_back}
use Rattle.link_ends.proofs.NamingLemmas.{named_by}
use Rattle.link_ends.proofs.node_ends.link_all.Goals as goal

pub loop-preserved : goal.loop-preserved
loop-preserved g c =
    let all = c.loop.all.items in
    let row = c.in_ok-ends.ends.items in
    let own = c.in_ok-own.own in
    let all_joined = written_back all _ row c.loop.all.len (c.in_ok-ends.ensures.joined ∙ ap (λ others. joined others row) c.as_mut_slice.ensures.value) (search rules) in
    let pushed : c.push-in-loop.new.self.items ≡ joined all row ++ (row ++ own ∷ []) ∷ [] = search (rules, all_joined) in
    subst (AllFacing (c.loop.counter + 1)) (sym pushed)
    (one_more c.loop.counter all row own c.loop.invariant (search rules) c.in_ok-ends.ensures.unused c.in_ok-own.ensures)

pub returns-clause-linked : goal.returns-clause-linked
returns-clause-linked g c = subst (λ count. AreLinked count c.loop.all.items) (omega arith) (linked c.loop.counter _ c.loop.invariant)

pub returns-clause-named : goal.returns-clause-named
returns-clause-named g c = named_by _ _ (subst (λ count. AreLinked count c.loop.all.items) (omega arith) (linked c.loop.counter _ c.loop.invariant))

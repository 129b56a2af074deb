use Rattle.std.proofs.Common.{◌≡◌, ◌∙◌, ◌++◌, ◌∷◌, [], ap, subst, sym}
use Rattle.link_ends.specs.Acts.{act_of}
use Rattle.link_ends.specs.Shims.{IsDone, IsShim, at_once, due, fresh, given_of, ticked}
use Rattle.link_ends.proofs.ShimLemmas.{given_stays, one_more}
use Rattle.link_ends.proofs.shim.Shim.take_in.Given as given
use Rattle.link_ends.proofs.shim.Shim.take_in.Goals as goal

-- what is held and what comes of it
record Kept (g : given.Over) (c : goal.After-release g) : Type 0 where
  received : g.E.Link.received c.receive.new.self ≡ g.E.Link.received c.self.inside.inner ++ c.in_ok-message.message ∷ []
  before : IsShim c.self.inside.acts (g.E.Link.received c.self.inside.inner) [] c.self.inside.held.items
  way : IsDone (act_of c.self.inside.acts.all c.self.inside.acts.done) c.put_in-done.result
  coming : c.release.new.coming.items ≡ at_once (c.put_in-done.result, c.in_ok-message.message) ++ due (c.self.inside.held.items ++ fresh (c.put_in-done.result, c.in_ok-message.message))
  held : c.release.new.held.items ≡ ticked (c.self.inside.held.items ++ fresh (c.put_in-done.result, c.in_ok-message.message))

kept : (g : given.Over) (c : goal.After-release g) → Kept g c
kept g c =
    let none : c.self.inside.coming.items ≡ [] = ap (λ shim. shim.coming) c.self.view_is ∙ c.requires in
    let held = c.put_in-done.ensures.held ∙ ap (λ held. held ++ fresh (c.put_in-done.result, c.in_ok-message.message)) c.reserve-2.ensures.items in
    record {
      received = g.met.E.PortEnd.as_link c.receive.new.self ∙ c.in_ok-message.ensures.some.given ∙ ap (λ given. given ++ c.in_ok-message.message ∷ []) (sym (g.met.E.PortEnd.as_link c.self.inside.inner));
      before = subst (λ coming. IsShim c.self.inside.acts (g.E.Link.received c.self.inside.inner) coming c.self.inside.held.items) none c.self.invariant;
      way = subst (λ act. IsDone act c.put_in-done.result) c.next-act.ensures c.put_in-done.ensures.done;
      coming = c.release.ensures.coming
          ∙ ap (λ coming. coming ++ due c.put_in-done.new.held.items) (c.put_in-done.ensures.coming ∙ ap (λ coming. coming ++ at_once (c.put_in-done.result, c.in_ok-message.message)) (c.reserve.ensures.items ∙ none))
          ∙ ap (λ held. at_once (c.put_in-done.result, c.in_ok-message.message) ++ due held) held;
      held = c.release.ensures.held ∙ ap ticked held;
    }

pub invariant_of-self-2 : goal.invariant_of-self-2
invariant_of-self-2 g c =
    let is = kept g c in
    rw (c.note.ensures, is.received, is.coming, is.held)
    (one_more c.self.inside.acts (g.E.Link.received c.self.inside.inner) c.self.inside.held.items c.in_ok-message.message c.put_in-done.result is.before is.way)

pub returns-clause-given : goal.returns-clause-given
returns-clause-given g c =
    let is = kept g c in
    rw (c.note.ensures, is.received, is.coming)
    (given_stays c.self.inside.acts (g.E.Link.received c.self.inside.inner) c.self.inside.held.items c.in_ok-message.message c.put_in-done.result is.before is.way
    ∙ ap (λ shim. given_of shim.acts (g.E.Link.received shim.inner) []) c.self.view_is
    ∙ ap (λ coming. given_of c.args.self.now.acts (g.E.Link.received c.args.self.now.inner) coming) (sym c.requires))

-- What an end gave, its port gave.
use Rattle.std.proofs.Common.{◌∙◌, ◌++◌, List, ap, sym, subst}
use Rattle.std.specs.Prelude.{Contains}
use Rattle.std.proofs.lemmas.List.Elements.{Contains-push}
use Rattle.bus.specs.declared.message.Message.{Message}
use Rattle.link_ends.specs.Ends.{EndView}
use Rattle.link_ends.specs.Giving.{Gives, GivesNone, GivingView}
use Rattle.links.specs.Ports.{HasGiven, HasGivenNone, PortView}

-- the port at an end, with the messages that wait there
abbrev pub port_with : EndView Message → List Message → List Message → PortView
port_with end given waiting = record { to = end.to; from = end.from; sent = end.sent; received = end.received; given = given; waiting = waiting }

pub port_gives : (old new : GivingView Message) (message : Message) (waiting : List Message) → Gives old message new
    → ((given : Message) → Contains new.given given → Contains new.end.received given) → HasGiven (port_with old.end old.given waiting) message (port_with new.end new.given waiting)
port_gives old new message waiting gives came = record {
  more = gives.received.more;
  is = ap (λ (end : EndView Message). port_with end new.given waiting) gives.received.is
      ∙ ap (λ (given : List Message). port_with (record old.end { received = old.end.received ++ gives.received.more }) given waiting) gives.given;
  came = subst (λ (end : EndView Message). Contains end.received message) gives.received.is
      (came message (subst (λ (given : List Message). Contains given message) (sym gives.given) (Contains-push old.given message)));
}

pub port_gives_none : (old new : GivingView Message) (waiting : List Message) → GivesNone old new → HasGivenNone (port_with old.end old.given waiting) (port_with new.end new.given waiting)
port_gives_none old new waiting gives = record {
  more = gives.received.more;
  is = ap (λ (end : EndView Message). port_with end new.given waiting) gives.received.is
      ∙ ap (λ (given : List Message). port_with (record old.end { received = old.end.received ++ gives.received.more }) given waiting) gives.given;
}

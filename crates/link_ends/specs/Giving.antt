-- What an end of a link gives (ours).
use Rattle.std.specs.Prelude.{◌≡◌, ◌++◌, ◌∷◌, List, []}
use Rattle.link_ends.specs.Ends.{EndView}

-- an end, and what was given of the messages that it received: all of them, or what a bad network made of them
pub record GivingView (T : Type 0) : Type 0 where
  pub end : EndView T
  pub given : List T

-- messages may have been received
pub record HasReceived {T : Type 0} (old new : EndView T) : Type 0 where
  pub more : List T
  pub is : new ≡ record old { received = old.received ++ more }

-- this message was given, and others may have been received before
pub record Gives {T : Type 0} (old : GivingView T) (message : T) (new : GivingView T) : Type 0 where
  pub received : HasReceived old.end new.end
  pub given : new.given ≡ old.given ++ message ∷ []

-- none was given
pub record GivesNone {T : Type 0} (old new : GivingView T) : Type 0 where
  pub received : HasReceived old.end new.end
  pub given : new.given ≡ old.given

-- all that was received was given
abbrev pub plain : {T : Type 0} → EndView T → GivingView T
plain end = record { end = end; given = end.received }

-- one more message was sent
abbrev pub with_sent : {T : Type 0} → GivingView T → T → GivingView T
with_sent old message = record old { end = record old.end { sent = old.end.sent ++ message ∷ [] } }

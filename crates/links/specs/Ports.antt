-- A node's end of its link with another node, with the messages that found no room there yet (ours).
use Rattle.std.specs.Prelude.{◌≡◌, ◌++◌, ◌∷◌, ◌⊎◌, Contains, List, []}
use Rattle.atomic_table.specs.Seated.{TableId}
use Rattle.bus.specs.declared.message.Message.{Message}
use Rattle.link_ends.specs.Halves.{WasFull}

pub record PortView : Type 0 where
  pub to : TableId
  pub from : TableId
  pub sent : List Message
  pub received : List Message
  pub given : List Message
  pub waiting : List Message

-- messages were received, and this one was given, which was received now or before
pub record HasGiven (old : PortView) (message : Message) (new : PortView) : Type 0 where
  pub more : List Message
  pub is : new ≡ record old { received = old.received ++ more; given = old.given ++ message ∷ [] }
  pub came : Contains (old.received ++ more) message

-- messages may have been received, and none was given
pub record HasGivenNone (old new : PortView) : Type 0 where
  pub more : List Message
  pub is : new ≡ record old { received = old.received ++ more }

-- the first of the messages waits behind the others, if there is one
abbrev pub HasMore : PortView → List Message → PortView → List Message → Type 0
HasMore old [] new left = (new ≡ old) × (left ≡ [])
HasMore old (message ∷ messages) new left = (new ≡ record old { waiting = old.waiting ++ message ∷ [] }) × (left ≡ messages)

-- the first message that waited was sent
pub record HasSentOne (old new : PortView) : Type 0 where
  pub message : Message
  pub rest : List Message
  pub first : old.waiting ≡ message ∷ rest
  pub sent : new ≡ record old { sent = old.sent ++ message ∷ []; waiting = rest }

-- none was: none waited, or the link was full
abbrev pub HasSentNone : PortView → PortView → Type 0
HasSentNone old new = (new ≡ old) × ((old.waiting ≡ []) ⊎ WasFull old.sent)

-- messages that waited were sent, in order, and others wait only where the link was full
pub record HasSent (old new : PortView) : Type 0 where
  pub in_order : new.sent ++ new.waiting ≡ old.sent ++ old.waiting
  pub left : (new.waiting ≡ []) ⊎ WasFull new.sent
  pub rest : new ≡ record old { sent = new.sent; waiting = new.waiting }

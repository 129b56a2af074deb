-- Why a call of a client gives a fault, and whether its command may have been executed then (this project's own).
use Rattle.std.specs.Prelude.{◌≡◌, ◌++◌, ◌∷◌, ◌⊎◌, ℕ, Bool, true, false, IsTrue, List, [], All, Some, Err, slice_get, ⊤}
use Rattle.exchange.specs.Exchange.{Exchanges, HasFailed}
use Rattle.exchange.specs.declared.outcome.Outcome.{Outcome}
use Rattle.exchange.specs.declared.outcome.Outcome.TheVariants.{Reply, BadReply, Broken, NoMemory}
use Rattle.redirection.specs.Address.{Place}
use Rattle.smart_client.specs.Calls.{Calls, ClientView, Deed, IsRefusal, WiresMove, pool_behind}
use Rattle.smart_client.specs.Wires.{Channel, Wires, event_of}
use Rattle.smart_client.specs.Words.{asking_words, is_refused, numbered_words}
use Rattle.smart_client.specs.declared.action.Action.TheVariants.{Connect, Send}
use Rattle.smart_client.specs.declared.action.Event.{Event}
use Rattle.smart_client.specs.declared.action.Event.TheVariants as happened
use Rattle.smart_client.specs.declared.fault.ClientFault.{ClientFault}
use Rattle.smart_client.specs.declared.fault.ClientFault.TheVariants as fault

-- ---- what was done

-- MOVED, ASK or TRYAGAIN came, or memory was refused before any of it went out: no node executed it then, and none still may
abbrev pub HasNoEffect : Event → Type 0
HasNoEffect event = IsRefusal event ⊎ (event ≡ happened.NoMemory false)

-- where the deed sent the command, that had no effect
abbrev pub IsSettled : List (List ℕ) → Deed → Type 0
IsSettled command deed = deed.action ≡ Send command → HasNoEffect deed.event

-- each of them is so
abbrev pub AreSettled : List (List ℕ) → List Deed → Type 0
AreSettled command deeds = All (IsSettled command) deeds

-- no sending of the command is unanswered in the end
abbrev pub EndsSettled : List (List ℕ) → ClientView → ClientView → Type 0
EndsSettled command old new = (deeds : List Deed) × (new.deeds ≡ old.deeds ++ deeds) × AreSettled command deeds

-- last of all these words were sent on the connection in use, and this came of it: what went out and came in there, and which count of
-- failures grew, is in `bytes`. It is the one connection that the call closed
pub record SentLast (command words : List (List ℕ)) (outcome : Outcome) (old new : ClientView) : Type 0 where
  pub front : List Deed
  pub done : new.deeds ≡ old.deeds ++ (front ++ record { action = Send words; event = event_of outcome } ∷ [])
  pub settled : AreSettled command front
  pub between : Wires
  pub moved : WiresMove front old.pool old.wires between
  pub place : ℕ
  pub used : (pool_behind front old.pool).used ≡ Some place
  pub before : Channel
  pub there : slice_get between.channels place ≡ Some before
  pub after : Channel
  pub bytes : Exchanges words before.wire outcome after.wire
  pub closed : new.wires.closed ≡ old.wires.closed ++ after ∷ []

-- last of all a connection was wanted: the node was not reached, and in this call the count of that grew
pub record MissedLast (command : List (List ℕ)) (old new : ClientView) : Type 0 where
  pub front : List Deed
  pub address : Place
  pub done : new.deeds ≡ old.deeds ++ (front ++ record { action = Connect address; event = happened.NotConnected } ∷ [])
  pub settled : AreSettled command front
  pub counted : HasFailed old.wires.failures new.wires.failures

-- ---- what it is to the caller

-- CLUSTER NUMBERED or ASKING, which stand in front of a command
abbrev pub IsInFront : List (List ℕ) → Type 0
IsInFront words = (words ≡ numbered_words) ⊎ ((number : ℕ) × (words ≡ asking_words number))

-- the command was sent last: a byte of it went out, and then the writer or the reader failed, or the reader was at its end; or all of it
-- went out, and memory was refused
abbrev pub IsLost : List (List ℕ) → ClientView → ClientView → Type 0
IsLost command old new = SentLast command command (Broken true) old new ⊎ SentLast command command (NoMemory true) old new

-- the node was not reached; or the writer failed before a byte of the command went out; or the connection failed or ended over what stands
-- in front of the command
abbrev pub IsCutBefore : List (List ℕ) → ClientView → ClientView → Type 0
IsCutBefore command old new =
    MissedLast command old new ⊎ (SentLast command command (Broken false) old new
    ⊎ ((words : List (List ℕ)) × (handed : Bool) × IsInFront words × SentLast command words (Broken handed) old new))

-- something came
abbrev pub HasCome : Outcome → Type 0
HasCome (Reply reply) = ⊤
HasCome BadReply = ⊤
HasCome (Broken handed) = ⊥
HasCome (NoMemory handed) = ⊥

-- the words are no command about data, and nothing was done
pub record IsNotData (command : List (List ℕ)) (old new : ClientView) : Type 0 where
  pub refused : IsTrue (is_refused command)
  pub done : new.deeds ≡ old.deeds

-- why the call gives the fault
abbrev pub HasCause : ClientFault → List (List ℕ) → ClientView → ClientView → Type 0
HasCause fault.Lost command old new = IsLost command old new
HasCause fault.NotConnected command old new = IsCutBefore command old new
HasCause fault.Memory command old new = EndsSettled command old new
HasCause fault.TooManyRedirects command old new = EndsSettled command old new
HasCause fault.StillTryAgain command old new = EndsSettled command old new
HasCause fault.BadReply command old new = (words : List (List ℕ)) × (outcome : Outcome) × HasCome outcome × SentLast command words outcome old new
HasCause fault.NotData command old new = IsNotData command old new

-- each fault that a call gives has its cause
abbrev pub FaultsHaveCauses : Type 0
FaultsHaveCauses = (command : List (List ℕ)) (old new : ClientView) (given : ClientFault) → Calls command old (Err given) new → HasCause given command old new

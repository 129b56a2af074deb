-- What a client does with each event (Redis Cluster specification, "MOVED Redirection", "ASK redirection", "Clients first connection
-- and handling of redirections"). TRYAGAIN, the limits and the numbers of moves are this project's own.
use Rattle.std.specs.Prelude.{◌≡◌, ◌+◌, ◌==◌, ℕ, Bool, true, false, List, [], ◌∷◌, ◌++◌, length, Option, Some, None, Result, Ok, Err, slice_set, slice_index_or, if◌then◌else◌, codes, IsTrue, ◌⊎◌, ⊤}
use Rattle.std.specs.Str.{bytes_eq}
use Rattle.std.specs.List.{position_or_len}
use Rattle.resp_values.specs.declared.reply.Reply.{Reply}
use Rattle.resp_values.specs.declared.reply.Reply.TheVariants.{Simple, Error}
use Rattle.redirection.specs.Address.{Place}
use Rattle.redirection.specs.Redirection.{IsNoRedirection, IsRedirection}
use Rattle.redirection.specs.declared.redirection.Redirection.{Redirection}
use Rattle.redirection.specs.declared.redirection.Redirection.TheVariants.{Moved, Ask}
use Rattle.smart_client.specs.ErrorKind.{kind_of}
use Rattle.smart_client.specs.Pool.{is_same}
use Rattle.smart_client.specs.State.{ClientState}
use Rattle.smart_client.specs.Words.{asking_words, is_refused, numbered_words, place_for}
use Rattle.smart_client.specs.declared.action.Action.{Action}
use Rattle.smart_client.specs.declared.action.Action.TheVariants.{Connect, Send, Done}
use Rattle.smart_client.specs.declared.action.Event.{Event}
use Rattle.smart_client.specs.declared.action.Event.TheVariants as happened
use Rattle.smart_client.specs.declared.call.Call.{Call}
use Rattle.smart_client.specs.declared.call.Stage.{Stage}
use Rattle.smart_client.specs.declared.call.Stage.TheVariants.{Connecting, Introducing, Asking, Sent}
use Rattle.smart_client.specs.Limits.{most_addresses, most_redirections}
use Rattle.smart_client.specs.declared.error_kind.ErrorKind.{ErrorKind}
use Rattle.smart_client.specs.declared.error_kind.ErrorKind.TheVariants.{Redirection as Redirects, TryAgain, LastLine}
use Rattle.smart_client.specs.declared.fault.ClientFault.{ClientFault}
use Rattle.smart_client.specs.declared.fault.ClientFault.TheVariants.{Lost, TooManyRedirects, StillTryAgain, Memory, NotConnected, BadReply, NotData}
use Rattle.smart_client.specs.declared.peers.Peer.{Peer}

-- ---- answers

-- a reply to the command, or why there is none
abbrev pub Answer : Type 0
Answer = Result Reply ClientFault

abbrev pub is_last : ErrorKind → Bool
is_last LastLine = true
is_last _ = false

-- OOM or EXHAUSTED, behind which the node closes the connection
abbrev pub is_last_line : Reply → Bool
is_last_line (Error text) = is_last (kind_of text)
is_last_line _ = false

-- after these answers the connection in use is closed, so that no reply and no ASKING is left there for a later call
abbrev pub closes : Answer → Bool
closes (Ok reply) = is_last_line reply
closes (Err Lost) = true
closes (Err Memory) = true
closes (Err BadReply) = true
closes (Err _) = false

-- after these there is none any more
abbrev pub loses : Answer → Bool
loses (Err NotConnected) = true
loses answer = closes answer

-- ---- nodes

abbrev pub nobody : Peer
nobody = record { address = record { host = []; port = 0 }; is_connected = false }

abbrev pub peer_at : List Peer → ℕ → Peer
peer_at peers place = slice_index_or peers place nobody

-- whether a connection to it is kept
abbrev pub with_connected : List Peer → ℕ → Bool → List Peer
with_connected peers place is_connected = slice_set peers place (record (peer_at peers place) { is_connected = is_connected })

-- the address is this
abbrev pub is_at : Place → Peer → Bool
is_at address peer = is_same address peer.address

-- the place of the first node there, or the one behind all
abbrev pub place_of : List Peer → Place → ℕ
place_of peers address = position_or_len (is_at address) peers

-- a node there is one of them
abbrev pub with_address : List Peer → Place → List Peer
with_address peers address =
    if place_of peers address == length peers then peers ++ record { address = address; is_connected = false } ∷ [] else peers

-- there is no room for it
abbrev pub is_beyond : List Peer → Place → Bool
is_beyond peers address = place_of peers address == most_addresses

-- ---- how a call goes on

-- the client goes on so and wants this done; or the call is over; or it goes on by what the text of an error tells
pub data Turn : Type 0 where
  Goes : ClientState → Action → Turn
  Ends : Answer → Turn
  Reads : List ℕ → (Option Redirection → Turn) → Turn

-- the call waits for this
abbrev pub waits : ClientState → Call → Stage → Action → Turn
waits client call stage action = Goes (record client { call = Some (record call { stage = stage }) }) action

-- to the node at its place
abbrev pub connects : ClientState → Call → Turn
connects client call = waits client call Connecting (Connect (peer_at client.peers call.to).address)

abbrev pub sends : ClientState → Call → Turn
sends client call = waits client call Sent (Send call.words)

-- ASKING stands in front of the command where ASK sent it there
abbrev pub uses_for : Option ℕ → ClientState → Call → Turn
uses_for None client call = sends client call
uses_for (Some number) client call = waits client call Asking (Send (asking_words number))

abbrev pub uses : ClientState → Call → Turn
uses client call = uses_for call.asking client call

-- a new connection begins with CLUSTER NUMBERED
abbrev pub connected : ClientState → Call → Turn
connected client call =
    if (peer_at client.peers call.to).is_connected then uses client call else waits client call Introducing (Send numbered_words)

-- `+OK`
abbrev pub is_ok : Reply → Bool
is_ok (Simple text) = bytes_eq text (codes "OK")
is_ok _ = false

-- another reply to CLUSTER NUMBERED or ASKING
abbrev pub unwelcome : Reply → Answer
unwelcome reply = if is_last_line reply then Ok reply else Err BadReply

-- the connection is kept from now on
abbrev pub introduced : ClientState → Call → Reply → Turn
introduced client call reply =
    if is_ok reply then uses (record client { peers = with_connected client.peers call.to true }) call else Ends (unwelcome reply)

abbrev pub allowed : ClientState → Call → Reply → Turn
allowed client call reply = if is_ok reply then sends client call else Ends (unwelcome reply)

-- the call begins again
abbrev pub again : ClientState → Call → Turn
again client call =
    if call.repeats == client.limit then Ends (Err StillTryAgain)
    else connects client (record call { to = place_for client call.words; asking = None; repeats = call.repeats + 1 })

-- a redirection to the address is followed
abbrev pub follows : ClientState → Call → Place → Option ℕ → Turn
follows client call address number =
    if is_beyond client.peers address then Ends (Err BadReply)
    else connects (record client { peers = with_address client.peers address })
    (record call { to = place_of client.peers address; asking = number; redirections = call.redirections + 1 })

-- MOVED tells who owns the slot
abbrev pub with_owner : ClientState → ℕ → Place → ClientState
with_owner client slot address = record client { owners = slice_set client.owners slot (Some (place_of client.peers address)) }

-- ASK without the number of the move can't be followed
abbrev pub asked_at : ClientState → Call → Place → Option ℕ → Turn
asked_at client call to None = Ends (Err BadReply)
asked_at client call to (Some number) = follows client call to (Some number)

-- nor can what no node writes
abbrev pub redirected : ClientState → Call → Option Redirection → Turn
redirected client call None = Ends (Err BadReply)
redirected client call (Some (Moved slot to)) = follows (with_owner client slot to) call to None
redirected client call (Some (Ask slot to number)) = asked_at client call to number

-- the error that answers the command
abbrev pub failed : ErrorKind → ClientState → Call → List ℕ → Turn
failed Redirects client call text =
    if call.redirections == most_redirections then Ends (Err TooManyRedirects) else Reads text (redirected client call)
failed TryAgain client call text = again client call
failed _ client call text = Ends (Ok (Error text))

-- the reply to the command
abbrev pub replied : ClientState → Call → Reply → Turn
replied client call (Error text) = failed (kind_of text) client call text
replied client call reply = Ends (Ok reply)

-- the reply to what was sent last
abbrev pub answered : Stage → ClientState → Call → Reply → Turn
answered Connecting client call reply = Ends (Err BadReply)
answered Introducing client call reply = introduced client call reply
answered Asking client call reply = allowed client call reply
answered Sent client call reply = replied client call reply

-- the connection failed or ended: of the command a byte was handed to it, or none was
abbrev pub broken : Stage → Bool → ClientFault
broken Sent true = Lost
broken _ _ = NotConnected

-- memory was refused: the command was handed over before, or it was not
abbrev pub without_memory : Stage → Bool → ClientFault
without_memory Sent true = Lost
without_memory _ _ = Memory

-- what a call makes of an event
abbrev pub turn : ClientState → Call → Event → Turn
turn client call (happened.Call words) = Ends (Err NotData)
turn client call happened.Connected = connected client call
turn client call happened.NotConnected = Ends (Err NotConnected)
turn client call (happened.Reply reply) = answered call.stage client call reply
turn client call happened.BadReply = Ends (Err BadReply)
turn client call (happened.Broken handed) = Ends (Err (broken call.stage handed))
turn client call (happened.NoMemory handed) = Ends (Err (without_memory call.stage handed))

-- a call begins at the owner of the first key's slot
abbrev pub begun : ClientState → List (List ℕ) → Turn
begun client words =
    if is_refused words then Ends (Err NotData)
    else connects client (record { words = words; to = place_for client words; asking = None; redirections = 0; repeats = 0; stage = Connecting })

abbrev pub next : Option Call → ClientState → Event → Turn
next None client (happened.Call words) = begun client words
next None client _ = Ends (Err NotData)
next (Some call) client event = turn (record client { call = None }) call event

-- ---- steps

-- the text tells the redirection, or tells none
abbrev pub Tells : List ℕ → Option Redirection → Type 0
Tells text None = IsNoRedirection text
Tells text (Some redirection) = IsRedirection text redirection

-- the call is over, and its connection is given up if it is lost
abbrev pub without_call : Option Call → ClientState → Bool → ClientState
without_call None client lost = client
without_call (Some call) client lost =
    record client { call = None; peers = if lost then with_connected client.peers call.to false else client.peers }

abbrev pub ended : ClientState → Answer → ClientState
ended client answer = without_call client.call client (loses answer)

abbrev pub Follows : Turn → ClientState → Action → ClientState → Type 0
Follows (Goes client action) old done new = (new ≡ client) × (done ≡ action)
Follows (Ends answer) old done new = (new ≡ ended old answer) × (done ≡ Done answer (closes answer))
Follows (Reads text turn_by) old done new = (redirection : Option Redirection) × Tells text redirection × Follows (turn_by redirection) old done new

-- memory is taken for what a call goes on with
abbrev pub takes_memory : Turn → Bool
takes_memory (Goes client action) = true
takes_memory (Ends answer) = false
takes_memory (Reads text turn_by) = true

-- the client does with an event what is said above; or memory is refused that it takes, and the call is over
abbrev pub Steps : ClientState → Event → Action → ClientState → Type 0
Steps old event action new =
    Follows (next old.call old event) old action new
    ⊎ (IsTrue (takes_memory (next old.call old event)) × Follows (Ends (Err Memory)) old action new)

-- ---- what may happen next

abbrev pub MayComeTo : Stage → Event → Type 0
MayComeTo stage (happened.Call words) = ⊥
MayComeTo Connecting happened.Connected = ⊤
MayComeTo Connecting happened.NotConnected = ⊤
MayComeTo Connecting (happened.NoMemory handed) = ⊤
MayComeTo Connecting _ = ⊥
MayComeTo stage happened.Connected = ⊥
MayComeTo stage happened.NotConnected = ⊥
MayComeTo stage _ = ⊤

-- a call begins where none is under way; a call gets what it waits for, a failure, or word that memory was refused
abbrev pub MayCome : Option Call → Event → Type 0
MayCome None (happened.Call words) = ⊤
MayCome None _ = ⊥
MayCome (Some call) event = MayComeTo call.stage event

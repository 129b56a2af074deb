-- What a client wants once it was told something, and that it may ask for it.
use Rattle.std.proofs.Common.{◌≡◌, ◌⊎◌, ◌<◌, ◌≤◌, ◌+◌, ◌∙◌, ◌==◌, ℕ, Bool, true, false, true≢false, cond, List, [], ◌∷◌, ◌++◌, zero, suc, length, Option, None, Some, Ok, Err, refl, sym, ap, subst, inl, inr, arith}
use Rattle.std.proofs.lemmas.Bool.{and_parts, eq-eqb, eqb-true}
use Rattle.std.proofs.lemmas.List.Sums.{passes_at_first}
use Rattle.std.proofs.lemmas.Slice.Eq.{bytes_eq-Decides}
use Rattle.std.specs.Prelude.{IfSome}
use Rattle.std.specs.Str.{bytes_eq}
use Rattle.cluster_config.specs.declared.config.NodeConfig.{NodeConfig}
use Rattle.command_table.specs.declared.error_line.ErrorLine.TheVariants.{Exhausted}
use Rattle.node_step.specs.Outcome.{error}
use Rattle.redirection.specs.Address.{Place}
use Rattle.redirection.specs.Redirection.{IsMove}
use Rattle.redirection.specs.declared.redirection.Redirection.{Redirection}
use Rattle.redirection.specs.declared.redirection.Redirection.TheVariants.{Moved, Ask}
use Rattle.resp_values.specs.declared.reply.Reply.{Reply}
use Rattle.resp_values.specs.declared.reply.Reply.TheVariants.{Simple, Error, Integer, Bulk, Null, Array}
use Rattle.redirect.specs.declared.asked.Asking.{Asking}
use Rattle.redirect.specs.declared.asked.Asking.TheVariants.{No}
use Rattle.smart_client.specs.ErrorKind.{kind_of}
use Rattle.smart_client.specs.State.{ClientState}
use Rattle.smart_client.specs.Step.{Answer, Steps, Tells, Turn, again, allowed, answered, asked_at, begun, closes, connected, ended, failed, follows, introduced, is_at, is_beyond, is_last, is_last_line, is_ok, next, peer_at, place_of, redirected, replied, takes_memory, turn, unwelcome, uses, uses_for, with_address, with_connected, with_owner, without_call}
use Rattle.smart_client.specs.Step as client
use Rattle.smart_client.specs.Step.Turn.{Goes, Ends, Reads}
use Rattle.smart_client.specs.Words.{asking_words, is_refused, place_for}
use Rattle.smart_client.specs.declared.action.Action.{Action}
use Rattle.smart_client.specs.declared.action.Action.TheVariants.{Connect, Send, Done}
use Rattle.smart_client.specs.declared.action.Event.{Event}
use Rattle.smart_client.specs.declared.action.Event.TheVariants as happened
use Rattle.smart_client.specs.declared.call.Call.{Call}
use Rattle.smart_client.specs.declared.call.Stage.{Stage}
use Rattle.smart_client.specs.declared.call.Stage.TheVariants as stage
use Rattle.smart_client.specs.declared.client_core.TheConstants.{MOST_REDIRECTIONS}
use Rattle.smart_client.specs.declared.fault.ClientFault.TheVariants.{Memory, NotData, BadReply}
use Rattle.smart_client.specs.declared.peers.Peer.{Peer}
use Rattle.cluster_config.proofs.PlaceLemmas.{position-le}
use Rattle.smart_client.proofs.TurnCases.{failed_so}
use Rattle.world_run.specs.Run.{Entry}
use Rattle.world_nodes.specs.Allowed.{IsTold}
use Rattle.world.specs.Asking.{Follows, IsAsking, IsCalled, IsReplied, IsSent, TellsTruth, target}
use Rattle.world.specs.Clients.{node_at}

-- ---- what a client may want

-- a connection to the node of its call
pub record IsGoing (nodes : List NodeConfig) (past : List Entry) (core : ClientState) (address : Place) : Type 0 where
  pub call : Call
  pub is : core.call ≡ Some call
  pub connecting : call.stage ≡ stage.Connecting
  pub called : IsCalled nodes past core call
  pub there : address ≡ (peer_at core.peers call.to).address

-- words of its call to be sent to its node
pub record IsSending (nodes : List NodeConfig) (past : List Entry) (node : ℕ) (asking : Asking) (core : ClientState) (words : List (List ℕ)) : Type 0 where
  pub call : Call
  pub is : core.call ≡ Some call
  pub called : IsCalled nodes past core call
  pub there : node ≡ target nodes core call
  pub sent : IsSent call call.stage words asking

-- nothing is allowed on the connection, or it is closed
abbrev pub MayRest : Asking → Bool → Type 0
MayRest asking close = (asking ≡ No) ⊎ (close ≡ true)

-- on a connection to the node that allows this, the client may want that
abbrev pub MayDo : List NodeConfig → List Entry → ℕ → Asking → ClientState → Action → Type 0
MayDo nodes past node asking core (Connect address) = IsGoing nodes past core address × (asking ≡ No)
MayDo nodes past node asking core (Send words) = IsSending nodes past node asking core words
MayDo nodes past node asking core (Done answer close) = (core.call ≡ None) × MayRest asking close

-- ---- turns

-- what a turn leads to is such, whatever is read
abbrev TurnsTo : (ClientState → Action → Type 0) → (Answer → Type 0) → Turn → Type 0
TurnsTo may over (Goes core action) = may core action
TurnsTo may over (Ends answer) = over answer
TurnsTo may over (Reads text turn_by) = (redirection : Option Redirection) → Tells text redirection → TurnsTo may over (turn_by redirection)

turns_if : (may : ClientState → Action → Type 0) (over : Answer → Type 0) (test : Bool) (one other : Turn) → TurnsTo may over one → TurnsTo may over other → TurnsTo may over (cond test one other)
turns_if may over true one other = λ first second. first
turns_if may over false one other = λ first second. second

none_called : (core : ClientState) (under : Option Call) (lost : Bool) → core.call ≡ under → (without_call under core lost).call ≡ None
none_called core None lost is = is
none_called core (Some call) lost is = refl

-- ---- nodes that a client knows

peers_still : (peers : List Peer) (place other : ℕ) (is_connected : Bool) → (peer_at (with_connected peers place is_connected) other).address ≡ (peer_at peers other).address
peers_still [] place other is_connected = refl
peers_still (peer ∷ peers) zero zero is_connected = refl
peers_still (peer ∷ peers) zero (suc other) is_connected = refl
peers_still (peer ∷ peers) (suc place) zero is_connected = refl
peers_still (peer ∷ peers) (suc place) (suc other) is_connected = peers_still peers place other is_connected

-- who stands behind all
peer_behind : (peers : List Peer) (peer : Peer) → peer_at (peers ++ peer ∷ []) (length peers) ≡ peer
peer_behind [] peer = refl
peer_behind (first ∷ peers) peer = peer_behind peers peer

same_place : (one other : Place) → one.host ≡ other.host → one.port ≡ other.port → one ≡ other
same_place one other host port = λ i. record { host = host i; port = port i }

-- the first node at an address has that address
found_at : (peers : List Peer) (address : Place) → place_of peers address < length peers → (peer_at peers (place_of peers address)).address ≡ address
found_at peers address within =
    let peer : Peer = peer_at peers (place_of peers address) in
    let parts = and_parts (bytes_eq peer.address.host address.host) (peer.address.port == address.port) (passes_at_first (is_at address) peers client.nobody within) in
    same_place peer.address address ((bytes_eq-Decides peer.address.host address.host).0 parts.0) (eqb-true peer.address.port address.port parts.1)

-- one that is added, or was known before, is at the address
added_at : (peers : List Peer) (address : Place) → (peer_at (with_address peers address) (place_of peers address)).address ≡ address
added_at peers address =
    by_place (place_of peers address == length peers) refl
  where
    by_place : (behind : Bool) → (place_of peers address == length peers) ≡ behind
        → (peer_at (cond behind (peers ++ record { address = address; is_connected = false } ∷ []) peers) (place_of peers address)).address ≡ address
    by_place true is =
        ap (λ (place : ℕ). (peer_at (peers ++ record { address = address; is_connected = false } ∷ []) place).address) (eqb-true (place_of peers address) (length peers) is)
        ∙ ap (λ (peer : Peer). peer.address) (peer_behind peers (record { address = address; is_connected = false }))
    by_place false is =
        let apart : place_of peers address ≡ length peers → ⊥ = λ same. true≢false (sym (eq-eqb (place_of peers address) (length peers) same) ∙ is) in
        let within : place_of peers address ≤ length peers = position-le (is_at address) peers in
        found_at peers address (omega (arith, apart, within))

module _ (nodes : List NodeConfig) (past : List Entry) (node : ℕ) (asking : Asking) where
  abbrev May : ClientState → Action → Type 0
  May = MayDo nodes past node asking

  abbrev Over : Answer → Type 0
  Over answer = MayRest asking (closes answer)

  pub stepped : (old new : ClientState) (event : Event) (action : Action) → TurnsTo May Over (next old.call old event) → Steps old event action new → May new action
  stepped old new event action turns (inl follows) = followed (next old.call old event) turns follows
    where
      followed : (made : Turn) → TurnsTo May Over made → client.Follows made old action new → May new action
      followed (Goes core wanted) may follows = subst (λ (c : ClientState). May c action) (sym follows.0) (subst (May core) (sym follows.1) may)
      followed (Ends answer) over follows =
          subst (λ (c : ClientState). May c action) (sym follows.0)
          (subst (May (ended old answer)) (sym follows.1) (none_called old old.call (client.loses answer) refl, over))
      followed (Reads text turn_by) reads follows = followed (turn_by follows.0) (reads follows.0 follows.1) follows.2
  stepped old new event action turns (inr refused) =
      subst (λ (c : ClientState). May c action) (sym refused.1.0)
      (subst (May (ended old (Err Memory))) (sym refused.1.1) (none_called old old.call (client.loses (Err Memory)) refl, inr refl))

  -- ---- calls that go on

  connects_to : (core : ClientState) (call : Call) → asking ≡ No → IsCalled nodes past core call → TurnsTo May Over (client.connects core call)
  connects_to core call nothing called =
      (record { call = record call { stage = stage.Connecting }; is = refl; connecting = refl; called = record { plain = called.plain; number = called.number; told = called.told }; there = refl }, nothing)

  sends_to : (core : ClientState) (call : Call) → Follows call.asking asking → IsCalled nodes past core call → node ≡ target nodes core call → TurnsTo May Over (client.sends core call)
  sends_to core call allows called there = record {
    call = record call { stage = stage.Sent };
    is = refl;
    called = record { plain = called.plain; number = called.number; told = called.told };
    there = there;
    sent = (refl, allows);
  }

  uses_to : (core : ClientState) (call : Call) → asking ≡ No → IsCalled nodes past core call → node ≡ target nodes core call → TurnsTo May Over (uses core call)
  uses_to core call nothing called there = by_asked call.asking refl
    where
      by_asked : (asked : Option ℕ) → call.asking ≡ asked → TurnsTo May Over (uses_for asked core call)
      by_asked None is = sends_to core call (subst (Follows call.asking) (sym nothing) tt) called there
      by_asked (Some number) is = record {
        call = record call { stage = stage.Asking };
        is = refl;
        called = record { plain = called.plain; number = called.number; told = called.told };
        there = there;
        sent = (subst (λ (asked : Option ℕ). IsAsking asked (asking_words number)) (sym is) refl, nothing);
      }

  -- a connection was made
  pub connected_to : (core : ClientState) (call : Call) → asking ≡ No → IsCalled nodes past core call → node ≡ target nodes core call → TurnsTo May Over (connected core call)
  connected_to core call nothing called there =
      turns_if May Over (peer_at core.peers call.to).is_connected _ _ (uses_to core call nothing called there)
      (record {
        call = record call { stage = stage.Introducing };
        is = refl;
        called = record { plain = called.plain; number = called.number; told = called.told };
        there = there;
        sent = (refl, nothing);
      })

  -- ---- replies

  introduced_to : (core : ClientState) (call : Call) (reply : Reply) → asking ≡ No → IsCalled nodes past core call → node ≡ target nodes core call → TurnsTo May Over (introduced core call reply)
  introduced_to core call reply nothing called there =
      let linked : ClientState = record core { peers = with_connected core.peers call.to true } in
      let same : target nodes linked call ≡ target nodes core call = ap (node_at nodes) (peers_still core.peers call.to call.to true) in
      turns_if May Over (is_ok reply) _ _
      (uses_to linked call nothing
      (record { plain = called.plain; number = called.number; told = subst (λ (to : ℕ). IfSome call.asking (IsTold past call.words to)) (sym same) called.told })
      (there ∙ sym same))
      (inl nothing)

  unwelcome_closes : (reply : Reply) → closes (unwelcome reply) ≡ true
  unwelcome_closes reply = by_last (is_last_line reply) refl
    where
      by_last : (last : Bool) → is_last_line reply ≡ last → closes (cond last (Ok reply) (Err BadReply)) ≡ true
      by_last true is = is
      by_last false is = refl

  allowed_to : (core : ClientState) (call : Call) (reply : Reply) → Follows call.asking asking → IsCalled nodes past core call → node ≡ target nodes core call → TurnsTo May Over (allowed core call reply)
  allowed_to core call reply allows called there = turns_if May Over (is_ok reply) _ _ (sends_to core call allows called there) (inr (unwelcome_closes reply))

  -- a node that had no number for the request says so in its last line
  abbrev Used : Reply → Type 0
  Used reply = (asking ≡ No) ⊎ (reply ≡ error Exhausted)

  ends_with : (reply : Reply) → Used reply → Over (Ok reply)
  ends_with reply (inl nothing) = inl nothing
  ends_with reply (inr is) = inr (ap is_last_line is)

  used_up : (reply : Reply) → is_last_line reply ≡ false → Used reply → asking ≡ No
  used_up reply goes_on (inl nothing) = nothing
  used_up reply goes_on (inr exhausted) = absurd (true≢false (sym (ap is_last_line exhausted) ∙ goes_on))

  follows_to : (core : ClientState) (call : Call) (address : Place) (number : Option ℕ) → asking ≡ No → is_refused call.words ≡ false → IsMove number
      → IfSome number (IsTold past call.words (node_at nodes address)) → TurnsTo May Over (follows core call address number)
  follows_to core call address number nothing plain move told =
      let there = added_at core.peers address in
      turns_if May Over (is_beyond core.peers address) _ _ (inl nothing)
      (connects_to (record core { peers = with_address core.peers address }) (record call { to = place_of core.peers address; asking = number; redirections = call.redirections + 1 }) nothing
      (record { plain = plain; number = move; told = subst (λ (at : Place). IfSome number (IsTold past call.words (node_at nodes at))) (sym there) told }))

  redirected_to : (core : ClientState) (call : Call) (text : List ℕ) (redirection : Option Redirection) → asking ≡ No → is_refused call.words ≡ false → TellsTruth nodes past call.words (Error text)
      → Tells text redirection → TurnsTo May Over (redirected core call redirection)
  redirected_to core call text None nothing plain truth tells = inl nothing
  redirected_to core call text (Some (Moved slot to)) nothing plain truth tells = follows_to (with_owner core slot to) call to None nothing plain tt tt
  redirected_to core call text (Some (Ask slot to None)) nothing plain truth tells = inl nothing
  redirected_to core call text (Some (Ask slot to (Some number))) nothing plain truth tells =
      follows_to core call to (Some number) nothing plain tells.number (truth text slot to number refl tells)

  failed_to : (core : ClientState) (call : Call) (text : List ℕ) → is_refused call.words ≡ false → Used (Error text) → TellsTruth nodes past call.words (Error text)
      → TurnsTo May Over (failed (kind_of text) core call text)
  failed_to core call text plain used truth =
      failed_so (TurnsTo May Over) core call text (ends_with (Error text) used)
      (λ (goes_on : is_last_line (Error text) ≡ false). let nothing = used_up (Error text) goes_on used in
      turns_if May Over (call.redirections == MOST_REDIRECTIONS) _ _ (inl nothing)
      (λ (redirection : Option Redirection). λ (tells : Tells text redirection). redirected_to core call text redirection nothing plain truth tells))
      (λ (goes_on : is_last_line (Error text) ≡ false). let nothing = used_up (Error text) goes_on used in
      turns_if May Over (call.repeats == core.limit) _ _ (inl nothing) (connects_to core (record call { to = place_for core call.words; asking = None; repeats = call.repeats + 1 }) nothing (record { plain = plain; number = tt; told = tt })))

  replied_to : (core : ClientState) (call : Call) (reply : Reply) → is_refused call.words ≡ false → Used reply → TellsTruth nodes past call.words reply → TurnsTo May Over (replied core call reply)
  replied_to core call (Error text) plain used truth = failed_to core call text plain used truth
  replied_to core call (Simple text) plain used truth = ends_with (Simple text) used
  replied_to core call (Integer number) plain used truth = ends_with (Integer number) used
  replied_to core call (Bulk bytes) plain used truth = ends_with (Bulk bytes) used
  replied_to core call Null plain used truth = ends_with Null used
  replied_to core call (Array replies) plain used truth = ends_with (Array replies) used

  pub answered_to : (core : ClientState) (call : Call) (at : Stage) (reply : Reply) → IsCalled nodes past core call → node ≡ target nodes core call
      → IsReplied nodes past call at reply asking → TurnsTo May Over (answered at core call reply)
  answered_to core call stage.Connecting reply called there is = absurd is
  answered_to core call stage.Introducing reply called there is = introduced_to core call reply is called there
  answered_to core call stage.Asking reply called there is = allowed_to core call reply is called there
  answered_to core call stage.Sent reply called there is = replied_to core call reply called.plain is.0 is.1

  -- ---- calls that begin

  pub begun_to : (core : ClientState) (words : List (List ℕ)) → asking ≡ No → TurnsTo May Over (begun core words)
  begun_to core words nothing = by_refused (is_refused words) refl
    where
      start : Call
      start = record { words = words; to = place_for core words; asking = None; redirections = 0; repeats = 0; stage = stage.Connecting }

      by_refused : (refused : Bool) → is_refused words ≡ refused → TurnsTo May Over (cond refused (Ends (Err NotData)) (client.connects core start))
      by_refused true is = inl nothing
      by_refused false is = connects_to core start nothing (record { plain = is; number = tt; told = tt })

-- ---- what happens to a client

-- a call begins where none is under way
pub begins_well : (nodes : List NodeConfig) (past : List Entry) (node : ℕ) (old new : ClientState) (words : List (List ℕ)) (action : Action) → old.call ≡ None → Steps old (happened.Call words) action new
    → MayDo nodes past node No new action
begins_well nodes past node old new words action none steps =
    stepped nodes past node No old new (happened.Call words) action
    (subst (λ (under : Option Call). TurnsTo (MayDo nodes past node No) (λ (answer : Answer). MayRest No (closes answer)) (next under old (happened.Call words))) (sym none)
    (begun_to nodes past node No old words refl)) steps

-- it is told that its connection is there
pub connects_well : (nodes : List NodeConfig) (past : List Entry) (node : ℕ) (asking : Asking) (old new : ClientState) (call : Call) (action : Action) → old.call ≡ Some call → asking ≡ No
    → IsCalled nodes past old call → node ≡ target nodes old call → Steps old happened.Connected action new → MayDo nodes past node asking new action
connects_well nodes past node asking old new call action is nothing called there steps =
    stepped nodes past node asking old new happened.Connected action
    (subst (λ (under : Option Call). TurnsTo (MayDo nodes past node asking) (λ (answer : Answer). MayRest asking (closes answer)) (next under old happened.Connected)) (sym is)
    (connected_to nodes past node asking (record old { call = None }) call nothing (record { plain = called.plain; number = called.number; told = called.told }) there)) steps

-- or that there is none
pub fails_well : (nodes : List NodeConfig) (past : List Entry) (node : ℕ) (old new : ClientState) (call : Call) (action : Action) → old.call ≡ Some call → Steps old happened.NotConnected action new
    → MayDo nodes past node No new action
fails_well nodes past node old new call action is steps =
    stepped nodes past node No old new happened.NotConnected action
    (subst (λ (under : Option Call). TurnsTo (MayDo nodes past node No) (λ (answer : Answer). MayRest No (closes answer)) (next under old happened.NotConnected)) (sym is) (inl refl)) steps

-- it gets a reply
pub answers_well : (nodes : List NodeConfig) (past : List Entry) (node : ℕ) (asking : Asking) (old new : ClientState) (call : Call) (reply : Reply) (action : Action) → old.call ≡ Some call
    → IsCalled nodes past old call → node ≡ target nodes old call → IsReplied nodes past call call.stage reply asking → Steps old (happened.Reply reply) action new → MayDo nodes past node asking new action
answers_well nodes past node asking old new call reply action is called there replied steps =
    stepped nodes past node asking old new (happened.Reply reply) action
    (subst (λ (under : Option Call). TurnsTo (MayDo nodes past node asking) (λ (answer : Answer). MayRest asking (closes answer)) (next under old (happened.Reply reply))) (sym is)
    (answered_to nodes past node asking (record old { call = None }) call call.stage reply (record { plain = called.plain; number = called.number; told = called.told }) there replied)) steps

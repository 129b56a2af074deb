-- A client introduces each connection before it asks anything else there, and goes only to nodes of the configuration.
use Rattle.std.proofs.Common.{◌≡◌, ◌+◌, ◌==◌, ℕ, Bool, true, false, cond, List, Option, None, Some, Ok, Err, refl, sym, ap, subst, inl, inr}
use Rattle.std.specs.Prelude.{slice_set, ⊤}
use Rattle.cluster_config.specs.Config.{ClusterConfig, IsCluster}
use Rattle.connections.specs.declared.conn.Conn.{Conn}
use Rattle.redirection.proofs.Redirections.{one_redirection}
use Rattle.redirection.specs.Address.{Place}
use Rattle.redirection.specs.Redirection.{IsRedirection, address_of}
use Rattle.redirection.specs.declared.redirection.Redirection.{Redirection}
use Rattle.redirection.specs.declared.redirection.Redirection.TheVariants.{Moved, Ask}
use Rattle.resp_values.specs.declared.reply.Reply.{Reply}
use Rattle.resp_values.specs.declared.reply.Reply.TheVariants.{Simple, Error, Integer, Bulk, Null, Array}
use Rattle.smart_client.proofs.TurnCases.{failed_so}
use Rattle.smart_client.specs.ErrorKind.{kind_of}
use Rattle.smart_client.specs.State.{ClientState}
use Rattle.smart_client.specs.Step.{Answer, Steps, Tells, Turn, again, allowed, answered, begun, closes, connected, ended, failed, follows, introduced, is_beyond, is_last_line, is_ok, loses, next, peer_at, place_of, redirected, replied, unwelcome, uses, uses_for, with_address, with_connected, with_owner, without_call}
use Rattle.smart_client.specs.Step as client
use Rattle.smart_client.specs.Step.Turn.{Goes, Ends, Reads}
use Rattle.smart_client.specs.Words.{is_refused, place_for}
use Rattle.smart_client.specs.declared.action.Action.{Action}
use Rattle.smart_client.specs.declared.action.Action.TheVariants.{Connect, Send, Done}
use Rattle.smart_client.specs.declared.action.Event.{Event}
use Rattle.smart_client.specs.declared.action.Event.TheVariants as happened
use Rattle.smart_client.specs.declared.call.Call.{Call}
use Rattle.smart_client.specs.declared.call.Stage.{Stage}
use Rattle.smart_client.specs.declared.call.Stage.TheVariants as stage
use Rattle.smart_client.specs.declared.client_core.TheConstants.{MOST_REDIRECTIONS}
use Rattle.smart_client.specs.declared.fault.ClientFault.TheVariants.{Lost, TooManyRedirects, StillTryAgain, Memory, NotConnected, BadReply, NotData}
use Rattle.smart_client.specs.declared.peers.Peer.{Peer}
use Rattle.world_nodes.specs.Nodes.{RunView}
use Rattle.world_nodes.specs.declared.link.Link.{Link}
use Rattle.world.specs.Asking.{IsInPool}
use Rattle.final_answers.proofs.Kept.{IsIntroduced}
use Rattle.final_answers.proofs.Leading.{CanFollow, names_node}
use Rattle.final_answers.proofs.Linked.{AreKept, in_use_is, kept_added, kept_closed, kept_greeted, kept_lost, node_of}
use Rattle.final_answers.proofs.Placed.{IsPlaced}

-- whatever is sent but the introduction goes out on an introduced connection
abbrev pub IsGreeted : RunView → Option Link → Stage → Type 0
IsGreeted run None at = ⊤
IsGreeted run (Some link) stage.Connecting = ⊤
IsGreeted run (Some link) stage.Introducing = ⊤
IsGreeted run (Some link) stage.Asking = IsIntroduced run link
IsGreeted run (Some link) stage.Sent = IsIntroduced run link

-- the connections that are left once the one in use is closed, where it is
abbrev pub left_by : Option Link → Bool → List (Option Conn) → List (Option Conn)
left_by None close pool = pool
left_by (Some link) false pool = pool
left_by (Some link) true pool = slice_set pool link.node None

-- the text of a redirection is of its kind
names_so : (redirection : Redirection) (text : List ℕ) → IsRedirection text redirection → names_node text ≡ true
names_so (Moved slot to) text is = ap names_node is.text_is
names_so (Ask slot to None) text is = ap names_node is.text_is
names_so (Ask slot to (Some number)) text is = ap names_node is.text_is

module _ (config : ClusterConfig) (cluster_is : IsCluster config) (run : RunView) (pool : List (Option Conn)) (link : Option Link) where
  abbrev Are : List Peer → Type 0
  Are peers = AreKept config.nodes run pool peers

  -- what the client may want then
  abbrev pub MayWant : ClientState → Action → Type 0
  MayWant core (Connect address) = (call : Call) × (core.call ≡ Some call) × (address ≡ (peer_at core.peers call.to).address) × Are core.peers
  MayWant core (Send words) = (call : Call) × (core.call ≡ Some call) × IsGreeted run link call.stage × Are core.peers
  MayWant core (Done answer close) = AreKept config.nodes run (left_by link close pool) core.peers

  abbrev TurnsTo : Turn → Type 0
  TurnsTo (Goes core action) = MayWant core action
  TurnsTo (Ends answer) = ⊤
  TurnsTo (Reads text turn_by) = (redirection : Option Redirection) → Tells text redirection → TurnsTo (turn_by redirection)

  -- however its call ends
  abbrev MayEnd : ClientState → Type 0
  MayEnd core = (answer : Answer) → AreKept config.nodes run (left_by link (closes answer) pool) (ended core answer).peers

  followed : (old new : ClientState) (action : Action) (made : Turn) → TurnsTo made → MayEnd old → client.Follows made old action new → MayWant new action
  followed old new action (Goes core wanted) may over follows = subst (λ (c : ClientState). MayWant c action) (sym follows.0) (subst (MayWant core) (sym follows.1) may)
  followed old new action (Ends answer) may over follows =
      subst (λ (c : ClientState). MayWant c action) (sym follows.0) (subst (MayWant (ended old answer)) (sym follows.1) (over answer))
  followed old new action (Reads text turn_by) reads over follows = followed old new action (turn_by follows.0) (reads follows.0 follows.1) over follows.2

  stepped : (old new : ClientState) (event : Event) (action : Action) → TurnsTo (next old.call old event) → MayEnd old → Steps old event action new → MayWant new action
  stepped old new event action turns over (inl follows) = followed old new action (next old.call old event) turns over follows
  stepped old new event action turns over (inr refused) = followed old new action (Ends (Err Memory)) tt over refused.1

  turns_if : (test : Bool) (one other : Turn) → (test ≡ true → TurnsTo one) → TurnsTo other → TurnsTo (cond test one other)
  turns_if true one other first second = first refl
  turns_if false one other first second = second

  -- ---- calls that go on

  connects_to : (core : ClientState) (call : Call) → Are core.peers → TurnsTo (client.connects core call)
  connects_to core call are = (record call { stage = stage.Connecting }, refl, refl, are)

  follows_to : (core : ClientState) (call : Call) (address : Place) (number : Option ℕ) → Are core.peers → IsPlaced config.nodes address → TurnsTo (follows core call address number)
  follows_to core call address number are there =
      turns_if (is_beyond core.peers address) _ _ (λ beyond. tt)
      (connects_to (record core { peers = with_address core.peers address }) (record call { to = place_of core.peers address; asking = number; redirections = call.redirections + 1 })
      (kept_added config cluster_is run pool core.peers are address there))

  -- the redirection that is read is the one that the node wrote
  placed_so : (text : List ℕ) (redirection : Redirection) → CanFollow config.nodes true (Error text) → IsRedirection text redirection → IsPlaced config.nodes (address_of redirection)
  placed_so text redirection can is =
      let leads = can text refl (names_so redirection text is) in
      subst (λ (r : Redirection). IsPlaced config.nodes (address_of r)) (one_redirection text leads.redirection redirection leads.is is) leads.placed

  redirected_to : (core : ClientState) (call : Call) (text : List ℕ) (redirection : Option Redirection) → Are core.peers → CanFollow config.nodes true (Error text) → Tells text redirection
      → TurnsTo (redirected core call redirection)
  redirected_to core call text None are can tells = tt
  redirected_to core call text (Some (Moved slot to)) are can tells = follows_to (with_owner core slot to) call to None are (placed_so text (Moved slot to) can tells)
  redirected_to core call text (Some (Ask slot to None)) are can tells = tt
  redirected_to core call text (Some (Ask slot to (Some number))) are can tells = follows_to core call to (Some number) are (placed_so text (Ask slot to (Some number)) can tells)

  failed_to : (core : ClientState) (call : Call) (text : List ℕ) → Are core.peers → CanFollow config.nodes true (Error text) → TurnsTo (failed (kind_of text) core call text)
  failed_to core call text are can =
      failed_so TurnsTo core call text tt
      (λ (on : is_last_line (Error text) ≡ false).
      turns_if (call.redirections == MOST_REDIRECTIONS) _ _ (λ most. tt) (λ (redirection : Option Redirection). λ (tells : Tells text redirection). redirected_to core call text redirection are can tells))
      (λ (on : is_last_line (Error text) ≡ false).
      turns_if (call.repeats == core.limit) _ _ (λ most. tt) (connects_to core (record call { to = place_for core call.words; asking = None; repeats = call.repeats + 1 }) are))

  replied_to : (core : ClientState) (call : Call) (reply : Reply) → Are core.peers → CanFollow config.nodes true reply → TurnsTo (replied core call reply)
  replied_to core call (Error text) are can = failed_to core call text are can
  replied_to core call (Simple text) are can = tt
  replied_to core call (Integer number) are can = tt
  replied_to core call (Bulk bytes) are can = tt
  replied_to core call Null are can = tt
  replied_to core call (Array replies) are can = tt

  begun_to : (core : ClientState) (words : List (List ℕ)) → Are core.peers → TurnsTo (begun core words)
  begun_to core words are =
      turns_if (is_refused words) _ _ (λ refused. tt)
      (connects_to core (record { words = words; to = place_for core words; asking = None; redirections = 0; repeats = 0; stage = stage.Connecting }) are)

-- ---- with a connection in use

module _ (config : ClusterConfig) (cluster_is : IsCluster config) (run : RunView) (pool : List (Option Conn)) (link : Link) where
  abbrev To : Turn → Type 0
  To made = TurnsTo config cluster_is run pool (Some link) made

  abbrev AreSo : List Peer → Type 0
  AreSo peers = AreKept config.nodes run pool peers

  sends_to : (core : ClientState) (call : Call) → AreSo core.peers → IsIntroduced run link → To (client.sends core call)
  sends_to core call are introduced = (record call { stage = stage.Sent }, refl, introduced, are)

  uses_to : (core : ClientState) (call : Call) → AreSo core.peers → IsIntroduced run link → To (uses core call)
  uses_to core call are introduced = by_asked call.asking
    where
      by_asked : (asked : Option ℕ) → To (uses_for asked core call)
      by_asked None = sends_to core call are introduced
      by_asked (Some number) = (record call { stage = stage.Asking }, refl, introduced, are)

  connected_to : (core : ClientState) (call : Call) → AreSo core.peers → link.node ≡ node_of config.nodes core.peers call.to → IsInPool pool link → To (connected core call)
  connected_to core call are there in_pool =
      turns_if config cluster_is run pool (Some link) (peer_at core.peers call.to).is_connected _ _
      (λ known. uses_to core call are (in_use_is config cluster_is run pool core.peers are call.to known link there in_pool))
      (record call { stage = stage.Introducing }, refl, tt, are)

  introduced_to : (core : ClientState) (call : Call) (reply : Reply) → AreSo core.peers → link.node ≡ node_of config.nodes core.peers call.to → IsInPool pool link → IsIntroduced run link
      → To (introduced core call reply)
  introduced_to core call reply are there in_pool is =
      turns_if config cluster_is run pool (Some link) (is_ok reply) _ _
      (λ ok. uses_to (record core { peers = with_connected core.peers call.to true }) call (kept_greeted config cluster_is run pool core.peers are call.to link there in_pool is) is) tt

  allowed_to : (core : ClientState) (call : Call) (reply : Reply) → AreSo core.peers → IsIntroduced run link → To (allowed core call reply)
  allowed_to core call reply are is = turns_if config cluster_is run pool (Some link) (is_ok reply) _ _ (λ ok. sends_to core call are is) tt

  answered_to : (core : ClientState) (call : Call) (at : Stage) (reply : Reply) → AreSo core.peers → link.node ≡ node_of config.nodes core.peers call.to → IsInPool pool link → IsIntroduced run link
      → (at ≡ stage.Sent → CanFollow config.nodes true reply) → To (answered at core call reply)
  answered_to core call stage.Connecting reply are there in_pool is can = tt
  answered_to core call stage.Introducing reply are there in_pool is can = introduced_to core call reply are there in_pool is
  answered_to core call stage.Asking reply are there in_pool is can = allowed_to core call reply are is
  answered_to core call stage.Sent reply are there in_pool is can = replied_to config cluster_is run pool (Some link) core call reply are (can refl)

  -- the call of the connection ends
  over_so : (core : ClientState) (call : Call) → core.call ≡ Some call → AreSo core.peers → link.node ≡ node_of config.nodes core.peers call.to → MayEnd config cluster_is run pool (Some link) core
  over_so core call is are there answer =
      subst (λ (under : Option Call). AreKept config.nodes run (left_by (Some link) (closes answer) pool) (without_call under core (loses answer)).peers) (sym is) (by_answer answer)
    where
      by_last : (last : Bool) → AreKept config.nodes run (left_by (Some link) last pool) (without_call (Some call) core last).peers
      by_last true = kept_closed config cluster_is run pool core.peers are call.to link.node there
      by_last false = are

      by_answer : (answer : Answer) → AreKept config.nodes run (left_by (Some link) (closes answer) pool) (without_call (Some call) core (loses answer)).peers
      by_answer (Ok reply) = by_last (is_last_line reply)
      by_answer (Err Lost) = by_last true
      by_answer (Err Memory) = by_last true
      by_answer (Err BadReply) = by_last true
      by_answer (Err NotConnected) = kept_lost config cluster_is run pool core.peers are call.to
      by_answer (Err TooManyRedirects) = are
      by_answer (Err StillTryAgain) = are
      by_answer (Err NotData) = are

-- ---- what happens to a client

module _ (config : ClusterConfig) (cluster_is : IsCluster config) (run : RunView) (pool : List (Option Conn)) (old new : ClientState) (action : Action) (are : AreKept config.nodes run pool old.peers) where
  -- a call begins
  pub begins_greeted : (words : List (List ℕ)) → old.call ≡ None → Steps old (happened.Call words) action new → MayWant config cluster_is run pool None new action
  begins_greeted words none steps =
      stepped config cluster_is run pool None old new (happened.Call words) action
      (subst (λ (under : Option Call). TurnsTo config cluster_is run pool None (next under old (happened.Call words))) (sym none) (begun_to config cluster_is run pool None old words are))
      (λ answer. subst (λ (under : Option Call). AreKept config.nodes run pool (without_call under old (loses answer)).peers) (sym none) are) steps

  module _ (call : Call) (is : old.call ≡ Some call) where
    -- it is told that its connection is there
    pub connects_greeted : (link : Link) → link.node ≡ node_of config.nodes old.peers call.to → IsInPool pool link → Steps old happened.Connected action new
        → MayWant config cluster_is run pool (Some link) new action
    connects_greeted link there in_pool steps =
        stepped config cluster_is run pool (Some link) old new happened.Connected action
        (subst (λ (under : Option Call). TurnsTo config cluster_is run pool (Some link) (next under old happened.Connected)) (sym is)
        (connected_to config cluster_is run pool link (record old { call = None }) call are there in_pool))
        (over_so config cluster_is run pool link old call is are there) steps

    -- it gets a reply
    pub answers_greeted : (link : Link) (reply : Reply) → link.node ≡ node_of config.nodes old.peers call.to → IsInPool pool link → IsIntroduced run link
        → (call.stage ≡ stage.Sent → CanFollow config.nodes true reply) → Steps old (happened.Reply reply) action new → MayWant config cluster_is run pool (Some link) new action
    answers_greeted link reply there in_pool introduced can steps =
        stepped config cluster_is run pool (Some link) old new (happened.Reply reply) action
        (subst (λ (under : Option Call). TurnsTo config cluster_is run pool (Some link) (next under old (happened.Reply reply))) (sym is)
        (answered_to config cluster_is run pool link (record old { call = None }) call call.stage reply are there in_pool introduced can))
        (over_so config cluster_is run pool link old call is are there) steps

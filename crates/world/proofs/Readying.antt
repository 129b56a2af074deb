-- Which connections are ready, from step to step of a world's nodes: those of which their node takes a request.
use Rattle.std.proofs.Common.{◌≡◌, ◌⊎◌, ◌∷◌, ◌∙◌, ℕ, Bool, true, false, true≢false, List, [], Contains, Option, Some, None, refl, sym, ap, subst, inl, inr}
use Rattle.std.proofs.lemmas.Bool.{cases_eq}
use Rattle.std.proofs.lemmas.List.Elements.{Contains-append_cases}
use Rattle.std.specs.Prelude.{MatchBool}
use Rattle.connections.specs.declared.conn.Conn.{Conn}
use Rattle.node_step.specs.State.{NodeState}
use Rattle.node_step.specs.Step.{IsOpening, NodeStep}
use Rattle.node_step.specs.declared.event.Event.{Event}
use Rattle.node_step.specs.declared.event.Event.TheVariants.{Open, Close, Request, Deliver, Tick}
use Rattle.node_step.specs.declared.outputs.Outputs.{Outputs}
use Rattle.node_step.specs.declared.outputs.Release.{Release}
use Rattle.node_step.specs.declared.response.Answer.{Answer}
use Rattle.node_step.specs.declared.response.Response.{Response}
use Rattle.node_step.specs.declared.response.Response.TheVariants.{Nothing, Opened, Replied, Parked}
use Rattle.node_step.specs.Outcome.{Outcome}
use Rattle.reply_meaning.proofs.Laws.{client_is_answered}
use Rattle.resp_values.specs.declared.reply.Reply.{Reply}
use Rattle.single_keyspace.proofs.Lists.{contains_first, contains_more, contains_nothing, contains_one, from_map}
use Rattle.world_run.specs.Run.{Deed, Entry, Leads}
use Rattle.world_run.specs.Run.Deed.{Made, Skipped}
use Rattle.world_nodes.specs.Allowed.{IsKnown, IsReady, MayTake, may_ask_in, past_of}
use Rattle.world_nodes.specs.NodeSteps.{Administers, Closes, Delivers, Enters, IsAdministered, IsAsked, IsDelivered, IsHeard, IsIdle, IsUnasked, Makes, Reaches, Ticks, Turns, answered_conn, message_at, released_conns, served_conns}
use Rattle.world_nodes.specs.Nodes.{RunView, is_up}
use Rattle.world_nodes.specs.Serving.{Serves, reply_in}
use Rattle.world_nodes.specs.declared.link.Link.{Link}
use Rattle.world_nodes.specs.declared.output.Output.{Output}
use Rattle.world_nodes.proofs.Connected.{cases_conn}
use Rattle.world_nodes.proofs.Leaving.{after_is, apart_is, before_is, none_changed, opened_is_fresh}
use Rattle.world.specs.Asking.{MayArrive}
use Rattle.world.specs.Calls.{IsShut}
use Rattle.bus.specs.declared.message.Message.{Message}
use Rattle.world.proofs.Ready.{HasReply, IsSpared, may_at, newly_may, step_ready}

-- all connections that are ready stay so, but for those that are lost
abbrev pub Readies : (Link → Type 0) → RunView → RunView → Type 0
Readies lost old new = (link : Link) → IsReady old link → IsReady new link ⊎ lost link

pub readies_all : (lost : Link → Type 0) (run : RunView) → Readies lost run run
readies_all lost run link ready = inl ready

pub readies_more : (lost others : Link → Type 0) (old new : RunView) → ((link : Link) → lost link → others link) → Readies lost old new → Readies others old new
readies_more lost others old new more readies link ready =
    elim (readies link ready) [
      | inl still ↦ inl still
      | inr is ↦ inr (more link is)
    ]

pub readies_further : (lost : Link → Type 0) (old mid new : RunView) → Readies lost old mid → Readies lost mid new → Readies lost old new
readies_further lost old mid new first more link ready =
    elim (first link ready) [
      | inl still ↦ more link still
      | inr is ↦ inr is
    ]

pub readies_none : (lost : Link → Type 0) (old new : RunView) → Readies none_changed old new → Readies lost old new
readies_none lost old new = readies_more none_changed lost old new (λ link none. absurd none)

-- ---- one entry

-- by a step for the event with this response
abbrev pub IsLost : Event → Response → Conn → Type 0
IsLost (Request conn words) response other = (other ≡ conn) × (HasReply response → ⊥)
IsLost (Close conn) response other = other ≡ conn
IsLost Open response other = ⊥
IsLost (Deliver message) response other = ⊥
IsLost Tick response other = ⊥

without_reply : (response : Response) → HasReply response ⊎ (HasReply response → ⊥)
without_reply (Replied answer) = inl tt
without_reply Nothing = inr (λ has. has)
without_reply (Opened conn) = inr (λ has. has)
without_reply Parked = inr (λ has. has)

spared_or_lost : (event : Event) (response : Response) (other : Conn) → IsSpared event response other ⊎ IsLost event response other
spared_or_lost (Request conn words) response other =
    elim (cases_conn other conn) [
      | inr apart ↦ inl (inl apart)
      | inl same ↦
          elim (without_reply response) [
            | inl has ↦ inl (inr has)
            | inr none ↦ inr (same, none)
          ]
    ]
spared_or_lost (Close conn) response other =
    elim (cases_conn other conn) [
      | inr apart ↦ inl apart
      | inl same ↦ inr same
    ]
spared_or_lost Open response other = inl tt
spared_or_lost (Deliver message) response other = inl tt
spared_or_lost Tick response other = inl tt

-- by what a node did
abbrev pub IsLostBy : Deed → Conn → Type 0
IsLostBy Skipped other = ⊥
IsLostBy (Made event outputs) other = IsLost event outputs.response other

deed_ready : (past : List Entry) (ticket : ℕ) (old new : NodeState) (deed : Deed) → Leads past ticket old deed new → (conn : Conn) → may_ask_in (Some old) conn ≡ true
    → (may_ask_in (Some new) conn ≡ true) ⊎ IsLostBy deed conn
deed_ready past ticket old new Skipped same conn may = inl (ap (λ (node : NodeState). may_ask_in (Some node) conn) same ∙ may)
deed_ready past ticket old new (Made event outputs) leads conn may =
    elim (spared_or_lost event outputs.response conn) [
      | inl spared ↦ inl ((step_ready ticket old new event outputs leads.1).ready conn spared may)
      | inr lost ↦ inr lost
    ]

abbrev pub LostAt : ℕ → Deed → Link → Type 0
LostAt node deed link = (link.node ≡ node) × IsLostBy deed link.conn

pub enters_readies : (old new : RunView) (node : ℕ) (deed : Deed) → Enters old node deed new → Readies (LostAt node deed) old new
enters_readies old new node deed enters link ready =
    elim (cases_eq link.node node) [
      | inr apart ↦ inl (ap (λ (s : Option NodeState). may_ask_in s link.conn) (apart_is old new node deed enters link.node apart) ∙ ready)
      | inl same ↦
          let step = enters.enters.step in
          let was : may_ask_in (Some step.before) link.conn ≡ true = ap (λ (s : Option NodeState). may_ask_in s link.conn) (sym (before_is old new node deed enters link.node same)) ∙ ready in
          elim (deed_ready (past_of old) enters.enters.ticket step.before step.after deed step.leads link.conn was) [
            | inl still ↦ inl (ap (λ (s : Option NodeState). may_ask_in s link.conn) (after_is old new node deed enters link.node same) ∙ still)
            | inr lost ↦ inr (same, lost)
          ]
    ]

pub skips_readies : (old new : RunView) (node : ℕ) → Enters old node Skipped new → Readies none_changed old new
skips_readies old new node enters = readies_more (LostAt node Skipped) none_changed old new (λ link lost. lost.1) (enters_readies old new node Skipped enters)

pub opens_readies : (old new : RunView) (node : ℕ) (outputs : Outputs) → Makes old node Open outputs new → Readies none_changed old new
opens_readies old new node outputs makes = readies_more (LostAt node (Made Open outputs)) none_changed old new (λ link lost. lost.1) (enters_readies old new node (Made Open outputs) makes)

-- these connections of a node
abbrev pub IsAt : ℕ → List Conn → Link → Type 0
IsAt node conns link = (link.node ≡ node) × Contains conns link.conn

pub closes_readies : (old new : RunView) (node : ℕ) (conns : List Conn) → Closes old node conns new → Readies (IsAt node conns) old new
closes_readies old new node [] same = subst (Readies (IsAt node []) old) (sym same) (readies_all (IsAt node []) old)
closes_readies old new node (conn ∷ conns) closes =
    readies_further (IsAt node (conn ∷ conns)) old closes.0 new
    (readies_more (LostAt node (Made (Close conn) closes.1)) (IsAt node (conn ∷ conns)) old closes.0
    (λ link lost. (lost.0, subst (Contains (conn ∷ conns)) (sym lost.1) (contains_first conn conns))) (enters_readies old closes.0 node (Made (Close conn) closes.1) closes.2))
    (readies_more (IsAt node conns) (IsAt node (conn ∷ conns)) closes.0 new (λ link at. (at.0, contains_more conn link.conn conns at.1)) (closes_readies closes.0 new node conns closes.3))

-- a connection that was ready isn't one that a step freed
pub none_is_freed : (old new : RunView) (node : ℕ) (event : Event) (outputs : Outputs) → Makes old node event outputs new → (link : Link) → IsReady old link → IsAt node (released_conns outputs.released) link → ⊥
none_is_freed old new node event outputs makes link ready (same, among) =
    let step = makes.enters.step in
    let was : may_ask_in (Some step.before) link.conn ≡ true = ap (λ (s : Option NodeState). may_ask_in s link.conn) (sym (before_is old new node (Made event outputs) makes link.node same)) ∙ ready in
    let found = from_map (λ (release : Release). release.conn) outputs.released link.conn among in
    let waited : may_ask_in (Some step.before) link.conn ≡ false =
    ap (λ (conn : Conn). may_at step.before.connections conn) (sym found.2) ∙ (step_ready makes.enters.ticket step.before step.after event outputs step.leads.1).freed found.0 found.1 in
    true≢false (sym was ∙ waited)

-- so it stays ready where those that were freed are closed
pub freed_readies : (old mid new : RunView) (node : ℕ) (event : Event) (outputs : Outputs) → Makes old node event outputs mid → Closes mid node (released_conns outputs.released) new
    → Readies (LostAt node (Made event outputs)) old new
freed_readies old mid new node event outputs makes closes link ready =
    elim (enters_readies old mid node (Made event outputs) makes link ready) [
      | inr lost ↦ inr lost
      | inl still ↦
          elim (closes_readies mid new node (released_conns outputs.released) closes link still) [
            | inl ready_then ↦ inl ready_then
            | inr freed ↦ absurd (none_is_freed old mid node event outputs makes link ready freed)
          ]
    ]

-- ---- steps for which no connection asks

turn_readies : (old new : RunView) (node : ℕ) (event : Event) (outputs : List Output) → IsUnasked event → Turns old node event outputs new → Readies none_changed old new
turn_readies old new node Open outputs unasked turns = absurd unasked
turn_readies old new node (Close conn) outputs unasked turns = absurd unasked
turn_readies old new node (Request conn words) outputs unasked turns = absurd unasked
turn_readies old new node (Deliver message) outputs unasked turns =
    readies_more _ none_changed old new (λ link lost. lost.1) (freed_readies old turns.after new node (Deliver message) turns.made turns.makes turns.closes)
turn_readies old new node Tick outputs unasked turns =
    readies_more _ none_changed old new (λ link lost. lost.1) (freed_readies old turns.after new node Tick turns.made turns.makes turns.closes)

reach_readies : (old new : RunView) (node : ℕ) (event : Event) (outputs : List Output) → IsUnasked event → Reaches old node event outputs new → Readies none_changed old new
reach_readies old new node event outputs unasked (inl turns) = turn_readies old new node event outputs unasked turns
reach_readies old new node event outputs unasked (inr passed) = skips_readies old new node passed.skips.enters

-- nobody knew the connection
abbrev pub Unknown : RunView → Link → Type 0
Unknown run link = IsKnown run link → ⊥

idle_readies : (old new : RunView) (outputs : List Output) → IsIdle old outputs new → Readies (Unknown old) old new
idle_readies old new outputs idle = subst (Readies (Unknown old) old) (sym idle.unchanged) (readies_all (Unknown old) old)

pub ticks_readies : (old new : RunView) (node : ℕ) (outputs : List Output) → Ticks old node outputs new → Readies (Unknown old) old new
ticks_readies old new node outputs = by_up (is_up old node)
  where
    by_up : (up : Bool) → MatchBool up (Reaches old node Tick outputs new) (IsIdle old outputs new) → Readies (Unknown old) old new
    by_up true reaches = readies_none (Unknown old) old new (reach_readies old new node Tick outputs tt reaches)
    by_up false idle = idle_readies old new outputs idle

pub delivers_readies : (old new : RunView) (number : ℕ) (outputs : List Output) → Delivers old number outputs new → Readies (Unknown old) old new
delivers_readies old new number outputs = by_message (message_at old.sent number)
  where
    by_up : (message : Message) (up : Bool) → MatchBool up (Reaches old message.to (Deliver message) outputs new) (IsIdle old outputs new) → Readies (Unknown old) old new
    by_up message true reaches = readies_none (Unknown old) old new (reach_readies old new message.to (Deliver message) outputs tt reaches)
    by_up message false idle = idle_readies old new outputs idle

    by_message : (message : Option Message) → IsDelivered old message outputs new → Readies (Unknown old) old new
    by_message None idle = idle_readies old new outputs idle
    by_message (Some message) delivered = by_up message (is_up old message.to) delivered

-- ---- requests of an administrator

answered_is_own : (conn other : Conn) (response : Response) → Contains (answered_conn conn response) other → other ≡ conn
answered_is_own conn other (Replied answer) among = sym (contains_one conn other among)
answered_is_own conn other Nothing among = absurd (contains_nothing other among)
answered_is_own conn other (Opened new) among = absurd (contains_nothing other among)
answered_is_own conn other Parked among = absurd (contains_nothing other among)

module _ (old new : RunView) (node : ℕ) (words : List (List ℕ)) (outputs : List Output) (asked : IsAsked old node words outputs new) where
  abbrev own : Link
  own = record { node = node; conn = asked.conn }

  own_is : (link : Link) → link.node ≡ node → link.conn ≡ asked.conn → Unknown old link
  own_is link same conn =
      subst (Unknown old) (λ i. record { node = sym same i; conn = sym conn i }) (opened_is_fresh old asked.opened node asked.conn asked.opening asked.opens asked.named).unknown

  heard_readies : IsHeard asked.opened node asked.conn words outputs new → Readies (Unknown old) asked.opened new
  heard_readies (inl turns) link ready =
      elim (enters_readies asked.opened turns.after node (Made (Request asked.conn words) turns.made) turns.makes link ready) [
        | inr lost ↦ inr (own_is link lost.0 lost.1.0)
        | inl still ↦
            elim (closes_readies turns.after new node (served_conns (Request asked.conn words) turns.made) turns.closes link still) [
              | inl ready_then ↦ inl ready_then
              | inr closed ↦
                  elim (Contains-append_cases (answered_conn asked.conn turns.made.response) (released_conns turns.made.released) link.conn closed.1) [
                    | inl answered ↦ inr (own_is link closed.0 (answered_is_own asked.conn link.conn turns.made.response answered))
                    | inr freed ↦ absurd (none_is_freed asked.opened turns.after node (Request asked.conn words) turns.made turns.makes link ready (closed.0, freed))
                  ]
            ]
      ]
  heard_readies (inr refused) link ready =
      elim (skips_readies asked.opened refused.after node refused.skips.enters link ready) [
        | inr none ↦ absurd none
        | inl still ↦
            elim (closes_readies refused.after new node (asked.conn ∷ []) refused.closes link still) [
              | inl ready_then ↦ inl ready_then
              | inr closed ↦ inr (own_is link closed.0 (sym (contains_one asked.conn link.conn closed.1)))
            ]
      ]

  asked_readies : Readies (Unknown old) old new
  asked_readies =
      readies_further (Unknown old) old asked.opened new (readies_none (Unknown old) old asked.opened (opens_readies old asked.opened node asked.opening asked.opens)) (heard_readies asked.hears)

pub administers_readies : (old new : RunView) (node : ℕ) (words : List (List ℕ)) (outputs : List Output) → Administers old node words outputs new → Readies (Unknown old) old new
administers_readies old new node words outputs = by_may _
  where
    administered : IsAdministered old node words outputs new → Readies (Unknown old) old new
    administered (inl asked) = asked_readies old new node words outputs asked
    administered (inr away) = readies_none (Unknown old) old new (skips_readies old new node away.skips.enters)

    by_may : (may : Bool) → MatchBool may (IsAdministered old node words outputs new) (IsIdle old outputs new) → Readies (Unknown old) old new
    by_may true made = administered made
    by_may false idle = idle_readies old new outputs idle

-- ---- requests of a client

-- where no reply comes, the connection of the request is lost
abbrev pub LosesOwn : Link → Option Reply → Link → Type 0
LosesOwn own reply link = (link ≡ own) × (reply ≡ None)

no_reply_in : (response : Response) → (HasReply response → ⊥) → reply_in response ≡ None
no_reply_in (Replied answer) none = absurd (none tt)
no_reply_in Nothing none = refl
no_reply_in (Opened conn) none = refl
no_reply_in Parked none = refl

pub serves_readies : (old new : RunView) (node : ℕ) (conn : Conn) (words : List (List ℕ)) (reply : Option Reply) (outputs : List Output) → Serves old node conn words reply outputs new
    → Readies (LosesOwn (record { node = node; conn = conn }) reply) old new
serves_readies old new node conn words reply outputs (inl served) =
    readies_more _ _ old new
    (λ link lost. ((λ i. record { node = lost.0 i; conn = lost.1.0 i }), served.replies ∙ no_reply_in served.made.response lost.1.1))
    (freed_readies old served.after new node (Request conn words) served.made served.makes served.closes)
serves_readies old new node conn words reply outputs (inr skipped) = readies_none _ old new (skips_readies old new node skipped.skips.enters)

-- ---- connections that are opened and closed

pub shut_readies : (old new : RunView) (link : Link) → IsShut old link new → Readies (λ other. other ≡ link) old new
shut_readies old new link = by_up (is_up old link.node)
  where
    by_up : (up : Bool) → MatchBool up (Closes old link.node (link.conn ∷ []) new) (new ≡ old) → Readies (λ other. other ≡ link) old new
    by_up true closes =
        readies_more _ _ old new (λ other at. let conns : link.conn ≡ other.conn = contains_one link.conn other.conn at.1 in λ i. record { node = at.0 i; conn = sym conns i })
        (closes_readies old new link.node (link.conn ∷ []) closes)
    by_up false same = subst (Readies (λ other. other ≡ link) old) (sym same) (readies_all _ old)

-- a connection that was opened is ready
same_opened : {one other : Conn} → Opened one ≡ Opened other → one ≡ other
same_opened same = cc

pub opened_is_ready : (old new : RunView) (node : ℕ) (conn : Conn) (outputs : Outputs) → Makes old node Open outputs new → outputs.response ≡ Opened conn → IsReady new (record { node = node; conn = conn })
opened_is_ready old new node conn outputs makes names =
    let step = makes.enters.step in
    let made : NodeStep makes.enters.ticket step.before Open outputs step.after = step.leads.1 in
    let may : IsOpening step.before made.outcome = made.may_come in
    let response : made.outcome.response ≡ Opened conn = sym (ap (λ (o : Outputs). o.response) made.outputs_are) ∙ names in
    let same : may.conn ≡ conn = same_opened (ap (λ (o : Outcome). o.response) (sym may.comes_to) ∙ response) in
    ap (λ (s : Option NodeState). may_ask_in s conn) (after_is old new node (Made Open outputs) makes node refl)
    ∙ ap (λ (node : NodeState). may_at node.connections conn) made.state
    ∙ ap (may_at made.outcome.state.connections) (sym same)
    ∙ newly_may step.before.connections made.outcome.state.connections may.conn may.opens

-- ---- a client's request is answered

reply_then : (response : Response) (answer : Answer) → response ≡ Replied answer → reply_in response ≡ None → ⊥
reply_then response answer is none = some_is_none (sym (ap reply_in is) ∙ none)
  where
    some_is_none : {reply : Reply} → ◌≡◌ {A = Option Reply} (Some reply) None → ⊥
    some_is_none same = cc

pub is_answered : (old new : RunView) (link : Link) (words : List (List ℕ)) (reply : Option Reply) (outputs : List Output) → MayArrive old link words → Serves old link.node link.conn words reply outputs new
    → reply ≡ None → ⊥
is_answered old new link words reply outputs may (inl served) none =
    let step = served.makes.enters.step in
    let deed : Deed = Made (Request link.conn words) served.made in
    let asks : may_ask_in (Some step.before) link.conn ≡ true = ap (λ (s : Option NodeState). may_ask_in s link.conn) (sym (before_is old served.after link.node deed served.makes link.node refl)) ∙ may.ready in
    let answer = client_is_answered served.makes.enters.ticket step.before step.after link.conn words served.made step.leads.1 asks may.of_client in
    reply_then served.made.response answer.0 answer.1 (sym served.replies ∙ none)
is_answered old new link words reply outputs may (inr skipped) none = cc (skipped.replies, none)

pub arriving_may_be_taken : (run : RunView) (link : Link) (words : List (List ℕ)) → MayArrive run link words → MayTake run link.node (Request link.conn words)
arriving_may_be_taken run link words may = may.allowed

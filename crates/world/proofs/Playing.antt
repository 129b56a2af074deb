-- Each step of a client is such that it goes on asking well.
use Rattle.std.proofs.Common.{◌≡◌, ◌≢◌, ◌⊎◌, ◌∙◌, ℕ, Bool, true, false, true≢false, cond, List, [], ◌∷◌, ◌++◌, Contains, Option, None, Some, Err, refl, sym, ap, subst, inl, inr}
use Rattle.std.proofs.lemmas.Bool.{eq-eqb, eqb-true, ne_eqb}
use Rattle.std.proofs.lemmas.List.Elements.{Contains-append_cases}
use Rattle.std.specs.Prelude.{IfSome, MatchBool, filter, slice_set}
use Rattle.cluster_config.specs.Config.{ClusterConfig, IsCluster}
use Rattle.cluster_config.specs.declared.config.NodeConfig.{NodeConfig}
use Rattle.resp_values.specs.declared.reply.Reply.{Reply}
use Rattle.single_keyspace.proofs.Lists.{contains_first, contains_more, contains_one, first_or_more}
use Rattle.redirect.specs.declared.asked.Asking.TheVariants.{No}
use Rattle.smart_client.specs.State.{ClientState}
use Rattle.smart_client.specs.Step.{Answer, without_call}
use Rattle.smart_client.specs.declared.action.Event.TheVariants as happened
use Rattle.smart_client.specs.declared.call.Call.{Call}
use Rattle.world_nodes.specs.Allowed.{IsAllowed, IsTold, asking_at, past_of}
use Rattle.world_nodes.specs.Nodes.{HaveConfig, IsRunOf, RunView, is_up}
use Rattle.world_nodes.specs.Serving.{Serves}
use Rattle.world_nodes.specs.declared.link.Link.{Link}
use Rattle.world_nodes.specs.declared.output.Output.{Output}
use Rattle.world_nodes.proofs.Leaving.{Leaves, closed_is_calm, closes_leaves, leaves_all, leaves_further, leaves_more, leaves_none, none_changed}
use Rattle.world.specs.Asking.{AreConnected, AreReady, AsksWell, Holds, IsCutOff, IsInPool, IsOfCall, MayBeCarried, MayComeLate, MayLinger}
use Rattle.world.specs.Calls.{Arrives, Begins, Carries, ComesLate, Cuts, IsBegun, IsCarried, IsCut, IsLate, IsReturned, IsShut, Lingers, Rests, Returns, Takes}
use Rattle.world.specs.Clients.{ClientView, broken_off, fault_of, is_elsewhere, leads_to, stopped_at, used_by, without_late}
use Rattle.world.specs.declared.client.Late.{Late}
use Rattle.world.specs.declared.client.Traffic.{Traffic}
use Rattle.world.specs.declared.client.Traffic.TheVariants.{Quiet, Asked, Answered}
use Rattle.world.proofs.Parts.{Part, IsAmong, acts_none, acts_some, given_up, quiet_asks, still_held}
use Rattle.world.proofs.Requests.{AskedOn, comes_so, replied_so, sent_is_allowed, serves_leaves, words_of_client}
use Rattle.world.proofs.Stays.{allowed_stays, connected_stays, in_pool_before, leads_elsewhere, no_stays, of_call_stays, under_way_stays, with_fewer, without}
use Rattle.world.proofs.Told.{answers_well, begins_well}

-- a client's part: only its own connections are others than before, or allow more
abbrev pub PartOf : List NodeConfig → RunView → ClientView → RunView → ClientView → Type 0
PartOf nodes old client new after = Part (Holds client) nodes old client.pool client.late new after

quietly : (nodes : List NodeConfig) (old new : RunView) (client after : ClientView) → Part none_changed nodes old client.pool client.late new after → PartOf nodes old client new after
quietly nodes old new client after part = record { leaves = leaves_none (Holds client) old new part.leaves; asks = part.asks; holds = part.holds }

rests : (nodes : List NodeConfig) (old new : RunView) (client after : ClientView) (outputs : List Output) → AsksWell nodes old client → Rests old client outputs new after → PartOf nodes old client new after
rests nodes old new client after outputs asks rested =
    subst (λ (run : RunView). PartOf nodes old client run after) (sym rested.run)
    (subst (PartOf nodes old client old) (sym rested.same)
    (record { leaves = leaves_all (Holds client) old; asks = asks; holds = λ link held. inl held }))

-- what is in use, by what is under way
used_so : (nodes : List NodeConfig) (run : RunView) (client : ClientView) (traffic : Traffic) → client.traffic ≡ traffic → AsksWell nodes run client → AreConnected run client.pool client.late (used_by traffic)
used_so nodes run client traffic is asks = subst (λ (t : Traffic). AreConnected run client.pool client.late (used_by t)) is asks.connected

pub of_call_so : (nodes : List NodeConfig) (run : RunView) (client : ClientView) (traffic : Traffic) → client.traffic ≡ traffic → AsksWell nodes run client
    → (under : Option Call) → client.core.call ≡ under → IsOfCall nodes run client.core client.pool traffic under
of_call_so nodes run client traffic is asks under called =
    subst (IsOfCall nodes run client.core client.pool traffic) called (subst (λ (t : Traffic). IsOfCall nodes run client.core client.pool t client.core.call) is asks.call)

ended_so : (core : ClientState) (answer : Answer) (under : Option Call) (lost : Bool) → core.call ≡ under → (without_call under core lost).call ≡ None
ended_so core answer None lost is = is
ended_so core answer (Some call) lost is = refl

-- a call whose connection broke is over
broken_is_over : (node : ℕ) (client : ClientView) → (broken_off node client).core.call ≡ None
broken_is_over node client = ended_so client.core (Err (fault_of client.core.call)) client.core.call _ refl

-- ---- a call begins

pub begins_well_so : (nodes : List NodeConfig) (old new : RunView) (client after : ClientView) (words : List (List ℕ)) (outputs : List Output) → AsksWell nodes old client
    → Begins nodes words old client outputs new after → PartOf nodes old client new after
begins_well_so nodes old new client after words outputs asks = by_traffic client.traffic refl
  where
    by_traffic : (traffic : Traffic) → client.traffic ≡ traffic → IsBegun nodes old client traffic words outputs new after → PartOf nodes old client new after
    by_traffic Quiet is takes =
        let none : client.core.call ≡ None = of_call_so nodes old client Quiet is asks client.core.call refl in
        let may = begins_well nodes (past_of old) 0 client.core takes.core words takes.action none takes.steps in
        quietly nodes old new client after
        (acts_none nodes old (record client { core = takes.core }) is 0 takes.action outputs new after (used_so nodes old client Quiet is asks) may takes.acts)
    by_traffic (Asked link sent) is rested = rests nodes old new client after outputs asks rested
    by_traffic (Answered link reply) is rested = rests nodes old new client after outputs asks rested

-- ---- a reply comes

pub returns_well : (nodes : List NodeConfig) (old new : RunView) (client after : ClientView) (outputs : List Output) → AsksWell nodes old client → Returns nodes old client outputs new after
    → PartOf nodes old client new after
returns_well nodes old new client after outputs asks = by_traffic client.traffic refl
  where
    takes_reply : (link : Link) (reply : Reply) (under : Option Call) → client.core.call ≡ under → AreConnected old client.pool client.late (Some link)
        → IsOfCall nodes old client.core client.pool (Answered link reply) under → Takes nodes old (record client { traffic = Quiet }) (Some link) (happened.Reply reply) outputs new after
        → PartOf nodes old client new after
    takes_reply link reply None is connected of_call takes = absurd of_call
    takes_reply link reply (Some call) is connected (under_way, replied, comes) takes =
        let may = answers_well nodes (past_of old) link.node (asking_at old link) client.core takes.core call reply takes.action is under_way.called under_way.there replied takes.steps in
        quietly nodes old new client after
        (acts_some nodes old (record client { traffic = Quiet; core = takes.core }) refl link takes.action outputs new after connected under_way.in_use may takes.acts)

    by_traffic : (traffic : Traffic) → client.traffic ≡ traffic → IsReturned nodes old client traffic outputs new after → PartOf nodes old client new after
    by_traffic (Answered link reply) is takes =
        takes_reply link reply client.core.call refl (used_so nodes old client (Answered link reply) is asks) (of_call_so nodes old client (Answered link reply) is asks client.core.call refl) takes
    by_traffic Quiet is rested = rests nodes old new client after outputs asks rested
    by_traffic (Asked link words) is rested = rests nodes old new client after outputs asks rested

-- ---- a request reaches its node

module _ (config : ClusterConfig) (cluster_is : IsCluster config) (old new : RunView) (have : HaveConfig config old.nodes) (run_of : IsRunOf config old) (client after : ClientView) (link : Link) (words : List (List ℕ))
    (connected : AreConnected old client.pool client.late (Some link)) where
  abbrev Ask : Link → Type 0
  Ask = AskedOn link words

  not_asked : (in_use : IsInPool client.pool link) (leaves : Leaves Ask old new) → AreConnected new client.pool client.late (Some link)
  not_asked in_use leaves =
      connected_stays Ask old new leaves client.pool client.late (Some link)
      (λ other is unused asked. true≢false (sym (eq-eqb link.node other.node (ap (λ (l : Link). l.node) (sym asked.0))) ∙ unused))
      (λ request among asked. connected.apart link in_use (request, among, asked.0)) connected

  own : (in_use : IsInPool client.pool link) (other : Link) → Ask other → Holds client other
  own in_use other asked = inl (subst (IsInPool client.pool) (sym asked.0) in_use)

  arrives_so : (under : Option Call) → client.core.call ≡ under → IsOfCall config.nodes old client.core client.pool (Asked link words) under → (reply : Reply) (outputs : List Output)
      → Serves old link.node link.conn words (Some reply) outputs new → after ≡ record client { traffic = Answered link reply } → PartOf config.nodes old client new after
  arrives_so None is of_call reply outputs serves left = absurd of_call
  arrives_so (Some call) is (under_way, sent) reply outputs serves left =
      let leaves : Leaves Ask old new = serves_leaves old new link.node link.conn words (Some reply) outputs serves in
      let answers = replied_so config cluster_is old have run_of link.node link.conn words reply outputs new call call.stage under_way.called.plain under_way.called.number sent serves in
      let comes = comes_so config cluster_is old have run_of link.node link.conn words reply outputs new call call.stage under_way.called.plain under_way.called.number sent serves in
      let of_call : IsOfCall config.nodes new client.core client.pool (Answered link reply) client.core.call =
      subst (IsOfCall config.nodes new client.core client.pool (Answered link reply)) (sym is)
      (under_way_stays Ask old new leaves config.nodes client.core client.pool link call under_way, answers, comes) in
      subst (PartOf config.nodes old client new) (sym left)
      (record {
        leaves = leaves_more Ask (Holds client) old new (own under_way.in_use) leaves;
        asks = record { connected = not_asked under_way.in_use leaves; call = of_call };
        holds = λ other held. inl held;
      })

pub carries_well : (config : ClusterConfig) → IsCluster config → (old new : RunView) → HaveConfig config old.nodes → IsRunOf config old → (client after : ClientView) (outputs : List Output) → AsksWell config.nodes old client
    → Carries old client outputs new after → PartOf config.nodes old client new after
carries_well config cluster_is old new have run_of client after outputs asks = by_traffic client.traffic refl
  where
    by_up : (link : Link) (words : List (List ℕ)) → client.traffic ≡ Asked link words → (up : Bool) → MatchBool up (Arrives old client link words outputs new after) (Rests old client outputs new after)
        → PartOf config.nodes old client new after
    by_up link words is true arrives =
        arrives_so config cluster_is old new have run_of client after link words (used_so config.nodes old client (Asked link words) is asks) client.core.call refl
        (of_call_so config.nodes old client (Asked link words) is asks client.core.call refl) arrives.reply outputs arrives.serves arrives.left
    by_up link words is false rested = rests config.nodes old new client after outputs asks rested

    by_traffic : (traffic : Traffic) → client.traffic ≡ traffic → IsCarried old client traffic outputs new after → PartOf config.nodes old client new after
    by_traffic (Asked link words) is carried = by_up link words is (is_up old link.node) carried
    by_traffic Quiet is rested = rests config.nodes old new client after outputs asks rested
    by_traffic (Answered link reply) is rested = rests config.nodes old new client after outputs asks rested

-- ---- a connection is cut

module _ (nodes : List NodeConfig) (old : RunView) (client : ClientView) (link : Link) (words : List (List ℕ)) (connected : AreConnected old client.pool client.late (Some link)) (in_use : IsInPool client.pool link)
    (allowed : IsAllowed (past_of old) words link.node (asking_at old link)) where
  abbrev request : Late
  request = record { link = link; words = words }

  abbrev one_more : List Late
  one_more = client.late ++ request ∷ []

  late_or_new : (other : Late) → Contains one_more other → Contains client.late other ⊎ (request ≡ other)
  late_or_new other among =
      elim (Contains-append_cases client.late (request ∷ []) other among) [
        | inl before ↦ inl before
        | inr last ↦ inr (contains_one request other last)
      ]

  cut_off : AreConnected old (slice_set client.pool link.node None) one_more None
  cut_off =
      let left = without old client.pool client.late (Some link) link.node (λ other apart. leads_elsewhere other link apart) connected in
      record {
        places = left.places;
        idle = left.idle;
        left = λ other among.
            elim (late_or_new other among) [
              | inl before ↦ connected.left other before
              | inr same ↦ subst (MayComeLate old) same (record { known = (connected.idle link in_use).known; allowed = allowed })
            ];
        apart = λ other is cut.
            elim (late_or_new cut.0 cut.1) [
              | inl before ↦ left.apart other is (cut.0, before, cut.2)
              | inr same ↦ (in_pool_before old client.pool client.late link.node other is).0 (ap (λ (l : Link). l.node) (sym cut.2 ∙ ap (λ (late : Late). late.link) (sym same)))
            ];
      }

  cut_held : (other : Link) → IsAmong (slice_set client.pool link.node None) one_more other → IsAmong client.pool client.late other
  cut_held other (inl is) = inl (in_pool_before old client.pool client.late link.node other is).1
  cut_held other (inr cut) =
      elim (late_or_new cut.0 cut.1) [
        | inl before ↦ inr (cut.0, before, cut.2)
        | inr same ↦ inl (subst (IsInPool client.pool) (ap (λ (late : Late). late.link) same ∙ cut.2) in_use)
      ]

pub cuts_well : (nodes : List NodeConfig) (old new : RunView) (client after : ClientView) (outputs : List Output) → AsksWell nodes old client → Cuts old client outputs new after
    → PartOf nodes old client new after
cuts_well nodes old new client after outputs asks = by_traffic client.traffic refl
  where
    asked_so : (link : Link) (words : List (List ℕ)) (under : Option Call) → AreConnected old client.pool client.late (Some link) → IsOfCall nodes old client.core client.pool (Asked link words) under
        → IsCut old client (Asked link words) outputs new after → PartOf nodes old client new after
    asked_so link words None connected of_call cut = absurd of_call
    asked_so link words (Some call) connected (under_way, sent) cut =
        let told : IfSome call.asking (IsTold (past_of old) call.words link.node) = subst (λ (node : ℕ). IfSome call.asking (IsTold (past_of old) call.words node)) (sym under_way.there) under_way.called.told in
        let allowed : IsAllowed (past_of old) words link.node (asking_at old link) = sent_is_allowed (past_of old) words link.node call call.stage (asking_at old link) told sent in
        subst (λ (run : RunView). PartOf nodes old client run after) (sym cut.0)
        (subst (PartOf nodes old client old) (sym cut.1)
        (record {
          leaves = leaves_all (Holds client) old;
          asks = quiet_asks nodes old (record (broken_off link.node client) { late = client.late ++ (record { link = link; words = words }) ∷ [] }) refl (broken_is_over link.node client)
              (cut_off nodes old client link words connected under_way.in_use allowed);
          holds = λ other held. inl (cut_held nodes old client link words connected under_way.in_use allowed other held);
        }))

    answered_so : (link : Link) → AreConnected old client.pool client.late (Some link) → IsShut old link new → after ≡ broken_off link.node client → PartOf nodes old client new after
    answered_so link connected shut is =
        let left = given_up old new client.pool client.late link shut connected in
        subst (PartOf nodes old client new) (sym is)
        (record {
          leaves = leaves_none (Holds client) old new left.0;
          asks = quiet_asks nodes new (broken_off link.node client) refl (broken_is_over link.node client) left.1;
          holds = λ other held. inl (still_held client.pool client.late link.node old other held);
        })

    by_traffic : (traffic : Traffic) → client.traffic ≡ traffic → IsCut old client traffic outputs new after → PartOf nodes old client new after
    by_traffic Quiet is rested = rests nodes old new client after outputs asks rested
    by_traffic (Asked link words) is cut =
        asked_so link words client.core.call (used_so nodes old client (Asked link words) is asks) (of_call_so nodes old client (Asked link words) is asks client.core.call refl) cut
    by_traffic (Answered link reply) is cut = answered_so link (used_so nodes old client (Answered link reply) is asks) cut.0 cut.1

-- ---- a late request comes

module _ (nodes : List NodeConfig) (old new : RunView) (client after : ClientView) (late : Late) (others : List Late) (outputs : List Output) (all : client.late ≡ late ∷ others) (asks : AsksWell nodes old client)
    (comes : ComesLate old client late others outputs new after) where
  abbrev Lately : Link → Type 0
  Lately = AskedOn late.link late.words

  connected_so : AreConnected old client.pool (late ∷ others) (used_by client.traffic)
  connected_so = subst (λ (list : List Late). AreConnected old client.pool list (used_by client.traffic)) all asks.connected

  comes_leaves : Leaves Lately old new
  comes_leaves =
      leaves_further Lately old comes.serves.run new (serves_leaves old comes.serves.run late.link.node late.link.conn late.words comes.serves.reply outputs comes.serves.serves)
      (leaves_none Lately comes.serves.run new (closes_leaves comes.serves.run new late.link.node (late.link.conn ∷ []) comes.serves.closes))

  closed : asking_at new late.link ≡ No
  closed = closed_is_calm comes.serves.run new late.link.node late.link.conn comes.serves.closes

  not_in_pool : (link : Link) → IsInPool client.pool link → Lately link → ⊥
  not_in_pool link is asked = connected_so.apart link is (late, contains_first late others, sym asked.0)

  connected_then : AreConnected new client.pool others (used_by client.traffic)
  connected_then = record {
    places = connected_so.places ∙ sym comes_leaves.nodes;
    idle = λ link is.
        let was = connected_so.idle link is in
        record {
          known = comes_leaves.known link was.known;
          calm = λ unused.
              elim (comes_leaves.calm link) [
                | inl calm ↦ no_stays (asking_at old link) (asking_at new link) calm (was.calm unused)
                | inr asked ↦ absurd (not_in_pool link is asked)
              ];
        };
    left = λ request among.
        let was = connected_so.left request (contains_more late request others among) in
        record {
          known = comes_leaves.known request.link was.known;
          allowed = elim (comes_leaves.calm request.link) [
            | inl calm ↦ allowed_stays (past_of old) (past_of new) comes_leaves.told request.words request.link.node (asking_at old request.link) (asking_at new request.link) calm was.allowed
            | inr asked ↦
                subst (IsAllowed (past_of new) request.words request.link.node) (sym (ap (asking_at new) asked.0 ∙ closed)) tt
          ];
        };
    apart = λ link is cut. connected_so.apart link is (cut.0, contains_more late cut.0 others cut.1, cut.2);
  }

  among_all : (request : Late) → Contains (late ∷ others) request → Contains client.late request
  among_all request among = subst (λ (list : List Late). Contains list request) (sym all) among

  comes_well : PartOf nodes old client new after
  comes_well =
      subst (PartOf nodes old client new) (sym comes.left)
      (record {
        leaves = leaves_more Lately (Holds client) old new (λ link asked. inr (late, among_all late (contains_first late others), sym asked.0)) comes_leaves;
        asks = record {
          connected = connected_then;
          call = of_call_stays Lately old new comes_leaves nodes client.core client.pool not_in_pool client.traffic client.core.call asks.call;
        };
        holds = λ link held.
            elim held [
              | inl is ↦ inl (inl is)
              | inr cut ↦ inl (inr (cut.0, among_all cut.0 (contains_more late cut.0 others cut.1), cut.2))
            ];
      })

pub lingers_well : (nodes : List NodeConfig) (old new : RunView) (client after : ClientView) (outputs : List Output) → AsksWell nodes old client → Lingers old client outputs new after
    → PartOf nodes old client new after
lingers_well nodes old new client after outputs asks = by_late client.late refl
  where
    by_up : (late : Late) (others : List Late) → client.late ≡ late ∷ others → (up : Bool) → MatchBool up (ComesLate old client late others outputs new after) (Rests old client outputs new after)
        → PartOf nodes old client new after
    by_up late others all true comes = comes_well nodes old new client after late others outputs all asks comes
    by_up late others all false rested = rests nodes old new client after outputs asks rested

    by_late : (list : List Late) → client.late ≡ list → IsLate old client list outputs new after → PartOf nodes old client new after
    by_late [] all rested = rests nodes old new client after outputs asks rested
    by_late (late ∷ others) all comes = by_up late others all (is_up old late.link.node) comes

-- ---- what a client asks may come to its node

pub carried_if_asked : (nodes : List NodeConfig) (run : RunView) (client : ClientView) → AsksWell nodes run client → AreReady run client.pool → MayBeCarried run client.traffic
carried_if_asked nodes run client asks ready = by_traffic client.traffic client.core.call asks.call
  where
    by_traffic : (traffic : Traffic) (under : Option Call) → IsOfCall nodes run client.core client.pool traffic under → MayBeCarried run traffic
    by_traffic Quiet under is = tt
    by_traffic (Asked link words) None is = absurd is
    by_traffic (Asked link words) (Some call) (under_way, sent) =
        let told : IfSome call.asking (IsTold (past_of run) call.words link.node) =
        subst (λ (node : ℕ). IfSome call.asking (IsTold (past_of run) call.words node)) (sym under_way.there) under_way.called.told in
        record {
          allowed = sent_is_allowed (past_of run) words link.node call call.stage (asking_at run link) told sent;
          ready = ready link under_way.in_use;
          of_client = words_of_client call call.stage words (asking_at run link) under_way.called.plain sent;
        }
    by_traffic (Answered link reply) under is = tt

pub lingers_if_left : (nodes : List NodeConfig) (run : RunView) (client : ClientView) → AsksWell nodes run client → MayLinger run client.late
lingers_if_left nodes run client asks = by_late client.late refl
  where
    by_late : (list : List Late) → client.late ≡ list → MayLinger run list
    by_late [] all = tt
    by_late (late ∷ others) all =
        (asks.connected.left late (subst (λ (list : List Late). Contains list late) (sym all) (contains_first late others))).allowed

-- ---- a node stops

filtered : {A : Type 0} (test : A → Bool) (xs : List A) (x : A) → Contains (filter test xs) x → Contains xs x
filtered test [] x among = among
filtered test (y ∷ xs) x among = by_test (filtered test xs x) (test y) among
  where
    by_test : (Contains (filter test xs) x → Contains xs x) → (passes : Bool) → Contains (cond passes (y ∷ filter test xs) (filter test xs)) x → Contains (y ∷ xs) x
    by_test further false rest = contains_more y x xs (further rest)
    by_test further true all =
        elim (first_or_more y x (filter test xs) all) [
          | inl same ↦ subst (Contains (y ∷ xs)) same (contains_first y xs)
          | inr more ↦ contains_more y x xs (further more)
        ]

module _ (nodes : List NodeConfig) (run : RunView) (client : ClientView) (node : ℕ) where
  fewer : AsksWell nodes run client → AsksWell nodes run (without_late node client)
  fewer asks = record {
    connected = with_fewer run client.pool client.late (filter (is_elsewhere node) client.late) (used_by client.traffic) (filtered (is_elsewhere node) client.late) asks.connected;
    call = asks.call;
  }

  elsewhere_unused : (used : Option Link) → leads_to node used ≡ true → (link : Link) → link.node ≢ node → leads_to link.node used ≡ false
  elsewhere_unused None leads link apart = refl
  elsewhere_unused (Some used) leads link apart = ne_eqb used.node link.node (λ (same : used.node ≡ link.node). apart (sym same ∙ eqb-true used.node node leads))

  pub stops_well : AsksWell nodes run client → AsksWell nodes run (stopped_at node client)
  stops_well asks = by_leads (leads_to node (used_by client.traffic)) refl
    where
      by_leads : (leads : Bool) → leads_to node (used_by client.traffic) ≡ leads → AsksWell nodes run (cond leads (broken_off node (without_late node client)) (without_late node client))
      by_leads false is = fewer asks
      by_leads true is =
          quiet_asks nodes run (broken_off node (without_late node client)) refl (broken_is_over node (without_late node client))
          (without run client.pool (filter (is_elsewhere node) client.late) (used_by client.traffic) node (elsewhere_unused (used_by client.traffic) is) (fewer asks).connected)

  cut_before : (link : Link) → IsCutOff (filter (is_elsewhere node) client.late) link → IsCutOff client.late link
  cut_before link cut = (cut.0, filtered (is_elsewhere node) client.late cut.0 cut.1, cut.2)

  pub stops_held : (link : Link) → Holds (stopped_at node client) link → Holds client link
  stops_held link = by_leads (leads_to node (used_by client.traffic))
    where
      by_leads : (leads : Bool) → Holds (cond leads (broken_off node (without_late node client)) (without_late node client)) link → Holds client link
      by_leads false (inl is) = inl is
      by_leads false (inr cut) = inr (cut_before link cut)
      by_leads true (inl is) = inl (in_pool_before run client.pool client.late node link is).1
      by_leads true (inr cut) = inr (cut_before link cut)

-- A client's part in a step: the connections that it keeps stay ready, and so do those of others.
use Rattle.std.proofs.Common.{◌≡◌, ◌⊎◌, ◌<◌, ◌∙◌, ℕ, Bool, true, false, List, [], ◌∷◌, Contains, cond, Option, Some, None, get_or, length, refl, sym, ap, subst, inl, inr, arith}
use Rattle.std.proofs.lemmas.Bool.{and_parts, cases_eq, ltb-true}
use Rattle.std.proofs.lemmas.List.{get_or-set_other, get_or-set_same}
use Rattle.std.specs.Prelude.{IfSome, MatchBool, slice_set}
use Rattle.cluster_config.specs.declared.config.NodeConfig.{NodeConfig}
use Rattle.connections.specs.declared.conn.Conn.{Conn}
use Rattle.node_step.specs.declared.event.Event.TheVariants.{Open}
use Rattle.node_step.specs.declared.outputs.Outputs.{Outputs}
use Rattle.node_step.specs.declared.response.Response.TheVariants.{Opened}
use Rattle.redirection.specs.Address.{Place}
use Rattle.resp_values.specs.declared.reply.Reply.{Reply}
use Rattle.single_keyspace.proofs.Lists.{contains_first, contains_one}
use Rattle.smart_client.specs.declared.action.Action.{Action}
use Rattle.smart_client.specs.declared.action.Action.TheVariants as wanted
use Rattle.smart_client.specs.declared.call.Call.{Call}
use Rattle.world_nodes.specs.Allowed.{IsReady}
use Rattle.world_nodes.specs.NodeSteps.{Makes}
use Rattle.world_nodes.specs.Nodes.{RunView, is_up}
use Rattle.world_nodes.specs.Serving.{IsOpened}
use Rattle.world_nodes.specs.declared.link.Link.{Link}
use Rattle.world_nodes.specs.declared.output.Output.{Output}
use Rattle.world_nodes.proofs.Leaving.{none_changed, opened_is_fresh}
use Rattle.world.specs.Asking.{AreReady, AsksWell, IsInPool, IsOfCall}
use Rattle.world.specs.Calls.{Acts, Arrives, Begins, Carries, ComesLate, Connects, Cuts, IsBegun, IsCarried, IsConnected, IsCut, IsLate, IsReturned, IsShut, IsUsed, Lingers, Rests, Returns, Tells, Uses, link_to, told_of}
use Rattle.world.specs.Clients.{ClientView, leads_to, node_at, stopped_at, used_by, with_connection, without_late, broken_off}
use Rattle.world.specs.declared.client.Late.{Late}
use Rattle.world.specs.declared.client.Traffic.{Traffic}
use Rattle.world.specs.declared.client.Traffic.TheVariants.{Quiet, Asked, Answered}
use Rattle.world.proofs.Parts.{IsAmong}
use Rattle.world.proofs.Playing.{of_call_so}
use Rattle.world.proofs.Pool.{put_again, put_is}
use Rattle.world.proofs.Readying.{LosesOwn, Readies, Unknown, closes_readies, opened_is_ready, opens_readies, readies_all, readies_further, readies_more, readies_none, serves_readies, shut_readies, skips_readies}
use Rattle.world.proofs.Stays.{in_pool_before}

-- what others keep stays ready, and what the client keeps then is ready
pub record ReadyPart (old : RunView) (pool : List (Option Conn)) (late : List Late) (new : RunView) (after : List (Option Conn)) : Type 0 where
  pub others : Readies (λ link. IsAmong pool late link ⊎ Unknown old link) old new
  pub own : AreReady new after

-- the same, where only what the client kept is lost
record UsedPart (old : RunView) (pool : List (Option Conn)) (new : RunView) (after : List (Option Conn)) : Type 0 where
  others : Readies (IsInPool pool) old new
  own : AreReady new after

unused_part : (run : RunView) (pool : List (Option Conn)) → AreReady run pool → UsedPart run pool run pool
unused_part run pool ready = record { others = readies_all (IsInPool pool) run; own = ready }

same_part : (run : RunView) (pool : List (Option Conn)) (late : List Late) → AreReady run pool → ReadyPart run pool late run pool
same_part run pool late ready = record { others = readies_all _ run; own = ready }

of_used : (old : RunView) (pool : List (Option Conn)) (late : List Late) (new : RunView) (after : List (Option Conn)) → UsedPart old pool new after → ReadyPart old pool late new after
of_used old pool late new after part = record { others = readies_more _ _ old new (λ link is. inl (inl is)) part.others; own = part.own }

-- what is kept behind one that is given up
fewer_ready : (run : RunView) (pool : List (Option Conn)) (late : List Late) (node : ℕ) → AreReady run pool → AreReady run (slice_set pool node None)
fewer_ready run pool late node ready link is = ready link (in_pool_before run pool late node link is).1

shut_part : (old new : RunView) (pool : List (Option Conn)) (late : List Late) (link : Link) → IsShut old link new → IsInPool pool link → AreReady old pool → UsedPart old pool new (slice_set pool link.node None)
shut_part old new pool late link shut there ready = record {
  others = readies_more _ _ old new (λ other same. subst (IsInPool pool) (sym same) there) (shut_readies old new link shut);
  own = λ other is.
      let before = in_pool_before old pool late link.node other is in
      elim (shut_readies old new link shut other (ready other before.1)) [
        | inl still ↦ still
        | inr same ↦ absurd (before.0 (ap (λ (l : Link). l.node) same))
      ];
}

-- ---- with the connection in use

uses_some_ready : (old : RunView) (client : ClientView) (link : Link) (action : Action) (outputs : List Output) (new : RunView) (after : ClientView) → IsInPool client.pool link → AreReady old client.pool
    → Uses old client (Some link) action outputs new after → UsedPart old client.pool new after.pool
uses_some_ready old client link (wanted.Connect address) outputs new after there ready uses = absurd uses
uses_some_ready old client link (wanted.Send words) outputs new after there ready uses =
    subst (λ (run : RunView). UsedPart old client.pool run after.pool) (sym uses.0)
    (subst (λ (c : ClientView). UsedPart old client.pool old c.pool) (sym uses.1) (unused_part old client.pool ready))
uses_some_ready old client link (wanted.Done answer true) outputs new after there ready uses =
    subst (λ (c : ClientView). UsedPart old client.pool new c.pool) (sym uses.0.1) (shut_part old new client.pool client.late link uses.0.0 there ready)
uses_some_ready old client link (wanted.Done answer false) outputs new after there ready uses =
    subst (λ (run : RunView). UsedPart old client.pool run after.pool) (sym uses.0.0)
    (subst (λ (c : ClientView). UsedPart old client.pool old c.pool) (sym uses.0.1) (unused_part old client.pool ready))

uses_none_ready : (old : RunView) (client : ClientView) (action : Action) (outputs : List Output) (new : RunView) (after : ClientView) → AreReady old client.pool
    → Uses old client None action outputs new after → UsedPart old client.pool new after.pool
uses_none_ready old client (wanted.Connect address) outputs new after ready uses = absurd uses
uses_none_ready old client (wanted.Send words) outputs new after ready uses = absurd uses
uses_none_ready old client (wanted.Done answer close) outputs new after ready uses =
    subst (λ (run : RunView). UsedPart old client.pool run after.pool) (sym uses.0.0)
    (subst (λ (c : ClientView). UsedPart old client.pool old c.pool) (sym uses.0.1) (unused_part old client.pool ready))

-- ---- a connection that is wanted

record LinkedPart (old : RunView) (pool : List (Option Conn)) (node : ℕ) (conn : Option Conn) (new : RunView) : Type 0 where
  others : Readies none_changed old new
  own : AreReady new (slice_set pool node conn)
  there : IfSome conn (λ one. IsInPool (slice_set pool node conn) (record { node = node; conn = one }))
  holds : (link : Link) → IsInPool (slice_set pool node conn) link → IsInPool pool link ⊎ Unknown old link

module _ (old : RunView) (pool : List (Option Conn)) (late : List Late) (ready : AreReady old pool) (node : ℕ) where
  unlinked : (new : RunView) → Readies none_changed old new → LinkedPart old pool node None new
  unlinked new readies = record {
    others = readies;
    own = λ link is.
        elim (readies link (fewer_ready old pool late node ready link is)) [
          | inl still ↦ still
          | inr none ↦ absurd none
        ];
    there = tt;
    holds = λ link is. inl (in_pool_before old pool late node link is).1;
  }

  kept_still : (one : Conn) → get_or pool node None ≡ Some one → LinkedPart old pool node (Some one) old
  kept_still one is =
      let again : slice_set pool node (Some one) ≡ pool = put_again pool node (Some one) is in
      record {
        others = readies_all none_changed old;
        own = subst (AreReady old) (sym again) ready;
        there = subst (λ (list : List (Option Conn)). IsInPool list (record { node = node; conn = one })) (sym again) is;
        holds = λ link there. inl (subst (λ (list : List (Option Conn)). IsInPool list link) again there);
      }

  newly_linked : (one : Conn) (outputs : Outputs) (new : RunView) → node < length pool → Makes old node Open outputs new → outputs.response ≡ Opened one → LinkedPart old pool node (Some one) new
  newly_linked one outputs new within makes names = record {
    others = opens_readies old new node outputs makes;
    own = λ link is.
        elim (in_pool_or_new link is) [
          | inl same ↦ subst (IsReady new) (sym same) (opened_is_ready old new node one outputs makes names)
          | inr before ↦
              elim (opens_readies old new node outputs makes link (ready link before)) [
                | inl still ↦ still
                | inr none ↦ absurd none
              ]
        ];
    there = get_or-set_same pool node (Some one) None within;
    holds = λ link is.
        elim (in_pool_or_new link is) [
          | inl same ↦ inr (subst (Unknown old) (sym same) (opened_is_fresh old new node one outputs makes names).unknown)
          | inr before ↦ inl before
        ];
  }
    where
      in_pool_or_new : (link : Link) → IsInPool (slice_set pool node (Some one)) link → (link ≡ record { node = node; conn = one }) ⊎ IsInPool pool link
      in_pool_or_new link is =
          elim (cases_eq link.node node) [
            | inl same ↦
                let conns : one ≡ link.conn = put_is pool node one link.conn (sym (ap (λ (n : ℕ). get_or (slice_set pool node (Some one)) n None) same) ∙ is) in
                inl (λ i. record { node = same i; conn = sym conns i })
            | inr apart ↦ inr (sym (get_or-set_other pool node link.node (Some one) None apart) ∙ is)
          ]

  links_ready : length pool ≡ length old.nodes → (conn : Option Conn) (new : RunView) → IsConnected old node (get_or pool node None) conn new → LinkedPart old pool node conn new
  links_ready places conn new = by_up (is_up old node) refl
    where
      opened_link : node < length pool → (conn : Option Conn) (new : RunView) → IsOpened old node conn new → LinkedPart old pool node conn new
      opened_link within None new skips = unlinked new (skips_readies old new node skips.enters)
      opened_link within (Some one) new opened = newly_linked one opened.0 new within opened.1 opened.2

      used_link : node < length pool → (before : Option Conn) → get_or pool node None ≡ before → (conn : Option Conn) (new : RunView) → IsUsed old node before conn new → LinkedPart old pool node conn new
      used_link within None is conn new opened = opened_link within conn new opened
      used_link within (Some one) is conn new (same, it) =
          subst (λ (run : RunView). LinkedPart old pool node conn run) (sym same)
          (subst (λ (c : Option Conn). LinkedPart old pool node c old) (sym it) (kept_still one is))

      by_up : (up : Bool) → is_up old node ≡ up → MatchBool up (IsUsed old node (get_or pool node None) conn new) ((new ≡ old) × (conn ≡ None)) → LinkedPart old pool node conn new
      by_up false down (same, none) =
          subst (λ (run : RunView). LinkedPart old pool node conn run) (sym same)
          (subst (λ (c : Option Conn). LinkedPart old pool node c old) (sym none) (unlinked old (readies_all none_changed old)))
      by_up true up used =
          let below : node < length old.nodes = ltb-true node (length old.nodes) (and_parts _ _ up).0 in
          let within : node < length pool = omega (arith, below, places) in
          used_link within (get_or pool node None) refl conn new used

-- the client goes on from what it keeps then
further : (old mid new : RunView) (pool : List (Option Conn)) (late : List Late) (node : ℕ) (conn : Option Conn) (after : List (Option Conn)) → LinkedPart old pool node conn mid
    → UsedPart mid (slice_set pool node conn) new after → ReadyPart old pool late new after
further old mid new pool late node conn after linked part = record {
  others =
      readies_further _ old mid new (readies_none _ old mid linked.others)
      (readies_more _ _ mid new (λ link is. lost_so link (linked.holds link is)) part.others);
  own = part.own;
}
  where
    lost_so : (link : Link) → IsInPool pool link ⊎ Unknown old link → IsAmong pool late link ⊎ Unknown old link
    lost_so link (inl is) = inl (inl is)
    lost_so link (inr unknown) = inr unknown

module _ (nodes : List NodeConfig) (old : RunView) (client : ClientView) (places : length client.pool ≡ length old.nodes) (ready : AreReady old client.pool) where
  tells_ready : (node : ℕ) (conn : Option Conn) (run new : RunView) (outputs : List Output) (after : ClientView) → LinkedPart old client.pool node conn run
      → Tells run (with_connection client node conn) (link_to node conn) (told_of (link_to node conn)) outputs new after → UsedPart run (slice_set client.pool node conn) new after.pool
  tells_ready node None run new outputs after linked tells =
      uses_none_ready run (record (with_connection client node None) { core = tells.core }) tells.action outputs new after linked.own tells.uses
  tells_ready node (Some one) run new outputs after linked tells =
      uses_some_ready run (record (with_connection client node (Some one)) { core = tells.core }) (record { node = node; conn = one }) tells.action outputs new after linked.there linked.own tells.uses

  connects_ready : (address : Place) (outputs : List Output) (new : RunView) (after : ClientView) → Connects nodes old client address outputs new after → ReadyPart old client.pool client.late new after.pool
  connects_ready address outputs new after made =
      let node : ℕ = node_at nodes address in
      let linked = links_ready old client.pool client.late ready node places made.conn made.run made.connected in
      further old made.run new client.pool client.late node made.conn after.pool linked (tells_ready node made.conn made.run new outputs after linked made.tells)

  acts_some_ready : (link : Link) (action : Action) (outputs : List Output) (new : RunView) (after : ClientView) → IsInPool client.pool link
      → Acts nodes old client (Some link) action outputs new after → ReadyPart old client.pool client.late new after.pool
  acts_some_ready link (wanted.Connect address) outputs new after there acts = connects_ready address outputs new after acts
  acts_some_ready link (wanted.Send words) outputs new after there acts = of_used old client.pool client.late new after.pool (uses_some_ready old client link (wanted.Send words) outputs new after there ready acts)
  acts_some_ready link (wanted.Done answer close) outputs new after there acts = of_used old client.pool client.late new after.pool (uses_some_ready old client link (wanted.Done answer close) outputs new after there ready acts)

  acts_none_ready : (action : Action) (outputs : List Output) (new : RunView) (after : ClientView)
      → Acts nodes old client None action outputs new after → ReadyPart old client.pool client.late new after.pool
  acts_none_ready (wanted.Connect address) outputs new after acts = connects_ready address outputs new after acts
  acts_none_ready (wanted.Send words) outputs new after acts = absurd acts
  acts_none_ready (wanted.Done answer close) outputs new after acts = of_used old client.pool client.late new after.pool (uses_none_ready old client (wanted.Done answer close) outputs new after ready acts)

-- ---- steps of a client

abbrev pub ReadyPartOf : RunView → ClientView → RunView → ClientView → Type 0
ReadyPartOf old client new after = ReadyPart old client.pool client.late new after.pool

module _ (nodes : List NodeConfig) (old new : RunView) (client after : ClientView) (outputs : List Output) (asks : AsksWell nodes old client) (ready : AreReady old client.pool) where
  rests_ready : Rests old client outputs new after → ReadyPartOf old client new after
  rests_ready rested =
      subst (λ (run : RunView). ReadyPartOf old client run after) (sym rested.run)
      (subst (λ (c : ClientView). ReadyPartOf old client old c) (sym rested.same) (same_part old client.pool client.late ready))

  in_use_so : (link : Link) (words : List (List ℕ)) (under : Option Call) → IsOfCall nodes old client.core client.pool (Asked link words) under → IsInPool client.pool link
  in_use_so link words None of_call = absurd of_call
  in_use_so link words (Some call) of_call = of_call.0.in_use

  in_use_then : (link : Link) (reply : Reply) (under : Option Call) → IsOfCall nodes old client.core client.pool (Answered link reply) under → IsInPool client.pool link
  in_use_then link reply None of_call = absurd of_call
  in_use_then link reply (Some call) of_call = of_call.0.in_use

  pub begins_ready : (words : List (List ℕ)) → Begins nodes words old client outputs new after → ReadyPartOf old client new after
  begins_ready words = by_traffic client.traffic
    where
      by_traffic : (traffic : Traffic) → IsBegun nodes old client traffic words outputs new after → ReadyPartOf old client new after
      by_traffic Quiet takes = acts_none_ready nodes old (record client { core = takes.core }) asks.connected.places ready takes.action outputs new after takes.acts
      by_traffic (Asked link sent) rested = rests_ready rested
      by_traffic (Answered link reply) rested = rests_ready rested

  pub returns_ready : Returns nodes old client outputs new after → ReadyPartOf old client new after
  returns_ready = by_traffic client.traffic refl
    where
      by_traffic : (traffic : Traffic) → client.traffic ≡ traffic → IsReturned nodes old client traffic outputs new after → ReadyPartOf old client new after
      by_traffic (Answered link reply) is takes =
          acts_some_ready nodes old (record client { traffic = Quiet; core = takes.core }) asks.connected.places ready link takes.action outputs new after
          (in_use_then link reply client.core.call (of_call_so nodes old client (Answered link reply) is asks client.core.call refl)) takes.acts
      by_traffic Quiet is rested = rests_ready rested
      by_traffic (Asked link words) is rested = rests_ready rested

  some_is_none : {reply : Reply} → ◌≡◌ {A = Option Reply} (Some reply) None → ⊥
  some_is_none same = cc

  arrives_ready : (link : Link) (words : List (List ℕ)) → Arrives old client link words outputs new after → ReadyPartOf old client new after
  arrives_ready link words arrives =
      let stays : Readies none_changed old new =
      readies_more (LosesOwn link (Some arrives.reply)) none_changed old new (λ other lost. some_is_none lost.1)
      (serves_readies old new link.node link.conn words (Some arrives.reply) outputs arrives.serves) in
      subst (λ (c : ClientView). ReadyPartOf old client new c) (sym arrives.left)
      (record {
        others = readies_none _ old new stays;
        own = λ other is.
            elim (stays other (ready other is)) [
              | inl still ↦ still
              | inr none ↦ absurd none
            ];
      })

  pub carries_ready : Carries old client outputs new after → ReadyPartOf old client new after
  carries_ready = by_traffic client.traffic
    where
      by_up : (link : Link) (words : List (List ℕ)) (up : Bool) → MatchBool up (Arrives old client link words outputs new after) (Rests old client outputs new after) → ReadyPartOf old client new after
      by_up link words true arrives = arrives_ready link words arrives
      by_up link words false rested = rests_ready rested

      by_traffic : (traffic : Traffic) → IsCarried old client traffic outputs new after → ReadyPartOf old client new after
      by_traffic (Asked link words) carried = by_up link words (is_up old link.node) carried
      by_traffic Quiet rested = rests_ready rested
      by_traffic (Answered link reply) rested = rests_ready rested

  pub cuts_ready : Cuts old client outputs new after → ReadyPartOf old client new after
  cuts_ready = by_traffic client.traffic refl
    where
      by_traffic : (traffic : Traffic) → client.traffic ≡ traffic → IsCut old client traffic outputs new after → ReadyPartOf old client new after
      by_traffic Quiet is rested = rests_ready rested
      by_traffic (Asked link words) is cut =
          subst (λ (run : RunView). ReadyPartOf old client run after) (sym cut.0)
          (subst (λ (c : ClientView). ReadyPartOf old client old c) (sym cut.1)
          (record { others = readies_all _ old; own = fewer_ready old client.pool client.late link.node ready }))
      by_traffic (Answered link reply) is cut =
          subst (λ (c : ClientView). ReadyPartOf old client new c) (sym cut.1)
          (of_used old client.pool client.late new (slice_set client.pool link.node None)
          (shut_part old new client.pool client.late link cut.0
          (in_use_then link reply client.core.call (of_call_so nodes old client (Answered link reply) is asks client.core.call refl)) ready))

  comes_ready : (late : Late) (others : List Late) → client.late ≡ late ∷ others → ComesLate old client late others outputs new after → ReadyPartOf old client new after
  comes_ready late others all comes =
      let among : Contains client.late late = subst (λ (list : List Late). Contains list late) (sym all) (contains_first late others) in
      let lost : Readies (λ link. link ≡ late.link) old new =
      readies_further (λ link. link ≡ late.link) old comes.serves.run new
      (readies_more _ _ old comes.serves.run (λ link own. own.0)
      (serves_readies old comes.serves.run late.link.node late.link.conn late.words comes.serves.reply outputs comes.serves.serves))
      (readies_more _ _ comes.serves.run new (λ link at. let conns : late.link.conn ≡ link.conn = contains_one late.link.conn link.conn at.1 in λ i. record { node = at.0 i; conn = sym conns i })
      (closes_readies comes.serves.run new late.link.node (late.link.conn ∷ []) comes.serves.closes)) in
      subst (λ (c : ClientView). ReadyPartOf old client new c) (sym comes.left)
      (record {
        others = readies_more _ _ old new (λ link same. inl (inr (late, among, sym same))) lost;
        own = λ link is.
            elim (lost link (ready link is)) [
              | inl still ↦ still
              | inr same ↦ absurd (asks.connected.apart link is (late, among, sym same))
            ];
      })

  pub lingers_ready : Lingers old client outputs new after → ReadyPartOf old client new after
  lingers_ready = by_late client.late refl
    where
      by_up : (late : Late) (others : List Late) → client.late ≡ late ∷ others → (up : Bool) → MatchBool up (ComesLate old client late others outputs new after) (Rests old client outputs new after) → ReadyPartOf old client new after
      by_up late others all true comes = comes_ready late others all comes
      by_up late others all false rested = rests_ready rested

      by_late : (list : List Late) → client.late ≡ list → IsLate old client list outputs new after → ReadyPartOf old client new after
      by_late [] all rested = rests_ready rested
      by_late (late ∷ others) all comes = by_up late others all (is_up old late.link.node) comes

-- ---- a node stops

pub stopped_ready : (run : RunView) (client : ClientView) (node : ℕ) → AreReady run client.pool → AreReady run (stopped_at node client).pool
stopped_ready run client node ready = by_leads (leads_to node (used_by client.traffic))
  where
    by_leads : (leads : Bool) → AreReady run (cond leads (broken_off node (without_late node client)) (without_late node client)).pool
    by_leads true = fewer_ready run client.pool client.late node ready
    by_leads false = ready

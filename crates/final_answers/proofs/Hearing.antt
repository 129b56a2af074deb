-- The reply to what a client sent can be followed, and CLUSTER NUMBERED introduces its connection.
use Rattle.std.proofs.Common.{◌≡◌, ◌∙◌, ℕ, Bool, true, false, true≢false, List, Option, None, Some, refl, sym, ap, subst, inl, inr}
use Rattle.std.specs.Prelude.{MatchBool}
use Rattle.cluster_config.specs.Config.{ClusterConfig, IsCluster}
use Rattle.command_table.specs.ErrorLine.{error_text}
use Rattle.command_table.specs.declared.error_line.ErrorLine.TheVariants as line
use Rattle.connections.specs.Connections.{connection_at}
use Rattle.node_step.specs.Requests.{is_numbered}
use Rattle.node_step.specs.State.{NodeState}
use Rattle.node_step.specs.declared.event.Event.TheVariants.{Request}
use Rattle.node_step.specs.declared.response.Answer.{Answer}
use Rattle.node_step.specs.declared.response.Response.{Response}
use Rattle.node_step.specs.declared.response.Response.TheVariants.{Nothing, Opened, Replied, Parked}
use Rattle.reply_meaning.proofs.Reasons.{need_offsets_alone}
use Rattle.reply_meaning.specs.Law.{HasNoOffset, IsOfClient}
use Rattle.resp_values.specs.declared.reply.Reply.{Reply}
use Rattle.single_keyspace.proofs.Seen.{same_some}
use Rattle.smart_client.specs.Words.{is_refused, numbered_words}
use Rattle.smart_client.specs.declared.call.Call.{Call}
use Rattle.smart_client.specs.declared.call.Stage.{Stage}
use Rattle.smart_client.specs.declared.call.Stage.TheVariants as stage
use Rattle.world_run.specs.Run.Deed.{Made}
use Rattle.world_nodes.specs.Allowed.{IsKnown, asking_at}
use Rattle.world_nodes.specs.NodeSteps.{released_conns}
use Rattle.world_nodes.specs.Nodes.{HaveConfig, RunView, is_up}
use Rattle.world_nodes.specs.Serving.{IsServed, IsSkipped, Serves, reply_in}
use Rattle.world_nodes.specs.declared.link.Link.{Link}
use Rattle.world_nodes.specs.declared.output.Output.{Output}
use Rattle.world_nodes.proofs.Leaving.{after_is, enters_leaves}
use Rattle.world.proofs.Playing.{of_call_so}
use Rattle.world.proofs.Requests.{words_of_client}
use Rattle.world.specs.Asking.{AsksWell, IsOfCall, IsSent}
use Rattle.world.specs.Calls.{Arrives, Carries, IsCarried, Rests}
use Rattle.world.specs.Clients.{ClientView}
use Rattle.world.specs.declared.client.Traffic.{Traffic}
use Rattle.world.specs.declared.client.Traffic.TheVariants.{Quiet, Asked, Answered}
use Rattle.final_answers.proofs.Following.{FollowsWell, Goes, IsLed, led_so, rests_well}
use Rattle.final_answers.proofs.Greeting.{IsGreeted}
use Rattle.final_answers.proofs.Kept.{AllNameable, IsIntroduced, closes_keeps, introduced_in, serves_keeps}
use Rattle.final_answers.proofs.Leading.{CanFollow, answer_leads, other}
use Rattle.final_answers.proofs.Linked.{kept_still}
use Rattle.final_answers.proofs.NumberedConns.{introduced_at, introduces, is_told_numbers}

replied_in : (response : Response) (reply : Reply) → Some reply ≡ reply_in response → (answer : Answer) × (response ≡ Replied answer) × (answer.reply ≡ reply)
replied_in (Replied answer) reply is = (answer, refl, cc)
replied_in Nothing reply is = absurd (cc)
replied_in (Opened conn) reply is = absurd (cc)
replied_in Parked reply is = absurd (cc)

module _ (config : ClusterConfig) (cluster_is : IsCluster config) (old : RunView) (have : HaveConfig config old.nodes) (all : AllNameable old.nodes) (link : Link) (words : List (List ℕ)) (reply : Reply)
    (outputs : List Output) (new : RunView) where
  module _ (served : IsServed old link.node link.conn words (Some reply) outputs new) where
    given : (answer : Answer) × (served.made.response ≡ Replied answer) × (answer.reply ≡ reply)
    given = replied_in served.made.response reply served.replies

    -- the connection is introduced by it
    greets : IsKnown old link → words ≡ numbered_words → IsIntroduced new link
    greets known is =
        let step = served.makes.enters.step in
        let there : introduced_in (Some step.after) link.conn ≡ true =
        introduces served.makes.enters.ticket step.before step.after link.conn words served.made given.0 step.leads.1 given.1 is in
        (closes_keeps served.after new link.node (released_conns served.made.released) served.closes).introduced link
        (record {
          known = (enters_leaves old served.after link.node (Made (Request link.conn words) served.made) served.makes).known link known;
          introduced =
              ap (λ (s : Option NodeState). introduced_in s link.conn) (after_is old served.after link.node (Made (Request link.conn words) served.made) served.makes link.node refl) ∙ there;
        })

    -- a command is answered so that its client can go on
    can_follow : IsIntroduced old link → is_refused words ≡ false → CanFollow config.nodes true reply
    can_follow introduced plain =
        let step = served.makes.enters.step in
        let deed = Made (Request link.conn words) served.made in
        let configs : step.before.config ≡ config = have link.node step.before step.was in
        let here : introduced_at step.before.connections link.conn ≡ true =
        sym (ap (λ (s : Option NodeState). introduced_in s link.conn) step.was) ∙ introduced.introduced in
        let numbers : is_numbered (connection_at step.before.connections link.conn) ≡ true =
        is_told_numbers served.makes.enters.ticket step.before step.after link.conn words served.made given.0 step.leads.1 given.1 here in
        let leads : CanFollow step.before.config.nodes (is_numbered (connection_at step.before.connections link.conn)) given.0.reply =
        answer_leads step.before (subst IsCluster (sym configs) cluster_is) (all link.node step.before step.was) link.conn words given.0 plain
        (record { ticket = served.makes.enters.ticket; outputs = served.made; after = step.after; step = step.leads.1; response = given.1 }) in
        subst (λ (c : ClusterConfig). CanFollow c.nodes true reply) configs
        (subst (λ (numbered : Bool). CanFollow step.before.config.nodes numbered reply) numbers
        (subst (CanFollow step.before.config.nodes (is_numbered (connection_at step.before.connections link.conn))) given.2 leads))

  module _ (skipped : IsSkipped old link.node link.conn words (Some reply) outputs new) where
    -- the node had no offset for what the command writes
    needs : IsOfClient words → HasNoOffset skipped.skips.enters.enters.step.before link.conn words
    needs client = need_offsets_alone skipped.skips.enters.enters.step.before link.conn words client skipped.skips.why

    -- EXHAUSTED leads nowhere
    exhausted_can : CanFollow config.nodes true reply
    exhausted_can = subst (CanFollow config.nodes true) (sym (same_some refl skipped.replies)) (other config.nodes true (error_text line.Exhausted) refl)

  -- what is under way then, by what was sent
  led_then : (call : Call) (at : Stage) → call.stage ≡ at → is_refused call.words ≡ false → IsKnown old link → IsSent call at words (asking_at old link) → IsGreeted old (Some link) at
      → Serves old link.node link.conn words (Some reply) outputs new → IsIntroduced new link × (call.stage ≡ stage.Sent → CanFollow config.nodes true reply)
  led_then call stage.Connecting is plain known sent greeted serves = absurd sent
  led_then call stage.Introducing is plain known sent greeted (inl served) = (greets served known sent.0, λ at. absurd (cc (is, at)))
  led_then call stage.Introducing is plain known sent greeted (inr skipped) =
      absurd (true≢false (sym (ap is_refused sent.0) ∙ (needs skipped (words_of_client call stage.Introducing words (asking_at old link) plain sent)).plain))
  led_then call stage.Asking is plain known sent greeted serves =
      ((serves_keeps old new link.node link.conn words (Some reply) outputs serves).introduced link greeted, λ at. absurd (cc (is, at)))
  led_then call stage.Sent is plain known sent greeted (inl served) = (
    (serves_keeps old new link.node link.conn words (Some reply) outputs (inl served)).introduced link greeted,
    λ at. can_follow served greeted (ap is_refused sent.0 ∙ plain),
  )
  led_then call stage.Sent is plain known sent greeted (inr skipped) =
      ((serves_keeps old new link.node link.conn words (Some reply) outputs (inr skipped)).introduced link greeted, λ at. exhausted_can skipped)

-- a request reaches its node
pub carries_well : (config : ClusterConfig) → IsCluster config → (old new : RunView) → HaveConfig config old.nodes → AllNameable old.nodes → (client after : ClientView) (outputs : List Output)
    → AsksWell config.nodes old client → FollowsWell config.nodes old client → Carries old client outputs new after → Goes config.nodes old new after
carries_well config cluster_is old new have all client after outputs asks well = by_traffic client.traffic refl
  where
    arrives_so : (link : Link) (words : List (List ℕ)) (under : Option Call) → client.core.call ≡ under → client.traffic ≡ Asked link words → IsOfCall config.nodes old client.core client.pool (Asked link words) under
        → IsLed config.nodes old (Asked link words) under → (reply : Reply) → Serves old link.node link.conn words (Some reply) outputs new → after ≡ record client { traffic = Answered link reply }
        → Goes config.nodes old new after
    arrives_so link words None called is of_call led reply serves left = absurd of_call
    arrives_so link words (Some call) called is of_call led reply serves left =
        let keeps = serves_keeps old new link.node link.conn words (Some reply) outputs serves in
        let known : IsKnown old link = (asks.connected.idle link of_call.0.in_use).known in
        let then_led = led_then config cluster_is old have all link words reply outputs new call call.stage refl of_call.0.called.plain known of_call.1 led serves in
        subst (Goes config.nodes old new) (sym left)
        (record {
          keeps = keeps;
          well = record {
            kept = kept_still config.nodes old new client.pool client.core.peers keeps well.kept;
            led = subst (IsLed config.nodes new (Answered link reply)) (sym called) then_led;
          };
        })

    by_up : (link : Link) (words : List (List ℕ)) → client.traffic ≡ Asked link words → (up : Bool) → MatchBool up (Arrives old client link words outputs new after) (Rests old client outputs new after)
        → Goes config.nodes old new after
    by_up link words is false rests = rests_well config.nodes old new client after outputs well rests
    by_up link words is true arrives =
        arrives_so link words client.core.call refl is (of_call_so config.nodes old client (Asked link words) is asks client.core.call refl)
        (led_so config cluster_is old new client after outputs asks well (Asked link words) is client.core.call refl) arrives.reply arrives.serves arrives.left

    by_traffic : (traffic : Traffic) → client.traffic ≡ traffic → IsCarried old client traffic outputs new after → Goes config.nodes old new after
    by_traffic (Asked link words) is carried = by_up link words is (is_up old link.node) carried
    by_traffic Quiet is rests = rests_well config.nodes old new client after outputs well rests
    by_traffic (Answered link reply) is rests = rests_well config.nodes old new client after outputs well rests

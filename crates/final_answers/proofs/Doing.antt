-- What comes of what a client wants: its call goes on, or is answered.
use Rattle.std.proofs.Common.{◌≡◌, ◌⊎◌, ◌∷◌, ℕ, Bool, true, false, List, [], Option, None, Some, refl, sym, subst, inl, inr}
use Rattle.cluster_config.specs.declared.config.NodeConfig.{NodeConfig}
use Rattle.connections.specs.declared.conn.Conn.{Conn}
use Rattle.redirection.specs.Address.{Place}
use Rattle.resp_values.specs.declared.reply.Reply.{Reply}
use Rattle.smart_client.specs.Step.{Answer}
use Rattle.smart_client.specs.declared.action.Action.{Action}
use Rattle.smart_client.specs.declared.action.Action.TheVariants as wanted
use Rattle.smart_client.specs.declared.call.Call.{Call}
use Rattle.smart_client.specs.declared.call.Stage.{Stage}
use Rattle.world_nodes.specs.Nodes.{RunView}
use Rattle.world_nodes.specs.declared.link.Link.{Link}
use Rattle.world_nodes.specs.declared.output.Output.{Output}
use Rattle.world_nodes.specs.declared.output.Output.TheVariants as output
use Rattle.world.specs.Calls.{Acts, Connects, GivesUp, Tells, Uses, link_to, told_of}
use Rattle.world.specs.Clients.{ClientView, node_at, with_connection}
use Rattle.world.specs.declared.client.Late.{Late}
use Rattle.world.specs.declared.client.Traffic.{Traffic}
use Rattle.world.specs.declared.client.Traffic.TheVariants.{Quiet, Asked, Answered}
use Rattle.final_answers.specs.Book as book
use Rattle.final_answers.proofs.Wanted.{IsCalling, MayWant, connects_so, execution_at, fails_so}

-- what became of the command of a call that is under way
abbrev pub executed_by : Traffic → Stage → Option Reply
executed_by Quiet at = None
executed_by (Asked link words) at = None
executed_by (Answered link reply) at = execution_at at reply

-- the client is told in the end
pub record IsOver (number : ℕ) (execution : Option Reply) (outputs : List Output) (after : ClientView) : Type 0 where
  pub answer : Answer
  pub shows : outputs ≡ output.Answer number answer ∷ []
  pub over : after.core.call ≡ None
  pub tells : book.Tells execution answer

-- or its call goes on, and nothing was executed
pub record GoesOn (words : List (List ℕ)) (execution : Option Reply) (outputs : List Output) (after : ClientView) : Type 0 where
  pub call : Call
  pub shows : outputs ≡ []
  pub is : after.core.call ≡ Some call
  pub words_are : call.words ≡ words
  pub nothing : execution ≡ None
  pub still : executed_by after.traffic call.stage ≡ None

-- with the same number, and the same requests on connections that were cut
pub record Comes (number : ℕ) (late : List Late) (words : List (List ℕ)) (execution : Option Reply) (outputs : List Output) (after : ClientView) : Type 0 where
  pub number_is : after.number ≡ number
  pub late_is : after.late ≡ late
  pub comes : IsOver number execution outputs after ⊎ GoesOn words execution outputs after

module _ (words : List (List ℕ)) (execution : Option Reply) (old : RunView) (client : ClientView) where
  abbrev ComesTo : List Output → ClientView → Type 0
  ComesTo outputs after = Comes client.number client.late words execution outputs after

  gives_up : (link : Option Link) (close : Bool) (answer : Answer) (outputs : List Output) (new : RunView) (after : ClientView) → client.core.call ≡ None → book.Tells execution answer
      → GivesUp old client link close new after → outputs ≡ output.Answer client.number answer ∷ [] → ComesTo outputs after
  gives_up (Some link) true answer outputs new after over tells gives shows =
      subst (ComesTo outputs) (sym gives.1) (record { number_is = refl; late_is = refl; comes = inl (record { answer = answer; shows = shows; over = over; tells = tells }) })
  gives_up (Some link) false answer outputs new after over tells gives shows =
      subst (ComesTo outputs) (sym gives.1) (record { number_is = refl; late_is = refl; comes = inl (record { answer = answer; shows = shows; over = over; tells = tells }) })
  gives_up None close answer outputs new after over tells gives shows =
      subst (ComesTo outputs) (sym gives.1) (record { number_is = refl; late_is = refl; comes = inl (record { answer = answer; shows = shows; over = over; tells = tells }) })

  pub uses_so : (link : Option Link) (action : Action) (outputs : List Output) (new : RunView) (after : ClientView) → MayWant words execution client.core action → Uses old client link action outputs new after
      → ComesTo outputs after
  uses_so link (wanted.Connect address) outputs new after may uses = absurd uses
  uses_so None (wanted.Send sent) outputs new after may uses = absurd uses
  uses_so (Some link) (wanted.Send sent) outputs new after ((call, is, same), nothing) uses =
      subst (ComesTo outputs) (sym uses.1)
      (record { number_is = refl; late_is = refl; comes = inr (record { call = call; shows = uses.2; is = is; words_are = same; nothing = nothing; still = refl }) })
  uses_so link (wanted.Done answer close) outputs new after may uses = gives_up link close answer outputs new after may.0 may.1 uses.0 uses.1

module _ (words : List (List ℕ)) (execution : Option Reply) (nodes : List NodeConfig) where
  connects_then : (old : RunView) (client : ClientView) (address : Place) (outputs : List Output) (new : RunView) (after : ClientView) → IsCalling words client.core → execution ≡ None
      → Connects nodes old client address outputs new after → Comes client.number client.late words execution outputs after
  connects_then old client address outputs new after (call, is, same) nothing connects = by_conn connects.conn connects.tells
    where
      by_conn : (conn : Option Conn)
          → Tells connects.run (with_connection client (node_at nodes address) conn) (link_to (node_at nodes address) conn) (told_of (link_to (node_at nodes address) conn)) outputs new after
          → Comes client.number client.late words execution outputs after
      by_conn None tells =
          let may = fails_so words execution client.core tells.core call tells.action is nothing tells.steps in
          uses_so words execution connects.run (record (with_connection client (node_at nodes address) None) { core = tells.core }) None tells.action outputs new after may tells.uses
      by_conn (Some conn) tells =
          let may = connects_so words execution client.core tells.core call tells.action is same nothing tells.steps in
          uses_so words execution connects.run (record (with_connection client (node_at nodes address) (Some conn)) { core = tells.core }) (Some (record { node = node_at nodes address; conn = conn })) tells.action
          outputs new after may tells.uses

  -- whatever it wants
  pub acts_so : (old : RunView) (client : ClientView) (link : Option Link) (action : Action) (outputs : List Output) (new : RunView) (after : ClientView) → MayWant words execution client.core action
      → Acts nodes old client link action outputs new after → Comes client.number client.late words execution outputs after
  acts_so old client link (wanted.Connect address) outputs new after may acts = connects_then old client address outputs new after may.0 may.1 acts
  acts_so old client link (wanted.Send sent) outputs new after may acts = uses_so words execution old client link (wanted.Send sent) outputs new after may acts
  acts_so old client link (wanted.Done answer close) outputs new after may acts = uses_so words execution old client link (wanted.Done answer close) outputs new after may acts

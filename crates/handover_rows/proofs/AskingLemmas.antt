-- CLUSTER FAILOVER, as a node drafts it.
use Rattle.std.proofs.Common.{◌≡◌, ℕ, List, [], ◌∷◌, Option, Some, None, sym, ap, subst, ◌∙◌}
use Rattle.bus.specs.declared.message.Body.{Body}
use Rattle.bus.specs.declared.bodies.ElectionBody.TheVariants.{Pause}
use Rattle.bus.specs.declared.message.Body.TheVariants.{Election}
use Rattle.command_table.specs.declared.error_line.ErrorLine.TheVariants.{NotReplica}
use Rattle.connections.specs.declared.conn.Conn.{Conn}
use Rattle.node_parts.specs.Drafts.{Drafts}
use Rattle.node_parts.specs.declared.draft.Draft.{Draft}
use Rattle.node_step.specs.Handovers.{failover, wishing}
use Rattle.node_step.specs.Orders.{done}
use Rattle.node_step.specs.Outcome.{error, replied, replied_sending}
use Rattle.node_step.specs.Requests.{using_up}
use Rattle.node_step.specs.State.{NodeState, own_master}
use Rattle.node_step.specs.declared.response.Why.TheVariants.{TakesOver}
use Rattle.resp_values.specs.declared.reply.Reply.{Reply}

module _ (node : NodeState) (conn : Conn) (draft : Draft) (reply : Reply) where
  -- a master has no master
  pub refused : own_master node ≡ None → reply ≡ error NotReplica → Drafts node (replied (using_up node conn) TakesOver reply) draft → Drafts node (failover (using_up node conn) (own_master node)) draft
  refused none says drafts =
      subst (λ (master : Option ℕ). Drafts node (failover (using_up node conn) master) draft) (sym none)
      (subst (λ (r : Reply). Drafts node (replied (using_up node conn) TakesOver r) draft) says drafts)

  -- a replica asks its own
  pub asked : (master : ℕ) (bodies : List (ℕ × Body)) → own_master node ≡ Some master → reply ≡ done → bodies ≡ (master, Election (Pause node.stream.held.id)) ∷ []
      → Drafts node (replied_sending (wishing (using_up node conn)) TakesOver reply bodies) draft → Drafts node (failover (using_up node conn) (own_master node)) draft
  asked master bodies some says words drafts =
      subst (λ (m : Option ℕ). Drafts node (failover (using_up node conn) m) draft) (sym some)
      (subst (λ (sent : List (ℕ × Body)). Drafts node (replied_sending (wishing (using_up node conn)) TakesOver done sent) draft) words
      (subst (λ (r : Reply). Drafts node (replied_sending (wishing (using_up node conn)) TakesOver r bodies) draft) says drafts))

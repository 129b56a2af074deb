-- What a step does with an order that the step before did.
use Rattle.std.proofs.Common.{◌≡◌, ◌≢◌, ◌<◌, ℕ, ℤ, List, [], map, length, Option, refl, sym, ap, subst, ◌∙◌}
use Rattle.command_table.specs.declared.command.ClusterCommand.{ClusterCommand}
use Rattle.command_table.specs.declared.command.ClusterCommand.TheVariants.{Migrate, SetSlot}
use Rattle.command_table.specs.declared.command.SlotOrder.{SlotOrder}
use Rattle.connections.specs.declared.conn.Conn.{Conn}
use Rattle.node_step.specs.Copies.{copy_outcome, copy_verdict_on, first_slot, node_at, those_there}
use Rattle.node_step.specs.Outcome.{Outcome, stamped}
use Rattle.node_step.specs.Requests.{cluster_outcome, node_with_id, order_outcome, using_up}
use Rattle.node_step.specs.State.{NodeState}
use Rattle.node_step.specs.declared.outputs.Outputs.{Outputs}
use Rattle.node_step.specs.declared.response.Answer.{Answer}
use Rattle.node_step.specs.declared.response.Response.TheVariants.{Nothing, Replied}
use Rattle.repeated_orders.specs.Law.{CopiesAreSentAgain, IsGiven, IsTaken, KeepsAllButConnections, OrdersMayBeRepeated, RepliesAreRepeated, with_ticket}
use Rattle.repeated_orders.proofs.Copies.{OnlySends, copy_repeats, restamped}
use Rattle.repeated_orders.proofs.Given.{Came, came}
use Rattle.repeated_orders.proofs.Given.Came.{took, ignored}
use Rattle.repeated_orders.proofs.Orders.{OnlyReplies, behind, order_repeats}

-- the response of a step is that of its outcome
responds : (command : ClusterCommand) (old : NodeState) (outputs : Outputs) (new : NodeState) (given : IsGiven command old outputs new) → outputs.response ≡ given.step.outcome.response
responds command old outputs new given = ap (λ (o : Outputs). o.response) given.step.outputs_are

same_answer : (one other : Answer) → Replied one ≡ Replied other → one ≡ other
same_answer one other same = cc

-- ---- CLUSTER SETSLOT

-- nothing comes of it but a reply, and that is the first one where the table has the slot
record IsRepeat (has_slot : Type 0) (first : Outcome) (node : NodeState) (outcome : Outcome) : Type 0 where
  state : KeepsAllButConnections node outcome.state
  released : outcome.released ≡ []
  sent : outcome.sent ≡ []
  reply : has_slot → (answer repeated : Answer) → first.response ≡ Replied answer → outcome.response ≡ Replied repeated → repeated.reply ≡ answer.reply

only_replies : (has_slot : Type 0) (first : Outcome) (node after : NodeState) (outcome : Outcome) → KeepsAllButConnections node after
    → OnlyReplies has_slot first.response after outcome → IsRepeat has_slot first node outcome
only_replies has_slot first node after outcome keeps only =
    subst (IsRepeat has_slot first node) (sym only.is)
    (record {
      state = keeps;
      released = refl;
      sent = refl;
      reply = λ has answer repeated is again.
          ap (λ (a : Answer). a.reply) (sym (same_answer (record { why = only.why; reply = only.reply }) repeated again))
          ∙ ap (λ (a : Answer). a.reply) (same_answer (record { why = only.before; reply = only.reply }) answer (sym (only.same has) ∙ is));
    })

module _ (slot : ℕ) (order : SlotOrder) (id : List ℕ) (number : Option ℕ) where
  abbrev command : ClusterCommand
  command = SetSlot slot order id number

  second_order : (old after later : NodeState) (conn other : Conn) (first second : Outcome) → first.response ≢ Nothing → after ≡ first.state → KeepsAllButConnections after later
      → Came command old conn first → Came command later other second → IsRepeat (slot < length old.table) first later second
  second_order old after later conn other first second took_it are keeps (ignored is) next = absurd (took_it (ap (λ (o : Outcome). o.response) is))
  second_order old after later conn other first second took_it are keeps (took is) (ignored nothing) =
      subst (IsRepeat (slot < length old.table) first later) (sym nothing)
      (record { state = refl; released = refl; sent = refl; reply = λ has answer repeated one again. cc })
  second_order old after later conn other first second took_it are keeps (took is) (took next) =
      let node : NodeState = using_up old conn in
      let ordered : Outcome = order_outcome node slot order (node_with_id node id) number in
      let found : NodeState = behind ordered later.connections in
      let same : found ≡ later = sym (keeps ∙ ap (λ (n : NodeState). record n { connections = later.connections }) (are ∙ ap (λ (o : Outcome). o.state) is)) in
      let repeat : IsRepeat (slot < length old.table) ordered found (cluster_outcome (using_up found other) other command) =
      only_replies (slot < length old.table) ordered found (using_up found other) _ refl
      (order_repeats node (using_up found other).connections slot order id number) in
      subst (IsRepeat (slot < length old.table) first later) (sym next)
      (subst (λ (n : NodeState). IsRepeat (slot < length old.table) first n (cluster_outcome (using_up n other) other command)) same
      (subst (λ (o : Outcome). IsRepeat (slot < length old.table) o found (cluster_outcome (using_up found other) other command)) (sym is) repeat))

  repeats : (old after later new : NodeState) (outputs again : Outputs) (first : IsGiven command old outputs after) → IsTaken outputs → KeepsAllButConnections after later
      → (second : IsGiven command later again new) → IsRepeat (slot < length old.table) first.step.outcome later second.step.outcome
  repeats old after later new outputs again first took_it keeps second =
      second_order old after later first.conn second.conn first.step.outcome second.step.outcome
      (λ nothing. took_it (responds command old outputs after first ∙ nothing)) first.step.state keeps
      (came command old outputs after first) (came command later again new second)

pub may_be_repeated : OrdersMayBeRepeated
may_be_repeated slot order id number old after later new outputs again first took_it keeps second =
    let repeat = repeats slot order id number old after later new outputs again first took_it keeps second in
    let outcome : Outcome = second.step.outcome in
    record {
      state = subst (KeepsAllButConnections later) (sym second.step.state) repeat.state;
      released = ap (λ (o : Outputs). o.released) second.step.outputs_are ∙ repeat.released;
      sent = ap (λ (o : Outputs). o.sent) second.step.outputs_are ∙ ap (map (stamped outcome.state.number second.ticket outcome.state.current_epoch)) repeat.sent;
    }

pub are_repeated : RepliesAreRepeated
are_repeated slot order id number old after later new outputs again answer repeated has first is keeps second next =
    let repeat = repeats slot order id number old after later new outputs again first (λ (nothing : outputs.response ≡ Nothing). cc) keeps second in
    repeat.reply has answer repeated (sym (responds (SetSlot slot order id number) old outputs after first) ∙ is)
    (sym (responds (SetSlot slot order id number) later again new second) ∙ next)

-- ---- MIGRATE

-- nothing comes of it but what came before
record IsCopyRepeat (first : Outcome) (node : NodeState) (outcome : Outcome) : Type 0 where
  state : KeepsAllButConnections node outcome.state
  released : outcome.released ≡ []
  response : outcome.response ≢ Nothing → outcome.response ≡ first.response
  sent : outcome.response ≢ Nothing → outcome.sent ≡ first.sent

module _ (host : List ℕ) (port : ℤ) (keys : List (List ℕ)) (timeout ticks : ℕ) where
  second_copy : (old after later : NodeState) (conn other : Conn) (first second : Outcome) → first.response ≢ Nothing → after ≡ first.state → KeepsAllButConnections after later
      → Came (Migrate host port keys timeout) old conn first → Came (Migrate host port keys ticks) later other second → IsCopyRepeat first later second
  second_copy old after later conn other first second took_it are keeps (ignored is) next = absurd (took_it (ap (λ (o : Outcome). o.response) is))
  second_copy old after later conn other first second took_it are keeps (took is) (ignored nothing) =
      subst (IsCopyRepeat first later) (sym nothing)
      (record { state = refl; released = refl; response = λ answers. absurd (answers refl); sent = λ answers. absurd (answers refl) })
  second_copy old after later conn other first second took_it are keeps (took is) (took next) =
      let node : NodeState = using_up old conn in
      let ordered : Outcome = copy_outcome node conn (first_slot keys) (those_there node.keyspace keys) timeout (copy_verdict_on node keys (node_at node host port)) in
      let found : NodeState = behind ordered later.connections in
      let same : found ≡ later = sym (keeps ∙ ap (λ (n : NodeState). record n { connections = later.connections }) (are ∙ ap (λ (o : Outcome). o.state) is)) in
      let only : OnlySends (using_up found other) ordered (cluster_outcome (using_up found other) other (Migrate host port keys ticks)) =
      copy_repeats node (using_up found other).connections conn other keys timeout ticks host port (copy_verdict_on node keys (node_at node host port)) refl in
      let repeat : IsCopyRepeat ordered found (cluster_outcome (using_up found other) other (Migrate host port keys ticks)) =
      record { state = only.state; released = only.released; response = λ answers. only.response; sent = λ answers. only.sent } in
      subst (IsCopyRepeat first later) (sym next)
      (subst (λ (n : NodeState). IsCopyRepeat first n (cluster_outcome (using_up n other) other (Migrate host port keys ticks))) same
      (subst (λ (o : Outcome). IsCopyRepeat o found (cluster_outcome (using_up found other) other (Migrate host port keys ticks))) (sym is) repeat))

pub are_sent_again : CopiesAreSentAgain
are_sent_again host port keys timeout ticks old after later new outputs again first took_it keeps second =
    let before : Outcome = first.step.outcome in
    let outcome : Outcome = second.step.outcome in
    let first_response : outputs.response ≡ before.response = responds (Migrate host port keys timeout) old outputs after first in
    let response : again.response ≡ outcome.response = responds (Migrate host port keys ticks) later again new second in
    let repeat : IsCopyRepeat before later outcome =
    second_copy host port keys timeout ticks old after later first.conn second.conn before outcome (λ nothing. took_it (first_response ∙ nothing)) first.step.state keeps
    (came (Migrate host port keys timeout) old outputs after first) (came (Migrate host port keys ticks) later again new second) in
    let as_before : IsTaken again → again.sent ≡ map (stamped outcome.state.number second.ticket outcome.state.current_epoch) before.sent =
    λ takes. ap (λ (o : Outputs). o.sent) second.step.outputs_are
    ∙ ap (map (stamped outcome.state.number second.ticket outcome.state.current_epoch)) (repeat.sent (λ nothing. takes (response ∙ nothing))) in
    let same_stamp : map (stamped outcome.state.number second.ticket outcome.state.current_epoch) before.sent ≡ map (stamped before.state.number second.ticket before.state.current_epoch) before.sent =
    ap (λ (node : NodeState). map (stamped node.number second.ticket node.current_epoch) before.sent) (repeat.state)
    ∙ ap (λ (node : NodeState). map (stamped node.number second.ticket node.current_epoch) before.sent) keeps
    ∙ ap (λ (node : NodeState). map (stamped node.number second.ticket node.current_epoch) before.sent) first.step.state in
    let in_outputs : map (with_ticket second.ticket) (map (stamped before.state.number first.ticket before.state.current_epoch) before.sent) ≡ map (with_ticket again.ticket) outputs.sent =
    ap (map (with_ticket second.ticket)) (sym (ap (λ (o : Outputs). o.sent) first.step.outputs_are))
    ∙ ap (λ (ticket : ℕ). map (with_ticket ticket) outputs.sent) (sym (ap (λ (o : Outputs). o.ticket) second.step.outputs_are)) in
    record {
      state = subst (KeepsAllButConnections later) (sym second.step.state) repeat.state;
      released = ap (λ (o : Outputs). o.released) second.step.outputs_are ∙ repeat.released;
      response = λ takes. response ∙ repeat.response (λ nothing. takes (response ∙ nothing)) ∙ sym first_response;
      sent = λ takes. as_before takes ∙ same_stamp ∙ restamped before.state.number before.state.current_epoch first.ticket second.ticket before.sent ∙ in_outputs;
    }

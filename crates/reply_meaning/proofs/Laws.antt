-- What the answers to requests tell, by the command.
use Rattle.std.proofs.Common.{◌≡◌, ℕ, Bool, true, false, not, List, Option, Some, None, refl, sym, ap, subst, ◌∙◌}
use Rattle.std.specs.Prelude.{MatchBool, Result, Ok, Err, decimal, slice_get}
use Rattle.cluster_config.specs.declared.config.NodeConfig.{NodeConfig}
use Rattle.command_table.specs.ClusterTable.{asking, number_or_fault}
use Rattle.command_table.specs.Keys.{data_keys}
use Rattle.command_table.specs.Numbers.{positive_of}
use Rattle.command_table.specs.Table.{command_of}
use Rattle.command_table.specs.declared.command.ClusterCommand.{ClusterCommand}
use Rattle.command_table.specs.declared.command.ClusterCommand.TheVariants as cluster
use Rattle.command_table.specs.declared.command.Command.{Command}
use Rattle.command_table.specs.declared.command.Command.TheVariants.{Data, Cluster}
use Rattle.command_table.specs.declared.command.DataCommand.{DataCommand}
use Rattle.command_table.specs.declared.command.SlotOrder.{SlotOrder}
use Rattle.command_table.specs.declared.command.SlotOrder.TheVariants.{Importing, Migrating, Node}
use Rattle.command_table.specs.declared.fault.CommandFault.{CommandFault}
use Rattle.connections.specs.Connections.{connection_at}
use Rattle.connections.specs.declared.conn.Conn.{Conn}
use Rattle.connections.specs.declared.conn.Connection.{Connection}
use Rattle.keyspace.specs.Commands.{values_at}
use Rattle.migrate.specs.declared.sending.CopyVerdict.{CopyVerdict}
use Rattle.migrate.specs.declared.sending.CopyVerdict.TheVariants as copies
use Rattle.redirection.proofs.Parts.{positive_is_read}
use Rattle.redirection.specs.Redirection.{IsMove}
use Rattle.redirect.specs.declared.decision.Decision.{Decision}
use Rattle.redirect.specs.declared.decision.Decision.TheVariants.{Serve, ServeImport, CrossSlot, Down, TryAgain, Ask, Moved}
use Rattle.redirect.specs.declared.decision.Reason.TheVariants.{Frozen, SomeAreMissing, HandingOver}
use Rattle.slot_state.specs.declared.ending.NodeVerdict.{NodeVerdict}
use Rattle.slot_state.specs.declared.ending.NodeVerdict.TheVariants as ending
use Rattle.smart_client.specs.Words.{asking_words}
use Rattle.node_step.specs.Commands.{ask_reply, command_outcome, decision_on, moved_reply, named}
use Rattle.node_step.specs.Copies.{copy_outcome, copy_verdict_on, first_slot, node_at, those_there}
use Rattle.node_step.specs.Orders.{done, ending_outcome, ending_verdict}
use Rattle.node_step.specs.Outcome.{Outcome, silent}
use Rattle.node_step.specs.Requests.{asking_of, by_command, cluster_outcome, is_numbered, node_with_id, order_outcome, request_outcome, using_up}
use Rattle.node_step.specs.State.{NodeState, own_master}
use Rattle.node_step.specs.Step.{IsAnswering, written}
use Rattle.node_step.specs.declared.outputs.Outputs.{Outputs}
use Rattle.node_step.specs.declared.response.Answer.{Answer}
use Rattle.node_step.specs.declared.response.Response.{Response}
use Rattle.node_step.specs.declared.response.Response.TheVariants.{Replied}
use Rattle.world_run.specs.Executed.{decision_in, is_served}
use Rattle.reply_meaning.specs.Law.{Answers, ClientsAreAnswered, ClusterWordsAreNotExecuted, IsOfClient, PreparationsAreWelcome, RepliesTellExecution}
use Rattle.reply_meaning.specs.Law.IsOfClient.{command as plain_command, numbers as plain_numbers, asks as plain_asks}
use Rattle.reply_meaning.specs.Law.Prepares.{numbers, asks}
use Rattle.reply_meaning.specs.Refusal.{is_refusal}
use Rattle.reply_meaning.proofs.Executions.{told}
use Rattle.node_step.proofs.WithWritten.{with_written_response}
use Rattle.reply_meaning.proofs.Steps.{Says, says_so}
use Rattle.reply_meaning.proofs.Words.{IsOfCluster, IsOfData, cluster_words, data_words}
use Rattle.reply_meaning.proofs.Words.IsOfCluster.{order, none}
use Rattle.reply_meaning.proofs.Words.IsOfData.{command, fault}
use Rattle.node_step.specs.Handovers.{failover}

-- ---- words about the cluster execute nothing

abbrev IsIdle : Answer → Type 0
IsIdle answer = is_served (decision_in answer.why) ≡ false

ending_idle : (node : NodeState) (slot : ℕ) (verdict : NodeVerdict) → Says IsIdle (ending_outcome node slot verdict).response
ending_idle node slot (ending.Ends drained) = refl
ending_idle node slot ending.UnknownNode = refl
ending_idle node slot ending.OldMove = refl
ending_idle node slot ending.NotDrained = refl
ending_idle node slot ending.IsOwner = refl
ending_idle node slot ending.NotYetOwner = refl

order_idle : (node : NodeState) (slot : ℕ) (which : SlotOrder) (other number : Option ℕ) → Says IsIdle (order_outcome node slot which other number).response
order_idle node slot Importing other number = refl
order_idle node slot Migrating other number = refl
order_idle node slot Node other number = ending_idle node slot (ending_verdict node slot other number)

copy_idle : (node : NodeState) (conn : Conn) (slot : ℕ) (keys : List (List ℕ)) (ticks : ℕ) (verdict : CopyVerdict) → Says IsIdle (copy_outcome node conn slot keys ticks verdict).response
copy_idle node conn slot keys ticks copies.CrossSlot = refl
copy_idle node conn slot keys ticks copies.WrongTarget = refl
copy_idle node conn slot keys ticks copies.NoKey = refl
copy_idle node conn slot keys ticks copies.CopyOutstanding = refl
copy_idle node conn slot keys ticks copies.Exhausted = tt
copy_idle node conn slot keys ticks (copies.SendAgain to number copy) = tt
copy_idle node conn slot keys ticks (copies.Copies to number copy) = tt

failover_idle : (node : NodeState) (master : Option ℕ) → Says IsIdle (failover node master).response
failover_idle node None = refl
failover_idle node (Some master) = refl

cluster_idle : (node : NodeState) (conn : Conn) (which : ClusterCommand) → Says IsIdle (cluster_outcome node conn which).response
cluster_idle node conn (cluster.KeySlot key) = refl
cluster_idle node conn cluster.MyId = refl
cluster_idle node conn cluster.Slots = refl
cluster_idle node conn (cluster.CountKeysInSlot slot) = refl
cluster_idle node conn (cluster.GetKeysInSlot slot count) = refl
cluster_idle node conn (cluster.SlotState slot) = refl
cluster_idle node conn (cluster.SetSlot slot which id number) = order_idle node slot which (node_with_id node id) number
cluster_idle node conn cluster.Numbered = refl
cluster_idle node conn cluster.Failover = failover_idle node (own_master node)
cluster_idle node conn (cluster.Asking number) = refl
cluster_idle node conn (cluster.Migrate host port keys timeout) = copy_idle node conn (first_slot keys) (those_there node.keyspace keys) timeout (copy_verdict_on node keys (node_at node host port))

words_idle : (node : NodeState) (conn : Conn) (connection : Option Connection) (words : Result Command CommandFault) → IsOfCluster words
    → Says IsIdle (by_command node conn connection words).response
words_idle node conn connection (Ok (Cluster _)) (order which) = cluster_idle node conn which
words_idle node conn connection (Ok (Data _)) is = elim is [ ]
words_idle node conn connection (Err _) (none why) = refl

pub not_executed : ClusterWordsAreNotExecuted
not_executed node conn words answer answers is =
    says_so IsIdle node conn words answer answers
    (words_idle (using_up node conn) conn (connection_at node.connections conn) (command_of words) (cluster_words words is))

-- ---- what stands in front of a command

abbrev IsDone : Answer → Type 0
IsDone answer = answer.reply ≡ done

done_by : (node : NodeState) (conn : Conn) (words : List (List ℕ)) (answer : Answer) (which : ClusterCommand)
    → Says IsDone (cluster_outcome (using_up node conn) conn which).response
    → command_of words ≡ Ok (Cluster which) → Answers node conn words answer → answer.reply ≡ done
done_by node conn words answer which says is answers =
    says_so IsDone node conn words answer answers
    (subst (λ (c : Result Command CommandFault). Says IsDone (request_outcome node conn c).response) (sym is) says)

pub asking_is : (number : ℕ) → IsMove (Some number) → command_of (asking_words number) ≡ Ok (Cluster (cluster.Asking (Some number)))
asking_is number is =
    ap (λ (n : Option ℕ). asking (number_or_fault n)) (positive_is_read (decimal number) number refl is.0 is.1)

pub welcome : PreparationsAreWelcome
welcome node conn words answer answers (numbers is) =
    done_by node conn words answer cluster.Numbered refl (ap command_of is ∙ refl) answers
welcome node conn words answer answers (asks number move is) =
    done_by node conn words answer (cluster.Asking (Some number)) refl (ap command_of is ∙ asking_is number move) answers

-- ---- commands on keys

abbrev IsTold : Answer → Type 0
IsTold answer = is_served (decision_in answer.why) ≡ not (is_refusal answer.reply)

ask_refuses : (slot : ℕ) (node : Option NodeConfig) (numbered : Bool) (number : ℕ) → is_refusal (ask_reply slot node (named numbered number)) ≡ true
ask_refuses slot None numbered number = refl
ask_refuses slot (Some node) true number = refl
ask_refuses slot (Some node) false number = refl

moved_refuses : (slot : ℕ) (node : Option NodeConfig) → is_refusal (moved_reply slot node) ≡ true
moved_refuses slot None = refl
moved_refuses slot (Some node) = refl

command_told : (node : NodeState) (numbered : Bool) (which : DataCommand) (why : Decision) → Says IsTold (command_outcome node numbered which why).response
command_told node numbered which Serve = ap not (sym (told which (values_at node.keyspace (data_keys which))))
command_told node numbered which (ServeImport number) = ap not (sym (told which (values_at node.keyspace (data_keys which))))
command_told node numbered which CrossSlot = refl
command_told node numbered which Down = refl
command_told node numbered which (TryAgain Frozen) = refl
command_told node numbered which (TryAgain SomeAreMissing) = refl
command_told node numbered which (TryAgain HandingOver) = refl
command_told node numbered which (Ask slot to number) = ap not (sym (ask_refuses slot (slice_get node.config.nodes to) numbered number))
command_told node numbered which (Moved slot to) = ap not (sym (moved_refuses slot (slice_get node.config.nodes to)))

words_told : (node : NodeState) (conn : Conn) (connection : Option Connection) (words : Result Command CommandFault) → IsOfData words
    → Says IsTold (by_command node conn connection words).response
words_told node conn connection (Ok (Data _)) (command which) = command_told node (is_numbered connection) which (decision_on node which (asking_of connection))
words_told node conn connection (Ok (Cluster _)) is = elim is [ ]
words_told node conn connection (Err _) (fault why refuses) = ap not (sym refuses)

pub tell : RepliesTellExecution
tell node conn words answer answers plain =
    says_so IsTold node conn words answer answers
    (words_told (using_up node conn) conn (connection_at node.connections conn) (command_of words) (data_words words plain))

-- ---- a client is answered

abbrev IsAnswered : Response → Type 0
IsAnswered response = (answer : Answer) × (response ≡ Replied answer)

command_answered : (node : NodeState) (numbered : Bool) (which : DataCommand) (why : Decision) → IsAnswered (command_outcome node numbered which why).response
command_answered node numbered which Serve = (_, refl)
command_answered node numbered which (ServeImport number) = (_, refl)
command_answered node numbered which CrossSlot = (_, refl)
command_answered node numbered which Down = (_, refl)
command_answered node numbered which (TryAgain reason) = (_, refl)
command_answered node numbered which (Ask slot to number) = (_, refl)
command_answered node numbered which (Moved slot to) = (_, refl)

words_answered : (node : NodeState) (conn : Conn) (connection : Option Connection) (words : Result Command CommandFault) → IsOfData words
    → IsAnswered (by_command node conn connection words).response
words_answered node conn connection (Ok (Data _)) (command which) = command_answered node (is_numbered connection) which (decision_on node which (asking_of connection))
words_answered node conn connection (Ok (Cluster _)) is = elim is [ ]
words_answered node conn connection (Err _) (fault why refuses) = (_, refl)

asking_answered : (node : NodeState) (conn : Conn) (number : Option ℕ) → IsAnswered (request_outcome node conn (asking (number_or_fault number))).response
asking_answered node conn None = (_, refl)
asking_answered node conn (Some number) = (_, refl)

client_answered : (node : NodeState) (conn : Conn) (words : List (List ℕ)) → IsOfClient words → IsAnswered (request_outcome node conn (command_of words)).response
client_answered node conn words (plain_command plain) =
    words_answered (using_up node conn) conn (connection_at node.connections conn) (command_of words) (data_words words plain)
client_answered node conn words (plain_numbers is) =
    subst (λ (ws : List (List ℕ)). IsAnswered (request_outcome node conn (command_of ws)).response) (sym is) (_, refl)
client_answered node conn words (plain_asks number is) =
    subst (λ (ws : List (List ℕ)). IsAnswered (request_outcome node conn (command_of ws)).response) (sym is) (asking_answered node conn (positive_of (decimal number)))

pub client_is_answered : ClientsAreAnswered
client_is_answered ticket node after conn words outputs step may_be client =
    let may = subst (λ (b : Bool). MatchBool b (IsAnswering node conn words step.outcome) (step.outcome ≡ silent node)) may_be step.may_come in
    let same : (request_outcome node conn (command_of words)).response ≡ outputs.response =
    sym (with_written_response (request_outcome node conn (command_of words)) (written node conn words) may.dropped)
    ∙ ap (λ (o : Outcome). o.response) (sym may.comes_to) ∙ sym (ap (λ (o : Outputs). o.response) step.outputs_are) in
    subst IsAnswered same (client_answered node conn words client)

-- An ASK that names a move is of that move.
use Rattle.std.proofs.Common.{◌≡◌, ℕ, ◌<◌, ◌^◌, Bool, true, false, List, [], ◌∷◌, ◌++◌, get_or, Option, Some, None, refl, sym, ap, subst, ◌∙◌, append_assoc, append-nil, arith}
use Rattle.std.specs.Prelude.{Result, Ok, Err, codes, decimal, slice_get}
use Rattle.cluster_config.specs.declared.config.NodeConfig.{NodeConfig}
use Rattle.command_table.specs.ErrorLine.{error_text, line_of}
use Rattle.redirection.specs.Texts.{ask_text, moved_text}
use Rattle.command_table.specs.Keys.{data_keys}
use Rattle.command_table.specs.Table.{command_of}
use Rattle.command_table.specs.declared.command.ClusterCommand.{ClusterCommand}
use Rattle.command_table.specs.declared.command.ClusterCommand.TheVariants as cluster
use Rattle.command_table.specs.declared.command.Command.{Command}
use Rattle.command_table.specs.declared.command.Command.TheVariants.{Data, Cluster}
use Rattle.command_table.specs.declared.command.DataCommand.{DataCommand}
use Rattle.command_table.specs.declared.command.SlotOrder.{SlotOrder}
use Rattle.command_table.specs.declared.command.SlotOrder.TheVariants.{Importing, Migrating, Node}
use Rattle.command_table.specs.declared.error_line.ErrorLine.{ErrorLine}
use Rattle.command_table.specs.declared.error_line.ErrorLine.TheVariants as line
use Rattle.command_table.specs.declared.fault.CommandFault.{CommandFault}
use Rattle.connections.specs.Connections.{connection_at}
use Rattle.connections.specs.declared.conn.Conn.{Conn}
use Rattle.connections.specs.declared.conn.Connection.{Connection}
use Rattle.keyspace.specs.Commands.{values_at}
use Rattle.migrate.specs.declared.sending.CopyVerdict.{CopyVerdict}
use Rattle.migrate.specs.declared.sending.CopyVerdict.TheVariants as copies
use Rattle.redirection.proofs.Numbers.{without_both}
use Rattle.redirection.proofs.Redirections.{ask_in_parts}
use Rattle.redirection.proofs.Splits.{SameSplit, same_split, with_it}
use Rattle.redirection.specs.Address.{Place, address_text}
use Rattle.redirection.specs.Redirection.{IsRedirection}
use Rattle.redirection.specs.Splitting.{is_without, number_text}
use Rattle.redirection.specs.declared.redirection.Redirection.TheVariants as redirection
use Rattle.resp_values.specs.declared.reply.Reply.{Reply}
use Rattle.resp_values.specs.declared.reply.Reply.TheVariants.{Simple, Error, Bulk, Null}
use Rattle.redirect.specs.declared.decision.Decision.{Decision}
use Rattle.redirect.specs.declared.decision.Decision.TheVariants.{Serve, ServeImport, CrossSlot, Down, TryAgain, Ask, Moved}
use Rattle.redirect.specs.declared.decision.Reason.TheVariants.{Frozen, SomeAreMissing, HandingOver}
use Rattle.slot_state.specs.declared.ending.NodeVerdict.{NodeVerdict}
use Rattle.slot_state.specs.declared.ending.NodeVerdict.TheVariants as ending
use Rattle.slot_state.specs.declared.importing.ImportVerdict.{ImportVerdict}
use Rattle.slot_state.specs.declared.importing.ImportVerdict.TheVariants as import
use Rattle.slot_state.specs.declared.migrating.MigrateVerdict.{MigrateVerdict}
use Rattle.slot_state.specs.declared.migrating.MigrateVerdict.TheVariants as migrate
use Rattle.slot_state.specs.Importing.{import_verdict}
use Rattle.slot_state.specs.Migrating.{migrate_verdict}
use Rattle.slot_state.specs.Moves.{last_move_of, move_of}
use Rattle.node_step.specs.Commands.{ask_reply, command_outcome, decision_on, moved_reply, named}
use Rattle.node_step.specs.Copies.{copy_outcome, copy_verdict_on, first_slot, node_at, those_there}
use Rattle.node_step.specs.Orders.{done, ending_outcome, ending_verdict, import_reply, migrate_reply}
use Rattle.node_step.specs.Outcome.{error}
use Rattle.node_step.specs.Reports.{id_reply}
use Rattle.node_step.specs.Requests.{asking_of, by_command, cluster_outcome, is_numbered, node_with_id, order_outcome, using_up}
use Rattle.node_step.specs.State.{NodeState, own_master, standing}
use Rattle.node_step.specs.declared.response.Answer.{Answer}
use Rattle.world_run.specs.Executed.{decision_in}
use Rattle.reply_meaning.specs.Law.{AsksAreOfMoves, IsOfMove}
use Rattle.reply_meaning.specs.Refusal.{is_refusal}
use Rattle.reply_meaning.proofs.Decimals.{has_no_blank, has_no_colon, same_short}
use Rattle.reply_meaning.proofs.Executions.{told}
use Rattle.reply_meaning.proofs.Steps.{Says, says_so}
use Rattle.node_step.specs.Handovers.{failover}

-- ---- texts are split at the last blank or colon

head_is : (one other : ℕ) (xs ys : List ℕ) → one ∷ xs ≡ other ∷ ys → one ≡ other
head_is one other xs ys is = cc

tail_is : (one other : ℕ) (xs ys : List ℕ) → one ∷ xs ≡ other ∷ ys → xs ≡ ys
tail_is one other xs ys is = cc

same_last : (byte : ℕ) (first other rest more : List ℕ) → is_without byte rest ≡ true → is_without byte more ≡ true → first ++ byte ∷ rest ≡ other ++ byte ∷ more
    → SameSplit first other rest more
same_last byte [] [] rest more one two is = record { firsts = refl; rests = tail_is byte byte rest more is }
same_last byte [] (y ∷ other) rest more one two is =
    absurd (with_it byte other more (subst (λ (xs : List ℕ). is_without byte xs ≡ true) (tail_is byte y rest (other ++ byte ∷ more) is) one))
same_last byte (x ∷ first) [] rest more one two is =
    absurd (with_it byte first rest (subst (λ (xs : List ℕ). is_without byte xs ≡ true) (sym (tail_is x byte (first ++ byte ∷ rest) more is)) two))
same_last byte (x ∷ first) (y ∷ other) rest more one two is =
    let tails = same_last byte first other rest more one two (tail_is x y (first ++ byte ∷ rest) (other ++ byte ∷ more) is) in
    let heads = head_is x y (first ++ byte ∷ rest) (other ++ byte ∷ more) is in
    record { firsts = ap (λ (z : ℕ). z ∷ first) heads ∙ ap (λ (xs : List ℕ). y ∷ xs) tails.firsts; rests = tails.rests }

same_behind : (front xs ys : List ℕ) → front ++ xs ≡ front ++ ys → xs ≡ ys
same_behind [] xs ys same = same
same_behind (x ∷ front) xs ys same = same_behind front xs ys cc

address_in_parts : (address : Place) → address_text address ≡ address.host ++ 58 ∷ decimal address.port
address_in_parts address = append_assoc address.host (codes ":") (decimal address.port)

-- ---- which texts are that of an ASK with a number

abbrev pub IsAsk : List ℕ → ℕ → Place → ℕ → Type 0
IsAsk text slot place number = IsRedirection text (redirection.Ask slot place (Some number))

-- the places are the same
same_places : (here there : Place) → there.port < 2 ^ 63 → address_text here ≡ address_text there → here ≡ there
same_places here there small same =
    let split = same_last 58 here.host there.host (decimal here.port) (decimal there.port) (has_no_colon here.port) (has_no_colon there.port)
    (sym (address_in_parts here) ∙ same ∙ address_in_parts there) in
    let ports = same_short here.port there.port small split.rests in
    λ i. record { host = split.firsts i; port = ports i }

-- without a number the text is that of no ASK with one
numberless : (here there : Place) (number : ℕ) → address_text here ++ [] ≡ address_text there ++ 32 ∷ decimal number → ⊥
numberless here there number same =
    let tail : List ℕ = decimal there.port ++ 32 ∷ decimal number in
    let longer : address_text there ++ 32 ∷ decimal number ≡ there.host ++ 58 ∷ tail =
    ap (λ (xs : List ℕ). xs ++ 32 ∷ decimal number) (address_in_parts there) ∙ append_assoc there.host (58 ∷ decimal there.port) (32 ∷ decimal number) in
    let split = same_last 58 here.host there.host (decimal here.port) tail (has_no_colon here.port)
    (without_both 58 (decimal there.port) (32 ∷ decimal number) (has_no_colon there.port) (has_no_colon number))
    (sym (address_in_parts here) ∙ sym (append-nil (address_text here)) ∙ same ∙ longer) in
    with_it 32 (decimal there.port) (decimal number) (subst (λ (xs : List ℕ). is_without 32 xs ≡ true) split.rests (has_no_blank here.port))

-- the slots are the same, and what stands behind them
behind_ask : (slot : ℕ) (here : Place) (move : Option ℕ) (text : List ℕ) (other : ℕ) (there : Place) (number : ℕ) → text ≡ ask_text slot here.host here.port move → IsAsk text other there number
    → SameSplit (decimal slot) (decimal other) (address_text here ++ number_text move) (address_text there ++ 32 ∷ decimal number)
behind_ask slot here move text other there number is ask =
    same_split 32 (decimal slot) (decimal other) (address_text here ++ number_text move) (address_text there ++ 32 ∷ decimal number) (has_no_blank slot) (has_no_blank other)
    (same_behind (codes "ASK ") _ _ (sym (ask_in_parts slot here move) ∙ sym is ∙ ask.text_is ∙ ask_in_parts other there (Some number)))

pub record SameAsk (slot other : ℕ) (here there : Place) (move number : ℕ) : Type 0 where
  pub slots : slot ≡ other
  pub places : here ≡ there
  pub numbers : move ≡ number

same_ask : (slot : ℕ) (here : Place) (move : ℕ) (text : List ℕ) (other : ℕ) (there : Place) (number : ℕ) → text ≡ ask_text slot here.host here.port (Some move) → IsAsk text other there number
    → SameAsk slot other here there move number
same_ask slot here move text other there number is ask =
    let split = behind_ask slot here (Some move) text other there number is ask in
    let ends = same_last 32 (address_text here) (address_text there) (decimal move) (decimal number) (has_no_blank move) (has_no_blank number) split.rests in
    record {
      slots = same_short slot other (omega (arith, ask.slot)) split.firsts;
      places = same_places here there (omega (arith, ask.to.port.1)) ends.firsts;
      numbers = same_short move number (omega (arith, ask.number.1)) ends.rests;
    }

no_numberless : (slot : ℕ) (here : Place) (text : List ℕ) (other : ℕ) (there : Place) (number : ℕ) → text ≡ ask_text slot here.host here.port None → IsAsk text other there number → ⊥
no_numberless slot here text other there number is ask =
    numberless here there number (behind_ask slot here None text other there number is ask).rests

-- ---- which replies are none

abbrev pub IsNoAsk : Reply → Type 0
IsNoAsk reply = (text : List ℕ) (slot : ℕ) (place : Place) (number : ℕ) → reply ≡ Error text → IsAsk text slot place number → ⊥

same_text : (one other : List ℕ) → Error one ≡ Error other → one ≡ other
same_text one other is = cc

-- what was executed is no refusal, as each ASK is
pub told_is_none : (reply : Reply) → is_refusal reply ≡ false → IsNoAsk reply
told_is_none reply executed text slot place number is ask =
    let refuses : is_refusal (Error (ask_text slot place.host place.port (Some number))) ≡ true = refl in
    let same : is_refusal reply ≡ is_refusal (Error (ask_text slot place.host place.port (Some number))) = ap is_refusal is ∙ ap (λ (t : List ℕ). is_refusal (Error t)) ask.text_is in
    cc

-- another first letter
begins_other : (one : List ℕ) → ((get_or one 0 0 ≡ 65) → ⊥) → IsNoAsk (Error one)
begins_other one none text slot place number is ask = none (ap (λ (xs : List ℕ). get_or xs 0 0) (same_text one text is ∙ ask.text_is))

line_begins : (which : ErrorLine) → get_or (error_text which) 0 0 ≡ 65 → ⊥
line_begins line.Protocol is = omega (arith, is)
line_begins line.OutOfMemory is = omega (arith, is)
line_begins line.Exhausted is = omega (arith, is)
line_begins line.UnknownCommand is = omega (arith, is)
line_begins line.UnknownSubcommand is = omega (arith, is)
line_begins line.Syntax is = omega (arith, is)
line_begins line.CrossSlot is = omega (arith, is)
line_begins line.SlotDown is = omega (arith, is)
line_begins line.TooLong is = omega (arith, is)
line_begins line.NotAnInteger is = omega (arith, is)
line_begins line.HashNotAnInteger is = omega (arith, is)
line_begins line.Overflow is = omega (arith, is)
line_begins line.WrongType is = omega (arith, is)
line_begins line.InvalidSlot is = omega (arith, is)
line_begins line.HandingOver is = omega (arith, is)
line_begins line.NotReplica is = omega (arith, is)
line_begins line.NodePaused is = omega (arith, is)
line_begins line.SomeKeysMissing is = omega (arith, is)
line_begins line.KeyFrozen is = omega (arith, is)
line_begins line.TableNotUpdated is = omega (arith, is)
line_begins line.OldMove is = omega (arith, is)
line_begins line.SlotBusy is = omega (arith, is)
line_begins line.NotOwner is = omega (arith, is)
line_begins line.AlreadyOwner is = omega (arith, is)
line_begins line.NotDrained is = omega (arith, is)
line_begins line.UnknownNode is = omega (arith, is)
line_begins line.CopyOutstanding is = omega (arith, is)
line_begins line.WrongTarget is = omega (arith, is)
line_begins line.NotAcknowledged is = omega (arith, is)
line_begins (line.WrongArity name) is = omega (arith, is)

pub line_is_none : (which : ErrorLine) → IsNoAsk (error which)
line_is_none which = begins_other (error_text which) (line_begins which)

moved_is_none : (slot : ℕ) (node : Option NodeConfig) → IsNoAsk (moved_reply slot node)
moved_is_none slot None = line_is_none line.SlotDown
moved_is_none slot (Some node) = begins_other (moved_text slot node.host node.port) (λ (is : get_or (moved_text slot node.host node.port) 0 0 ≡ 65). omega (arith, is))

-- ---- by the command

-- what the law says of an answer
abbrev IsRight : NodeState → Answer → Type 0
IsRight node answer = (text : List ℕ) (slot : ℕ) (place : Place) (number : ℕ) → answer.reply ≡ Error text → IsAsk text slot place number
    → IsOfMove node slot place number (decision_in answer.why)

right_if_none : (node : NodeState) (reply : Reply) (decided : Option Decision) → IsNoAsk reply → (text : List ℕ) (slot : ℕ) (place : Place) (number : ℕ) → reply ≡ Error text
    → IsAsk text slot place number → IsOfMove node slot place number decided
right_if_none node reply decided none text slot place number is ask = absurd (none text slot place number is ask)

ask_right : (node : NodeState) (slot to move : ℕ) (numbered : Bool) (there : Option NodeConfig) → slice_get node.config.nodes to ≡ there
    → (text : List ℕ) (other : ℕ) (place : Place) (number : ℕ) → ask_reply slot there (named numbered move) ≡ Error text → IsAsk text other place number
    → IsOfMove node other place number (Some (Ask slot to move))
ask_right node slot to move numbered None at text other place number is ask = absurd (line_is_none line.SlotDown text other place number is ask)
ask_right node slot to move false (Some there) at text other place number is ask =
    absurd (no_numberless slot (record { host = there.host; port = there.port }) text other place number (sym (same_text _ text is)) ask)
ask_right node slot to move true (Some there) at text other place number is ask =
    let same = same_ask slot (record { host = there.host; port = there.port }) move text other place number (sym (same_text _ text is)) ask in
    record {
      to = to;
      config = there;
      decision = ap (λ (n : ℕ). Some (Ask n to move)) same.slots ∙ ap (λ (n : ℕ). Some (Ask other to n)) same.numbers;
      is_node = at;
      is_there = sym same.places;
    }

command_right : (node : NodeState) (numbered : Bool) (which : DataCommand) (why : Decision) → Says (IsRight node) (command_outcome node numbered which why).response
command_right node numbered which Serve = right_if_none node _ _ (told_is_none _ (told which (values_at node.keyspace (data_keys which))))
command_right node numbered which (ServeImport number) = right_if_none node _ _ (told_is_none _ (told which (values_at node.keyspace (data_keys which))))
command_right node numbered which CrossSlot = right_if_none node _ _ (line_is_none line.CrossSlot)
command_right node numbered which Down = right_if_none node _ _ (line_is_none line.SlotDown)
command_right node numbered which (TryAgain Frozen) = right_if_none node _ _ (line_is_none line.KeyFrozen)
command_right node numbered which (TryAgain SomeAreMissing) = right_if_none node _ _ (line_is_none line.SomeKeysMissing)
command_right node numbered which (TryAgain HandingOver) = right_if_none node _ _ (line_is_none line.HandingOver)
command_right node numbered which (Ask slot to number) = ask_right node slot to number numbered (slice_get node.config.nodes to) refl
command_right node numbered which (Moved slot to) = right_if_none node _ _ (moved_is_none slot (slice_get node.config.nodes to))

-- ---- words about the cluster

done_is_none : IsNoAsk done
done_is_none = told_is_none done refl

id_is_none : (there : Option NodeConfig) → IsNoAsk (id_reply there)
id_is_none None = told_is_none Null refl
id_is_none (Some there) = told_is_none (Bulk there.id) refl

import_is_none : (verdict : ImportVerdict) → IsNoAsk (import_reply verdict)
import_is_none import.UnknownNode = line_is_none line.UnknownNode
import_is_none import.Already = done_is_none
import_is_none import.HandingOver = line_is_none line.NodePaused
import_is_none import.Busy = line_is_none line.SlotBusy
import_is_none import.AlreadyOwner = line_is_none line.AlreadyOwner
import_is_none import.NotOwner = line_is_none line.NotOwner
import_is_none import.OldMove = line_is_none line.OldMove
import_is_none (import.Begins from number) = done_is_none

migrate_is_none : (verdict : MigrateVerdict) → IsNoAsk (migrate_reply verdict)
migrate_is_none migrate.UnknownNode = line_is_none line.UnknownNode
migrate_is_none migrate.Already = done_is_none
migrate_is_none migrate.HandingOver = line_is_none line.NodePaused
migrate_is_none migrate.Busy = line_is_none line.SlotBusy
migrate_is_none migrate.NotOwner = line_is_none line.NotOwner
migrate_is_none migrate.OldMove = line_is_none line.OldMove
migrate_is_none (migrate.Begins to number) = done_is_none

ending_right : (node : NodeState) (slot : ℕ) (verdict : NodeVerdict) → Says (IsRight node) (ending_outcome node slot verdict).response
ending_right node slot (ending.Ends drained) = right_if_none node _ _ done_is_none
ending_right node slot ending.UnknownNode = right_if_none node _ _ (line_is_none line.UnknownNode)
ending_right node slot ending.OldMove = right_if_none node _ _ (line_is_none line.OldMove)
ending_right node slot ending.NotDrained = right_if_none node _ _ (line_is_none line.NotDrained)
ending_right node slot ending.IsOwner = right_if_none node _ _ done_is_none
ending_right node slot ending.NotYetOwner = right_if_none node _ _ (line_is_none line.TableNotUpdated)

order_right : (node : NodeState) (slot : ℕ) (which : SlotOrder) (other number : Option ℕ) → Says (IsRight node) (order_outcome node slot which other number).response
order_right node slot Importing other number =
    right_if_none node _ _ (import_is_none (import_verdict (standing node slot) (move_of node.moves slot) (last_move_of node.moves slot) other number))
order_right node slot Migrating other number =
    right_if_none node _ _ (migrate_is_none (migrate_verdict (standing node slot) (move_of node.moves slot) (last_move_of node.moves slot) other number))
order_right node slot Node other number = ending_right node slot (ending_verdict node slot other number)

copy_right : (node : NodeState) (conn : Conn) (slot : ℕ) (keys : List (List ℕ)) (ticks : ℕ) (verdict : CopyVerdict) → Says (IsRight node) (copy_outcome node conn slot keys ticks verdict).response
copy_right node conn slot keys ticks copies.CrossSlot = right_if_none node _ _ (line_is_none line.CrossSlot)
copy_right node conn slot keys ticks copies.WrongTarget = right_if_none node _ _ (line_is_none line.WrongTarget)
copy_right node conn slot keys ticks copies.NoKey = right_if_none node _ _ (told_is_none (Simple (codes "NOKEY")) refl)
copy_right node conn slot keys ticks copies.CopyOutstanding = right_if_none node _ _ (line_is_none line.CopyOutstanding)
copy_right node conn slot keys ticks copies.Exhausted = tt
copy_right node conn slot keys ticks (copies.SendAgain to number copy) = tt
copy_right node conn slot keys ticks (copies.Copies to number copy) = tt

failover_right : (node : NodeState) (master : Option ℕ) → Says (IsRight node) (failover node master).response
failover_right node None = right_if_none node _ _ (line_is_none line.NotReplica)
failover_right node (Some master) = right_if_none node _ _ done_is_none

cluster_right : (node : NodeState) (conn : Conn) (which : ClusterCommand) → Says (IsRight node) (cluster_outcome node conn which).response
cluster_right node conn (cluster.KeySlot key) = right_if_none node _ _ (told_is_none _ refl)
cluster_right node conn cluster.MyId = right_if_none node _ _ (id_is_none (slice_get node.config.nodes node.number))
cluster_right node conn cluster.Slots = right_if_none node _ _ (told_is_none _ refl)
cluster_right node conn (cluster.CountKeysInSlot slot) = right_if_none node _ _ (told_is_none _ refl)
cluster_right node conn (cluster.GetKeysInSlot slot count) = right_if_none node _ _ (told_is_none _ refl)
cluster_right node conn (cluster.SlotState slot) = right_if_none node _ _ (told_is_none _ refl)
cluster_right node conn (cluster.SetSlot slot which id number) = order_right node slot which (node_with_id node id) number
cluster_right node conn cluster.Numbered = right_if_none node _ _ done_is_none
cluster_right node conn cluster.Failover = failover_right node (own_master node)
cluster_right node conn (cluster.Asking number) = right_if_none node _ _ done_is_none
cluster_right node conn (cluster.Migrate host port keys timeout) = copy_right node conn (first_slot keys) (those_there node.keyspace keys) timeout (copy_verdict_on node keys (node_at node host port))

-- ---- all words

words_right : (node : NodeState) (conn : Conn) (connection : Option Connection) (words : Result Command CommandFault)
    → Says (IsRight node) (by_command node conn connection words).response
words_right node conn connection (Err why) = right_if_none node _ _ (line_is_none (line_of why))
words_right node conn connection (Ok (Cluster which)) = cluster_right node conn which
words_right node conn connection (Ok (Data which)) = command_right node (is_numbered connection) which (decision_on node which (asking_of connection))

-- that an asking is used up changes no node
pub of_moves : AsksAreOfMoves
of_moves node conn words answer text slot place number answers is ask =
    let right = says_so (IsRight (using_up node conn)) node conn words answer answers
    (words_right (using_up node conn) conn (connection_at node.connections conn) (command_of words)) text slot place number is ask in
    record { to = right.to; config = right.config; decision = right.decision; is_node = right.is_node; is_there = right.is_there }

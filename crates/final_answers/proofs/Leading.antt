-- An error that sends a client on leads to a node of the configuration.
use Rattle.std.proofs.Common.{◌≡◌, ◌<◌, ◌∙◌, ◌==◌, ◌&&◌, ◌||◌, not, ℕ, Bool, true, false, true≢false, List, [], ◌∷◌, Option, None, Some, refl, sym, ap, subst, arith}
use Rattle.std.proofs.lemmas.Bool.{or_parts}
use Rattle.std.specs.Prelude.{Result, Ok, Err, codes, slice_get, ⊤}
use Rattle.cluster_config.specs.Config.{ClusterConfig, IsCluster}
use Rattle.cluster_config.specs.declared.config.NodeConfig.{NodeConfig}
use Rattle.command_table.specs.ErrorLine.{error_text, line_of}
use Rattle.command_table.specs.Keys.{data_keys}
use Rattle.command_table.specs.Table.{command_of}
use Rattle.command_table.specs.declared.command.Command.{Command}
use Rattle.command_table.specs.declared.command.Command.TheVariants.{Data, Cluster}
use Rattle.command_table.specs.declared.command.DataCommand.{DataCommand}
use Rattle.command_table.specs.declared.error_line.ErrorLine.TheVariants as line
use Rattle.command_table.specs.declared.fault.CommandFault.{CommandFault}
use Rattle.command_table.specs.declared.fault.CommandFault.TheVariants.{Unknown, UnknownSubcommand, Arity, Syntax, InvalidSlot, NotAnInteger}
use Rattle.connections.specs.Connections.{connection_at}
use Rattle.connections.specs.declared.conn.Conn.{Conn}
use Rattle.connections.specs.declared.conn.Connection.{Connection}
use Rattle.key_slot.specs.Slot.{hash_slot}
use Rattle.keyspace.specs.Commands.{values_at}
use Rattle.node_step.specs.Commands.{ask_reply, asked_of, command_outcome, decision_on, moved_reply, named}
use Rattle.node_step.specs.Requests.{asking_of, by_command, is_numbered, using_up}
use Rattle.node_step.specs.State.{NodeState}
use Rattle.node_step.specs.declared.response.Answer.{Answer}
use Rattle.redirect.specs.Asked.{Asked, all_there, are_several, is_frozen, is_right, none_there}
use Rattle.redirect.specs.Decision.{at_owner, by_keys, has_other_slot, in_slot, state_at}
use Rattle.redirect.specs.declared.decision.Decision.{Decision}
use Rattle.redirect.specs.declared.decision.Decision.TheVariants.{Serve, ServeImport, CrossSlot, Down, TryAgain, Ask, Moved}
use Rattle.redirect.specs.declared.decision.Reason.TheVariants.{Frozen, SomeAreMissing, HandingOver}
use Rattle.redirection.specs.Redirection.{IsMove}
use Rattle.reply_meaning.proofs.Executions.{told}
use Rattle.reply_meaning.proofs.RefusalKinds.{other_so}
use Rattle.reply_meaning.proofs.Steps.{Says, says_so}
use Rattle.reply_meaning.proofs.Words.{IsOfData, data_words}
use Rattle.reply_meaning.proofs.Words.IsOfData.{command, fault}
use Rattle.reply_meaning.specs.Law.{Answers}
use Rattle.reply_meaning.specs.Reasons.{is_of_kind}
use Rattle.reply_meaning.specs.Refusal.{begins_so, is_of_no_command, is_refusal}
use Rattle.resp_values.specs.declared.reply.Reply.{Reply}
use Rattle.resp_values.specs.declared.reply.Reply.TheVariants.{Error}
use Rattle.slot_state.specs.Moves.{move_of}
use Rattle.slot_state.specs.State.{state_of}
use Rattle.slot_state.specs.declared.running.Move.{Move}
use Rattle.slot_state.specs.declared.running.Move.TheVariants.{Leaves, Comes}
use Rattle.slot_state.specs.declared.state.SlotState.{SlotState}
use Rattle.slot_state.specs.declared.state.SlotState.TheVariants.{Owned, Foreign, Moving}
use Rattle.slot_table.specs.Table.{owner_at}
use Rattle.smart_client.specs.Words.{is_refused}
use Rattle.final_answers.proofs.MoveNumbers.{HasNameable, IsNameable, either}
use Rattle.final_answers.proofs.Placed.{Leads, any_ask_leads, ask_leads, moved_leads}

-- ---- decisions

-- what is named can be read back: the slot is one, and the number that of a move
abbrev IsSound : Decision → Type 0
IsSound (Ask slot to number) = (slot < 16384) × IsMove (Some number)
IsSound (Moved slot to) = slot < 16384
IsSound _ = ⊤

slot_below : (key : List ℕ) → hash_slot key < 16384
unfolding hash_slot
slot_below key = omega arith

abbrev MovesSo : SlotState Move → Type 0
MovesSo (Moving move) = IsNameable move
MovesSo _ = ⊤

module _ (slot : ℕ) (below : slot < 16384) where
  owner_sound : (owner : Option ℕ) → IsSound (at_owner slot owner)
  owner_sound None = tt
  owner_sound (Some owner) = below

  slot_sound : (owner : Option ℕ) (state : SlotState Move) (asked : Asked) → MovesSo state → IsSound (in_slot slot owner state asked)
  slot_sound owner (Moving (Comes from number last drained)) asked is =
      either IsSound (is_right asked.asking number) _ _
      (either IsSound (are_several asked.keys && not (all_there asked)) (TryAgain SomeAreMissing) (ServeImport number) tt tt) (owner_sound owner)
  slot_sound None (Moving (Leaves to number copies frozen)) asked is = tt
  slot_sound (Some owner) (Moving (Leaves to number copies frozen)) asked is =
      either IsSound (is_frozen frozen asked.keys) _ _ tt
      (either IsSound (all_there asked) _ _ tt (either IsSound (none_there asked) (Ask slot to number) (TryAgain SomeAreMissing) (below, is) tt))
  slot_sound None Owned asked is = tt
  slot_sound (Some owner) Owned asked is = either IsSound asked.paused (TryAgain HandingOver) Serve tt tt
  slot_sound owner Foreign asked is = owner_sound owner

state_so : (owner : Option ℕ) (move : Option Move) (node : ℕ) → ((one : Move) → move ≡ Some one → IsNameable one) → MovesSo (state_of owner move node)
state_so owner (Some move) node is = is move refl
state_so (Some owner) None node is = either MovesSo (owner == node) Owned Foreign tt tt
state_so None None node is = tt

keys_sound : (node : NodeState) → HasNameable node → (keys : List (List ℕ)) (asked : Asked) → IsSound (by_keys node.table node.moves node.number keys asked)
keys_sound node all [] asked = tt
keys_sound node all (key ∷ others) asked =
    either IsSound (has_other_slot (hash_slot key) others) _ _ tt
    (slot_sound (hash_slot key) (slot_below key) (owner_at node.table (hash_slot key)) (state_at node.table node.moves node.number (hash_slot key)) asked
    (state_so (owner_at node.table (hash_slot key)) (move_of node.moves (hash_slot key)) node.number (all (hash_slot key))))

-- ---- replies

-- MOVED or ASK
abbrev pub names_node : List ℕ → Bool
names_node text = is_of_kind text (codes "MOVED") || is_of_kind text (codes "ASK")

-- the reply leads to a node, if it is one of these
abbrev pub CanFollow : List NodeConfig → Bool → Reply → Type 0
CanFollow nodes numbered reply = (text : List ℕ) → reply ≡ Error text → names_node text ≡ true → Leads nodes numbered text

abbrev text_in : Reply → List ℕ
text_in (Error text) = text
text_in _ = []

module _ (nodes : List NodeConfig) (numbered : Bool) where
  -- an error of another kind
  pub other : (text : List ℕ) → names_node text ≡ false → CanFollow nodes numbered (Error text)
  other text none same is names = absurd (true≢false (sym names ∙ ap names_node (ap text_in (sym is)) ∙ none))

  leads_so : (text : List ℕ) → Leads nodes numbered text → CanFollow nodes numbered (Error text)
  leads_so text leads same is names = subst (Leads nodes numbered) (ap text_in is) leads

  -- what was executed
  executed : (reply : Reply) → is_refusal reply ≡ false → CanFollow nodes numbered reply
  executed reply told text is names =
      let kinds = other_so text (or_parts (begins_so text) (is_of_no_command text) (sym (ap is_refusal is) ∙ told)).0 in
      let none : names_node text ≡ false = ap (λ (b : Bool). b || is_of_kind text (codes "ASK")) kinds.moved ∙ kinds.ask in
      absurd (true≢false (sym names ∙ none))

  fault_other : (why : CommandFault) → names_node (error_text (line_of why)) ≡ false
  fault_other Unknown = refl
  fault_other UnknownSubcommand = refl
  fault_other (Arity name) = refl
  fault_other Syntax = refl
  fault_other InvalidSlot = refl
  fault_other NotAnInteger = refl

-- the words are a command
module _ (config : ClusterConfig) (cluster_is : IsCluster config) where
  ask_can : (slot to number : ℕ) → IsSound (Ask slot to number) → (numbered : Bool) (there : Option NodeConfig) → slice_get config.nodes to ≡ there
      → CanFollow config.nodes numbered (ask_reply slot there (named numbered number))
  ask_can slot to number sound numbered None is = other config.nodes numbered (error_text line.SlotDown) refl
  ask_can slot to number sound true (Some node) is = leads_so config.nodes true _ (ask_leads config cluster_is to node is slot sound.0 number sound.1)
  ask_can slot to number sound false (Some node) is = leads_so config.nodes false _ (any_ask_leads config cluster_is to node is slot sound.0)

  moved_can : (slot to : ℕ) → slot < 16384 → (numbered : Bool) (there : Option NodeConfig) → slice_get config.nodes to ≡ there → CanFollow config.nodes numbered (moved_reply slot there)
  moved_can slot to below numbered None is = other config.nodes numbered (error_text line.SlotDown) refl
  moved_can slot to below numbered (Some node) is = leads_so config.nodes numbered _ (moved_leads config cluster_is to node is slot below numbered)

module _ (node : NodeState) (cluster_is : IsCluster node.config) (numbered : Bool) where
  abbrev Follows : Answer → Type 0
  Follows answer = CanFollow node.config.nodes numbered answer.reply

  command_can : (which : DataCommand) (why : Decision) → IsSound why → Says Follows (command_outcome node numbered which why).response
  command_can which Serve sound = executed node.config.nodes numbered _ (told which (values_at node.keyspace (data_keys which)))
  command_can which (ServeImport number) sound = executed node.config.nodes numbered _ (told which (values_at node.keyspace (data_keys which)))
  command_can which CrossSlot sound = other node.config.nodes numbered (error_text line.CrossSlot) refl
  command_can which Down sound = other node.config.nodes numbered (error_text line.SlotDown) refl
  command_can which (TryAgain Frozen) sound = other node.config.nodes numbered (error_text line.KeyFrozen) refl
  command_can which (TryAgain SomeAreMissing) sound = other node.config.nodes numbered (error_text line.SomeKeysMissing) refl
  command_can which (TryAgain HandingOver) sound = other node.config.nodes numbered (error_text line.HandingOver) refl
  command_can which (Ask slot to number) sound = ask_can node.config cluster_is slot to number sound numbered (slice_get node.config.nodes to) refl
  command_can which (Moved slot to) sound = moved_can node.config cluster_is slot to sound numbered (slice_get node.config.nodes to) refl

words_can : (node : NodeState) → IsCluster node.config → HasNameable node → (conn : Conn) (connection : Option Connection) (words : Result Command CommandFault) → IsOfData words
    → Says (λ (answer : Answer). CanFollow node.config.nodes (is_numbered connection) answer.reply) (by_command node conn connection words).response
words_can node cluster_is all conn connection (Ok (Data _)) (command which) =
    command_can node cluster_is (is_numbered connection) which (decision_on node which (asking_of connection))
    (keys_sound node all (data_keys which) (asked_of node which (asking_of connection)))
words_can node cluster_is all conn connection (Ok (Cluster _)) is = elim is [ ]
words_can node cluster_is all conn connection (Err _) (fault why refuses) =
    other node.config.nodes (is_numbered connection) (error_text (line_of why)) (fault_other node.config.nodes (is_numbered connection) why)

-- a node's answer to a command
pub answer_leads : (node : NodeState) → IsCluster node.config → HasNameable node → (conn : Conn) (words : List (List ℕ)) (answer : Answer) → is_refused words ≡ false → Answers node conn words answer
    → CanFollow node.config.nodes (is_numbered (connection_at node.connections conn)) answer.reply
answer_leads node cluster_is all conn words answer plain answers =
    says_so (λ (answer : Answer). CanFollow node.config.nodes (is_numbered (connection_at node.connections conn)) answer.reply) node conn words answer answers
    (words_can (using_up node conn) cluster_is all conn (connection_at node.connections conn) (command_of words) (data_words words plain))

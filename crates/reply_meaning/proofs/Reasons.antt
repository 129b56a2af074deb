-- Errors have their reasons, and what a client sends needs no number but an offset.
use Rattle.std.proofs.Common.{◌≡◌, ◌&&◌, ◌||◌, ℕ, Bool, true, false, true≢false, List, [], Option, Some, None, refl, sym, ap, subst, ◌∙◌}
use Rattle.std.proofs.lemmas.Bool.{or_parts}
use Rattle.std.specs.Prelude.{Result, Ok, Err, codes, decimal, slice_get}
use Rattle.cluster_config.specs.declared.config.NodeConfig.{NodeConfig}
use Rattle.command_table.specs.ClusterTable.{asking, number_or_fault}
use Rattle.command_table.specs.ErrorLine.{error_text, line_of}
use Rattle.command_table.specs.Keys.{data_keys}
use Rattle.command_table.specs.Numbers.{positive_of}
use Rattle.command_table.specs.Table.{command_of}
use Rattle.command_table.specs.declared.command.Command.{Command}
use Rattle.command_table.specs.declared.command.Command.TheVariants.{Data, Cluster}
use Rattle.command_table.specs.declared.command.DataCommand.{DataCommand}
use Rattle.command_table.specs.declared.error_line.ErrorLine.TheVariants as line
use Rattle.command_table.specs.declared.fault.CommandFault.{CommandFault}
use Rattle.command_table.specs.declared.fault.CommandFault.TheVariants.{Unknown, UnknownSubcommand, Arity, Syntax, InvalidSlot, NotAnInteger}
use Rattle.connections.specs.Connections.{connection_at}
use Rattle.connections.specs.declared.conn.Conn.{Conn}
use Rattle.connections.specs.declared.conn.Connection.{Connection}
use Rattle.keyspace.specs.Commands.{values_at}
use Rattle.redirect.specs.declared.decision.Decision.{Decision}
use Rattle.redirect.specs.declared.decision.Decision.TheVariants.{Serve, ServeImport, CrossSlot, Down, TryAgain, Ask, Moved}
use Rattle.redirect.specs.declared.decision.Reason.TheVariants.{Frozen, SomeAreMissing, HandingOver}
use Rattle.resp_values.specs.declared.reply.Reply.{Reply}
use Rattle.resp_values.specs.declared.reply.Reply.TheVariants.{Error}
use Rattle.node_step.specs.Commands.{ask_reply, command_outcome, decision_on, moved_reply, named}
use Rattle.node_step.specs.Numbers.{NoNumberLeft, has_offset}
use Rattle.node_step.specs.Requests.{asking_of, by_command, has_number, is_numbered, request_outcome, using_up}
use Rattle.node_step.specs.State.{NodeState}
use Rattle.node_step.specs.Step.{written}
use Rattle.node_step.specs.Streams.{written_by_request}
use Rattle.node_step.specs.declared.event.Event.TheVariants.{Request}
use Rattle.node_step.specs.declared.response.Answer.{Answer}
use Rattle.node_step.specs.declared.response.Why.{Why}
use Rattle.node_step.specs.declared.response.Why.TheVariants.{NotACommand, Decided}
use Rattle.smart_client.specs.Words.{asking_words}
use Rattle.world_run.specs.Executed.{decision_in}
use Rattle.reply_meaning.specs.Law.{ClientsNeedOffsetsAlone, ErrorsHaveReasons, HasNoOffset, IsOfClient}
use Rattle.reply_meaning.specs.Law.IsOfClient.{command as plain_command, numbers as plain_numbers, asks as plain_asks}
use Rattle.reply_meaning.specs.Reasons.{IsOfNobody, IsReason, is_of_kind}
use Rattle.reply_meaning.specs.Refusal.{begins_so, is_of_no_command, is_refusal}
use Rattle.reply_meaning.proofs.Executions.{told}
use Rattle.reply_meaning.proofs.RefusalKinds.{other_so}
use Rattle.reply_meaning.proofs.Steps.{Says, says_so}
use Rattle.reply_meaning.proofs.Words.{IsOfData, data_words}
use Rattle.reply_meaning.proofs.Words.IsOfData.{command, fault}

-- ---- errors

abbrev text_in : Reply → List ℕ
text_in (Error text) = text
text_in _ = []

module _ (nodes : List NodeConfig) where
  -- an error reply has such a reason
  abbrev IsWell : Answer → Type 0
  IsWell answer = (text : List ℕ) → answer.reply ≡ Error text → IsReason nodes text answer.why

  well : (text : List ℕ) (why : Why) → IsReason nodes text why → IsWell (record { why = why; reply = Error text })
  well text why reason other is = subst (λ (t : List ℕ). IsReason nodes t why) (ap text_in is) reason

  abbrev Differs : List ℕ → List ℕ → Type 0
  Differs text kind = is_of_kind text kind ≡ false

  -- an error of another kind
  other : (text : List ℕ) (why : Why) → Differs text (codes "CROSSSLOT") → Differs text (codes "CLUSTERDOWN") → is_of_no_command text ≡ false → Differs text (codes "OOM") → Differs text (codes "EXHAUSTED")
      → IsReason nodes text why
  other text why two_slots down no_command memory number = record {
    two_slots = λ yes. absurd (true≢false (sym yes ∙ two_slots));
    nobody = λ yes. absurd (true≢false (sym yes ∙ down));
    no_command = λ yes. absurd (true≢false (sym yes ∙ no_command));
    memory = memory;
    number = number;
  }

  -- CLUSTERDOWN
  down : (why : Why) → IsOfNobody nodes (decision_in why) → IsReason nodes (error_text line.SlotDown) why
  down why nobody = record {
    two_slots = λ yes. absurd (true≢false (sym yes));
    nobody = λ yes. nobody;
    no_command = λ yes. absurd (true≢false (sym yes));
    memory = refl;
    number = refl;
  }

  -- what isn't a refusal
  no_refusal : (text : List ℕ) (why : Why) → (begins_so text || is_of_no_command text) ≡ false → IsReason nodes text why
  no_refusal text why is =
      let parts = or_parts (begins_so text) (is_of_no_command text) is in
      let kinds = other_so text parts.0 in
      other text why kinds.two_slots kinds.down parts.1 kinds.memory kinds.number

  executed_well : (why : Why) (reply : Reply) → is_refusal reply ≡ false → IsWell (record { why = why; reply = reply })
  executed_well why reply told text is = no_refusal text why (sym (ap is_refusal is) ∙ told)

  ask_well : (slot to number : ℕ) (numbered : Bool) (there : Option NodeConfig) → slice_get nodes to ≡ there
      → IsWell (record { why = Decided (Ask slot to number); reply = ask_reply slot there (named numbered number) })
  ask_well slot to number numbered None is = well (error_text line.SlotDown) _ (down _ is)
  ask_well slot to number true (Some node) is = well _ _ (other _ _ refl refl refl refl refl)
  ask_well slot to number false (Some node) is = well _ _ (other _ _ refl refl refl refl refl)

  moved_well : (slot to : ℕ) (there : Option NodeConfig) → slice_get nodes to ≡ there → IsWell (record { why = Decided (Moved slot to); reply = moved_reply slot there })
  moved_well slot to None is = well (error_text line.SlotDown) _ (down _ is)
  moved_well slot to (Some node) is = well _ _ (other _ _ refl refl refl refl refl)

  -- the words are no command
  fault_so : (why : CommandFault) → Differs (error_text (line_of why)) (codes "CROSSSLOT") → Differs (error_text (line_of why)) (codes "CLUSTERDOWN") → Differs (error_text (line_of why)) (codes "OOM")
      → Differs (error_text (line_of why)) (codes "EXHAUSTED") → IsReason nodes (error_text (line_of why)) (NotACommand why)
  fault_so why two_slots down memory number = record {
    two_slots = λ yes. absurd (true≢false (sym yes ∙ two_slots));
    nobody = λ yes. absurd (true≢false (sym yes ∙ down));
    no_command = λ yes. (why, refl, refl);
    memory = memory;
    number = number;
  }

  -- their errors begin with ERR
  fault_well : (why : CommandFault) → IsReason nodes (error_text (line_of why)) (NotACommand why)
  fault_well Unknown = fault_so Unknown refl refl refl refl
  fault_well UnknownSubcommand = fault_so UnknownSubcommand refl refl refl refl
  fault_well (Arity name) = fault_so (Arity name) refl refl refl refl
  fault_well Syntax = fault_so Syntax refl refl refl refl
  fault_well InvalidSlot = fault_so InvalidSlot refl refl refl refl
  fault_well NotAnInteger = fault_so NotAnInteger refl refl refl refl

command_well : (node : NodeState) (numbered : Bool) (which : DataCommand) (why : Decision) → Says (IsWell node.config.nodes) (command_outcome node numbered which why).response
command_well node numbered which Serve = executed_well node.config.nodes _ _ (told which (values_at node.keyspace (data_keys which)))
command_well node numbered which (ServeImport number) = executed_well node.config.nodes _ _ (told which (values_at node.keyspace (data_keys which)))
command_well node numbered which CrossSlot =
    well node.config.nodes (error_text line.CrossSlot) _
    (record { two_slots = λ yes. refl; nobody = λ yes. absurd (true≢false (sym yes)); no_command = λ yes. absurd (true≢false (sym yes)); memory = refl; number = refl })
command_well node numbered which Down = well node.config.nodes (error_text line.SlotDown) _ (down node.config.nodes _ tt)
command_well node numbered which (TryAgain Frozen) = well node.config.nodes (error_text line.KeyFrozen) _ (other node.config.nodes _ _ refl refl refl refl refl)
command_well node numbered which (TryAgain SomeAreMissing) = well node.config.nodes (error_text line.SomeKeysMissing) _ (other node.config.nodes _ _ refl refl refl refl refl)
command_well node numbered which (TryAgain HandingOver) = well node.config.nodes (error_text line.HandingOver) _ (other node.config.nodes _ _ refl refl refl refl refl)
command_well node numbered which (Ask slot to number) = ask_well node.config.nodes slot to number numbered (slice_get node.config.nodes to) refl
command_well node numbered which (Moved slot to) = moved_well node.config.nodes slot to (slice_get node.config.nodes to) refl

words_well : (node : NodeState) (conn : Conn) (connection : Option Connection) (words : Result Command CommandFault) → IsOfData words
    → Says (IsWell node.config.nodes) (by_command node conn connection words).response
words_well node conn connection (Ok (Data _)) (command which) = command_well node (is_numbered connection) which (decision_on node which (asking_of connection))
words_well node conn connection (Ok (Cluster _)) is = elim is [ ]
words_well node conn connection (Err _) (fault why refuses) = well node.config.nodes (error_text (line_of why)) (NotACommand why) (fault_well node.config.nodes why)

pub have_reasons : ErrorsHaveReasons
have_reasons node conn words answer text answers plain is =
    says_so (IsWell node.config.nodes) node conn words answer answers
    (words_well (using_up node conn) conn (connection_at node.connections conn) (command_of words) (data_words words plain)) text is

-- ---- numbers

data_number : (node : NodeState) (words : Result Command CommandFault) → IsOfData words → has_number node words ≡ true
data_number node (Ok (Data _)) (command which) = refl
data_number node (Ok (Cluster _)) is = elim is [ ]
data_number node (Err _) (fault why refuses) = refl

-- what stands in front of a command needs no number, and writes nothing
abbrev NeedsNone : NodeState → Conn → List (List ℕ) → Result Command CommandFault → Type 0
NeedsNone node conn words read =
    (has_number (using_up node conn) read && has_offset node (written_by_request words read (request_outcome node conn read).response)) ≡ true

asking_needs : (node : NodeState) (conn : Conn) (words : List (List ℕ)) (number : Option ℕ) → NeedsNone node conn words (asking (number_or_fault number))
asking_needs node conn words None = refl
asking_needs node conn words (Some number) = refl

client_needs : (node : NodeState) (conn : Conn) (words : List (List ℕ)) → IsOfClient words → NoNumberLeft node (Request conn words) → HasNoOffset node conn words
client_needs node conn words (plain_command plain) none = record {
  plain = plain;
  none = sym (ap (λ (b : Bool). b && has_offset node (written node conn words)) (data_number (using_up node conn) (command_of words) (data_words words plain))) ∙ none;
}
client_needs node conn words (plain_numbers is) none = absurd (true≢false (sym (subst (λ (ws : List (List ℕ)). NeedsNone node conn ws (command_of ws)) (sym is) refl) ∙ none))
client_needs node conn words (plain_asks number is) none =
    absurd (true≢false (sym (subst (λ (ws : List (List ℕ)). NeedsNone node conn ws (command_of ws)) (sym is) (asking_needs node conn (asking_words number) (positive_of (decimal number)))) ∙ none))

pub need_offsets_alone : ClientsNeedOffsetsAlone
need_offsets_alone = client_needs

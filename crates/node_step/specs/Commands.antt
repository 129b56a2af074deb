-- What comes of a command on keys (Redis Cluster specification, "MOVED Redirection", "ASK redirection",
-- "Multiple keys operations").
use Rattle.std.specs.Prelude.{ℕ, Bool, List, [], ◌∷◌, map, is_some, Option, Some, None, slice_get, if◌then◌else◌}
use Rattle.std.specs.FinMap as fin_map
use Rattle.resp_values.specs.declared.reply.Reply.{Reply}
use Rattle.resp_values.specs.declared.reply.Reply.TheVariants.{Error}
use Rattle.command_table.specs.Keys.{data_keys}
use Rattle.redirection.specs.Texts.{ask_text, moved_text}
use Rattle.command_table.specs.declared.error_line.ErrorLine.TheVariants as line
use Rattle.command_table.specs.declared.command.DataCommand.{DataCommand}
use Rattle.key_slot.specs.Slot.{hash_slot}
use Rattle.keyspace.specs.Commands.{exec}
use Rattle.cluster_config.specs.declared.config.NodeConfig.{NodeConfig}
use Rattle.redirect.specs.Asked.{Asked}
use Rattle.redirect.specs.Decision.{decision}
use Rattle.redirect.specs.declared.asked.Asking.{Asking}
use Rattle.redirect.specs.declared.decision.Decision.{Decision}
use Rattle.redirect.specs.declared.decision.Decision.TheVariants.{Serve, ServeImport, CrossSlot, Down, TryAgain, Ask, Moved}
use Rattle.redirect.specs.declared.decision.Reason.{Reason}
use Rattle.redirect.specs.declared.decision.Reason.TheVariants.{Frozen, HandingOver, SomeAreMissing}
use Rattle.bus.specs.declared.message.Body.{Body}
use Rattle.node_step.specs.Outcome.{Outcome, error, replied, replied_sending}
use Rattle.node_step.specs.Slots.{drained_since}
use Rattle.node_step.specs.State.{NodeState}
use Rattle.node_step.specs.declared.response.Why.TheVariants.{Decided}

-- what bears on the decision: the keys, whether the node has each, what the connection may ask, and whether the node hands its slots over
abbrev pub asked_of : NodeState → DataCommand → Asking → Asked
asked_of node command asking = record {
  keys = data_keys command;
  there = map (λ key. is_some (fin_map.get node.keyspace key)) (data_keys command);
  asking = asking;
  paused = is_some node.paused;
}

abbrev pub decision_on : NodeState → DataCommand → Asking → Decision
decision_on node command asking = decision node.table node.moves node.number (asked_of node command asking)

-- ---- the redirections

-- the error that names the owner of a slot; one that isn't in the configuration can't be reached
abbrev pub moved_reply : ℕ → Option NodeConfig → Reply
moved_reply slot None = error line.SlotDown
moved_reply slot (Some node) = Error (moved_text slot node.host node.port)

-- the error that names the node that a slot goes to, and the move, where the connection wants to know it
abbrev pub ask_reply : ℕ → Option NodeConfig → Option ℕ → Reply
ask_reply slot None number = error line.SlotDown
ask_reply slot (Some node) number = Error (ask_text slot node.host node.port number)

abbrev pub named : Bool → ℕ → Option ℕ
named numbered number = if numbered then Some number else None

abbrev pub reason_line : Reason → Reply
reason_line Frozen = error line.KeyFrozen
reason_line SomeAreMissing = error line.SomeKeysMissing
reason_line HandingOver = error line.HandingOver

-- ---- execution

-- a slot of which the command took the last key is drained
abbrev pub drained_by_command : NodeState → NodeState → List (List ℕ) → List (ℕ × Body)
drained_by_command old new [] = []
drained_by_command old new (key ∷ others) = drained_since old.keyspace new (hash_slot key)

-- the node after it executed the command
abbrev pub executed : NodeState → DataCommand → NodeState
executed node command = record node { keyspace = (exec node.keyspace command).after }

abbrev pub served : NodeState → DataCommand → Decision → Outcome
served node command why = replied_sending (executed node command) (Decided why) (exec node.keyspace command).reply
    (drained_by_command node (executed node command) (data_keys command))

-- by the decision; `numbered` tells whether the connection's ASK lines name the move
abbrev pub command_outcome : NodeState → Bool → DataCommand → Decision → Outcome
command_outcome node numbered command Serve = served node command Serve
command_outcome node numbered command (ServeImport number) = served node command (ServeImport number)
command_outcome node numbered command CrossSlot = replied node (Decided CrossSlot) (error line.CrossSlot)
command_outcome node numbered command Down = replied node (Decided Down) (error line.SlotDown)
command_outcome node numbered command (TryAgain reason) = replied node (Decided (TryAgain reason)) (reason_line reason)
command_outcome node numbered command (Ask slot to number) =
    replied node (Decided (Ask slot to number)) (ask_reply slot (slice_get node.config.nodes to) (named numbered number))
command_outcome node numbered command (Moved slot to) =
    replied node (Decided (Moved slot to)) (moved_reply slot (slice_get node.config.nodes to))

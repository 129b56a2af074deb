-- What a command comes to that was executed in the slot of its keys.
use Rattle.slot_state.specs.Moves.{move_of}
use Rattle.std.proofs.Common.{◌≡◌, ℕ, Bool, true, false, List, [], ◌∷◌, Option, Some, None, All, IfSome, arith, cond, refl, sym, ap, ◌∙◌, subst}
use Rattle.std.specs.FinMap as fin_map
use Rattle.std.specs.Prelude.{nat_lt}
use Rattle.command_table.specs.Keys.{data_keys, is_data_write}
use Rattle.command_table.specs.declared.command.DataCommand.{DataCommand}
use Rattle.bus.specs.declared.message.Body.{Body}
use Rattle.connections.specs.declared.conn.Conn.{Conn}
use Rattle.key_slot.specs.Slot.{hash_slot}
use Rattle.keyspace.specs.Commands.{exec}
use Rattle.keyspace.specs.Keyspace.{Keyspace}
use Rattle.keyspace.specs.Plan.{leaves_keys}
use Rattle.keyspace.specs.declared.plans.Plan.{Plan}
use Rattle.resp_values.specs.declared.reply.Reply.{Reply}
use Rattle.redirect.specs.declared.decision.Decision.{Decision}
use Rattle.slot_store.specs.InSlot.{IsCommittedInSlot, in_slot}
use Rattle.node_parts.specs.Becomes.{Becomes}
use Rattle.node_parts.specs.Drafts.{Drafts}
use Rattle.key_rows.specs.Places.{IsPlaceOf, drained_at}
use Rattle.key_rows.proofs.ReadLemmas.{reads_change_nothing}
use Rattle.key_rows.specs.Serving.{served_change}
use Rattle.node_parts.specs.declared.change.Change.{Change}
use Rattle.node_parts.specs.declared.change.Change.TheVariants.{Asks, Keys}
use Rattle.node_parts.specs.declared.draft.Draft.{Draft}
use Rattle.node_step.specs.Commands.{drained_by_command, executed, served}
use Rattle.node_step.specs.Outcome.{replied_sending}
use Rattle.node_step.specs.Requests.{using_up}
use Rattle.node_step.specs.Slots.{drained, drained_by, has_keys, slot_epoch}
use Rattle.node_step.specs.State.{NodeState}
use Rattle.node_step.specs.declared.response.Why.TheVariants.{Decided}

-- ---- the place of a command

-- all keys are in the slot in which it is executed
pub all_in_place : (slot : Option ℕ) (place : ℕ) (keys : List (List ℕ)) → IsPlaceOf slot keys → IfSome slot (λ s. place ≡ s) → All (λ key. hash_slot key ≡ place) keys
all_in_place None place keys none is = rw none (λ k d lt. absurd (omega (arith, lt)))
all_in_place (Some slot) place keys all is = rw is all.1

-- ---- the word that a slot is drained

-- a keyspace has a key in the slot exactly if a plan that leads to it leaves one
leaves_as : (slot : ℕ) (plan : Plan) (old new : Keyspace) → IsCommittedInSlot slot plan old new → leaves_keys (in_slot slot old) plan ≡ has_keys new slot
leaves_as slot plan old new is = ap (λ part. nat_lt 0 (fin_map.len part)) (sym is.inside)

-- what the plan of a command is to say is what the command says
pub says : (node : NodeState) (after : Keyspace) (slot : Option ℕ) (place : ℕ) (plan : Plan) (keys : List (List ℕ)) → IsPlaceOf slot keys → IfSome slot (λ s. place ≡ s)
    → IsCommittedInSlot place plan node.keyspace after → drained_at node slot plan ≡ drained_by_command node (record node { keyspace = after }) keys
says node after None place plan [] in_place is leads = refl
says node after None place plan (key ∷ keys) in_place is leads = absurd (cc)
says node after (Some slot) place plan [] in_place is leads = absurd (in_place.0)
says node after (Some slot) place plan (key ∷ keys) in_place is leads =
    rw in_place.0 (ap (λ b. cond (has_keys node.keyspace slot) (cond b [] (drained node slot)) [])
    (leaves_as slot plan node.keyspace after (subst (λ s. IsCommittedInSlot s plan node.keyspace after) is leads)))

same_either_way : {A : Type 0} (test : Bool) (a : A) → cond test a a ≡ a
same_either_way true a = refl
same_either_way false a = refl

-- of a slot at rest nothing is said
pub at_rest : (node : NodeState) (slot : ℕ) (plan : Plan) → move_of node.moves slot ≡ None → drained_at node (Some slot) plan ≡ []
at_rest node slot plan none =
    let has = has_keys node.keyspace slot in
    let leaves = leaves_keys (in_slot slot node.keyspace) plan in
    ap (λ words. cond has (cond leaves [] words) []) (ap (drained_by slot (slot_epoch node slot)) none)
    ∙ ap (λ (words : List (ℕ × Body)). cond has words []) (same_either_way leaves []) ∙ same_either_way has []

-- ---- a command that was executed

-- what is drafted for a command leads to what it leaves
leads_to_served : (old : NodeState) (conn : Conn) (command : DataCommand) (place : ℕ) (plan : Plan) → IsCommittedInSlot place plan old.keyspace (exec old.keyspace command).after
    → Becomes old plan (served_change conn place command) (executed (using_up old conn) command)
leads_to_served old conn command place plan leads = by_kind (is_data_write command) refl
  where
    by_kind : (writes : Bool) → is_data_write command ≡ writes → Becomes old plan (cond writes (Keys conn place) (Asks conn)) (executed (using_up old conn) command)
    by_kind true is = record { keys = leads; state = refl }
    by_kind false is = ap (λ (keyspace : Keyspace). record (using_up old conn) { keyspace = keyspace }) (reads_change_nothing old.keyspace command is)

-- the draft of a plan is that of the command
pub drafts_served : (old : NodeState) (conn : Conn) (command : DataCommand) (why : Decision) (place : ℕ) (plan : Plan) (reply : Reply) (bodies : List (ℕ × Body)) (change : Change) (draft : Draft)
    → bodies ≡ drained_by_command old (executed old command) (data_keys command) → reply ≡ (exec old.keyspace command).reply
    → IsCommittedInSlot place plan old.keyspace (exec old.keyspace command).after → change ≡ served_change conn place command
    → ((after : NodeState) → Becomes old plan change after → Drafts old (replied_sending after (Decided why) reply bodies) draft)
    → Drafts old (served (using_up old conn) command why) draft
drafts_served old conn command why place plan reply bodies change draft words replies leads changes drafts =
    let after = executed (using_up old conn) command in
    subst (λ r. Drafts old (replied_sending after (Decided why) r (drained_by_command (using_up old conn) after (data_keys command))) draft) replies
    (subst (λ sent. Drafts old (replied_sending after (Decided why) reply sent) draft) words
    (drafts after (subst (λ c. Becomes old plan c after) (sym changes) (leads_to_served old conn command place plan leads))))

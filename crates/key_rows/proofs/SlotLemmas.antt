-- A command is planned on the keys of one slot, and its plan is committed there.
use Rattle.std.proofs.Common.{◌≡◌, ℕ, true, sym, ap, ◌∙◌, All, eq-eqb, IfOk, OnOk}
use Rattle.std.proofs.lemmas.List.Elements.{All-weaker}
use Rattle.std.specs.Prelude.{Result, Ok, Err}
use Rattle.resp_values.specs.declared.reply.Reply.{Reply}
use Rattle.command_table.specs.Keys.{data_keys}
use Rattle.command_table.specs.declared.command.DataCommand.{DataCommand}
use Rattle.key_slot.specs.Slot.{hash_slot}
use Rattle.keyspace.proofs.Parts.{commands_execute_in_a_part}
use Rattle.keyspace.specs.Commands.{Execution, exec}
use Rattle.keyspace.specs.Keyspace.{Keyspace}
use Rattle.keyspace.specs.Parts.{ExecutesInPart}
use Rattle.keyspace.specs.Plan.{committed}
use Rattle.keyspace.specs.declared.plans.Plan.{Plan}
use Rattle.slot_store.specs.InSlot.{in_slot, is_in_slot, IsCommittedInSlot}

-- a command whose keys are in a slot is planned on the keys of that slot
module _ {E : Type 0} (slot : ℕ) (command : DataCommand) (keyspace store part : Keyspace) (before after : Plan) (result : Result Reply E)
    (keys : All (λ key. hash_slot key ≡ slot) (data_keys command)) (view : store ≡ keyspace) (is_part : part ≡ in_slot slot store) (nothing : (k : Keyspace) → committed k before ≡ k)
    (planned : IfOk result (λ reply. record { reply = reply; after = committed part after } ≡ exec (committed part before) command)) where
  in_part : ExecutesInPart (is_in_slot slot) keyspace command
  in_part = commands_execute_in_a_part (is_in_slot slot) command (All-weaker (λ key. hash_slot key ≡ slot) (λ key. is_in_slot slot key ≡ true) (λ key same. eq-eqb (hash_slot key) slot same) (data_keys command) keys) keyspace

  on_part : committed part before ≡ in_slot slot keyspace
  on_part = nothing part ∙ is_part ∙ ap (in_slot slot) view

  replied : (r : Result Reply E) → IfOk r (λ reply. record { reply = reply; after = committed part after } ≡ exec (committed part before) command) → IfOk r (λ reply. reply ≡ (exec keyspace command).reply)
  replied (Ok reply) is = ap (λ (e : Execution). e.reply) is ∙ ap (λ k. (exec k command).reply) on_part ∙ in_part.reply
  replied (Err refused) is = tt

  made : (r : Result Reply E) → IfOk r (λ reply. record { reply = reply; after = committed part after } ≡ exec (committed part before) command) → OnOk r (IsCommittedInSlot slot after keyspace (exec keyspace command).after)
  made (Ok reply) is = record {
    inside = sym (ap (λ k. committed k after) (sym (is_part ∙ ap (in_slot slot) view)) ∙ ap (λ (e : Execution). e.after) is ∙ ap (λ k. (exec k command).after) on_part ∙ in_part.inside);
    outside = in_part.outside;
  }
  made (Err refused) is = tt

  pub executed_reply : IfOk result (λ reply. reply ≡ (exec keyspace command).reply)
  executed_reply = replied result planned

  pub executed_after : OnOk result (IsCommittedInSlot slot after keyspace (exec keyspace command).after)
  executed_after = made result planned

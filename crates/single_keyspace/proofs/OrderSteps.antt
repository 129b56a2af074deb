-- Steps that answer orders to move slots.
use Rattle.std.proofs.Common.{◌≡◌, ◌<◌, ◌+◌, ℕ, List, [], Option, Some, None, refl, sym, ap, subst, ◌∙◌, arith}
use Rattle.std.proofs.lemmas.Bool.{both_ways}
use Rattle.std.proofs.lemmas.List.{length-set}
use Rattle.std.specs.Prelude.{is_some, max}
use Rattle.keyspace.specs.Keyspace.{Keyspace}
use Rattle.slot_table.specs.Runs.{runs_of}
use Rattle.slot_table.specs.Table.{claim_at}
use Rattle.slot_state.specs.Moves.{begun, copy_id, last_move_of, move_of}
use Rattle.slot_state.specs.Importing.{import_verdict}
use Rattle.slot_state.specs.Migrating.{migrate_verdict}
use Rattle.slot_state.specs.declared.running.Move.TheVariants.{Leaves, Comes}
use Rattle.slot_state.specs.declared.importing.ImportVerdict.{ImportVerdict}
use Rattle.slot_state.specs.declared.importing.ImportVerdict.TheVariants as import
use Rattle.slot_state.specs.declared.migrating.MigrateVerdict.{MigrateVerdict}
use Rattle.slot_state.specs.declared.migrating.MigrateVerdict.TheVariants as migrate
use Rattle.slot_state.specs.declared.ending.NodeVerdict.{NodeVerdict}
use Rattle.slot_state.specs.declared.ending.NodeVerdict.TheVariants as ending
use Rattle.migrate.specs.declared.sending.CopyVerdict.{CopyVerdict}
use Rattle.migrate.specs.declared.sending.CopyVerdict.TheVariants as copies
use Rattle.bus.specs.declared.message.Body.{Body}
use Rattle.bus.specs.declared.bodies.SlotsBody.TheVariants as of_slots
use Rattle.bus.specs.declared.message.Body.TheVariants as body
use Rattle.node_step.proofs.Copied.{are_there, copied_next}
use Rattle.node_step.specs.Copies.{copy_outcome, copy_verdict_on, first_slot, parked, those_there}
use Rattle.node_step.specs.Orders.{claim_of, ending_outcome, ending_verdict, import_outcome, migrate_outcome, new_epoch, others, with_slot}
use Rattle.node_step.specs.Outcome.{Outcome}
use Rattle.node_step.specs.Slots.{slot_epoch}
use Rattle.node_step.specs.State.{NodeState, standing}
use Rattle.connections.specs.declared.conn.Conn.{Conn}
use Rattle.world_run.specs.Executed.{answered_with, if_served, redirection_in}
use Rattle.world_run.specs.Run.{Entry}
use Rattle.one_slot.specs.Events.{CopyIsOrdered}
use Rattle.single_keyspace.specs.Slots.{view_of}
use Rattle.single_keyspace.specs.Stands.{NodeStands}
use Rattle.single_keyspace.proofs.Lists.{from_map}
use Rattle.single_keyspace.proofs.Moved.{with_move, begun_apart, moved_apart}
use Rattle.single_keyspace.proofs.MovesHold.{import_begun_holds, migration_begun_holds, copy_ordered_holds, import_ended_holds, with_entry, ended_apart}
use Rattle.single_keyspace.proofs.Seen.{SlotWas, HoldsAfter, holds_but, no_some}
use Rattle.single_keyspace.proofs.Sendings.{AreJustified, IsJustified, claim_justified, drained_if_empty_justified, outstanding_justified}
use Rattle.single_keyspace.proofs.Steps.{StepStands, nothing_sent, quiet, quiet_still}
use Rattle.single_keyspace.proofs.Values.{value_here}
use Rattle.single_keyspace.proofs.Verdicts.{import_begins, migration_begins, import_runs, migration_runs, import_ends}

module _ {past : List Entry} {n : ℕ} {before : NodeState} {one : Keyspace} (was : (slot : ℕ) → SlotWas past n before one slot) (stands : NodeStands n before) (words : List (List ℕ)) where
  abbrev Answers : Outcome → Type 0
  Answers outcome = StepStands was (answered_with words outcome.response) outcome

  -- a refusal
  refused : (outcome : Outcome) → if_served (answered_with words outcome.response) ≡ None → redirection_in (answered_with words outcome.response) ≡ None
      → outcome.state ≡ before → outcome.sent ≡ [] → Answers outcome
  refused outcome not_served not_sent_on same none =
      quiet_still was (answered_with words outcome.response) not_served not_sent_on outcome
      (subst (NodeStands n) (sym same) stands)
      (λ slot. ap (λ node. view_of node slot) same)
      (subst (AreJustified past n outcome.state) (sym none) (nothing_sent past n outcome.state))

  -- ---- IMPORTING

  pub import_stands : (slot : ℕ) (other asked : Option ℕ) (verdict : ImportVerdict)
      → import_verdict (standing before slot) (move_of before.moves slot) (last_move_of before.moves slot) other asked ≡ verdict → Answers (import_outcome before slot verdict)
  import_stands slot other asked import.UnknownNode is = refused (import_outcome before slot import.UnknownNode) refl refl refl refl
  import_stands slot other asked import.Already is = refused (import_outcome before slot import.Already) refl refl refl refl
  import_stands slot other asked import.HandingOver is = refused (import_outcome before slot import.HandingOver) refl refl refl refl
  import_stands slot other asked import.Busy is = refused (import_outcome before slot import.Busy) refl refl refl refl
  import_stands slot other asked import.AlreadyOwner is = refused (import_outcome before slot import.AlreadyOwner) refl refl refl refl
  import_stands slot other asked import.NotOwner is = refused (import_outcome before slot import.NotOwner) refl refl refl refl
  import_stands slot other asked import.OldMove is = refused (import_outcome before slot import.OldMove) refl refl refl refl
  import_stands slot other asked (import.Begins from number) is =
      let facts = import_begins (standing before slot) (move_of before.moves slot) (last_move_of before.moves slot) other asked from number is in
      let after : NodeState = record before { moves = begun before.moves slot number (Comes from number 0 None) } in
      quiet was _ refl refl (import_outcome before slot (import.Begins from number))
      (record { number_is = stands.number_is; slots = stands.slots; is_master = stands.is_master; rests = λ replica paused s. absurd (both_ways (is_some before.paused) (import_runs (standing before slot) (move_of before.moves slot) (last_move_of before.moves slot) other asked from number is) (ap is_some paused)) })
      (holds_but was after one slot (import_begun_holds (was slot) from number facts.0 facts.1 (λ same. facts.2 (same ∙ sym stands.number_is)) facts.3)
      (begun_apart before slot number (Comes from number 0 None)) (λ other apart key. refl))
      (nothing_sent past n after)

  -- ---- MIGRATING

  pub migration_stands : (slot : ℕ) (other asked : Option ℕ) (verdict : MigrateVerdict)
      → migrate_verdict (standing before slot) (move_of before.moves slot) (last_move_of before.moves slot) other asked ≡ verdict → Answers (migrate_outcome before slot verdict)
  migration_stands slot other asked migrate.UnknownNode is = refused (migrate_outcome before slot migrate.UnknownNode) refl refl refl refl
  migration_stands slot other asked migrate.Already is = refused (migrate_outcome before slot migrate.Already) refl refl refl refl
  migration_stands slot other asked migrate.HandingOver is = refused (migrate_outcome before slot migrate.HandingOver) refl refl refl refl
  migration_stands slot other asked migrate.Busy is = refused (migrate_outcome before slot migrate.Busy) refl refl refl refl
  migration_stands slot other asked migrate.NotOwner is = refused (migrate_outcome before slot migrate.NotOwner) refl refl refl refl
  migration_stands slot other asked migrate.OldMove is = refused (migrate_outcome before slot migrate.OldMove) refl refl refl refl
  migration_stands slot other asked (migrate.Begins to number) is =
      let facts = migration_begins (standing before slot) (move_of before.moves slot) (last_move_of before.moves slot) other asked to number is in
      let after : NodeState = record before { moves = begun before.moves slot number (Leaves to number 0 None) } in
      quiet was _ refl refl (migrate_outcome before slot (migrate.Begins to number))
      (record { number_is = stands.number_is; slots = stands.slots; is_master = stands.is_master; rests = λ replica paused s. absurd (both_ways (is_some before.paused) (migration_runs (standing before slot) (move_of before.moves slot) (last_move_of before.moves slot) other asked to number is) (ap is_some paused)) })
      (holds_but was after one slot
      (migration_begun_holds (was slot) to number facts.0 (facts.1 ∙ ap Some stands.number_is) (λ same. facts.2 (same ∙ sym stands.number_is)) facts.3)
      (begun_apart before slot number (Leaves to number 0 None)) (λ other apart key. refl))
      (drained_if_empty_justified past n after slot)

  -- ---- NODE

  epoch_above : (slot drained : ℕ) → drained < new_epoch before slot drained
  epoch_above slot drained = over before.current_epoch drained (slot_epoch before slot)
    where
      over : (a d b : ℕ) → d < 1 + max (max a d) b
      over a d b = omega arith

  pub ending_stands : (slot : ℕ) (other asked : Option ℕ) (verdict : NodeVerdict)
      → ending_verdict before slot other asked ≡ verdict → Answers (ending_outcome before slot verdict)
  ending_stands slot other asked ending.UnknownNode is = refused (ending_outcome before slot ending.UnknownNode) refl refl refl refl
  ending_stands slot other asked ending.OldMove is = refused (ending_outcome before slot ending.OldMove) refl refl refl refl
  ending_stands slot other asked ending.NotDrained is = refused (ending_outcome before slot ending.NotDrained) refl refl refl refl
  ending_stands slot other asked ending.IsOwner is = refused (ending_outcome before slot ending.IsOwner) refl refl refl refl
  ending_stands slot other asked ending.NotYetOwner is = refused (ending_outcome before slot ending.NotYetOwner) refl refl refl refl
  ending_stands slot other asked (ending.Ends drained) is =
      let facts = import_ends (standing before slot) (move_of before.moves slot) other asked drained is in
      let newer : ℕ = new_epoch before slot drained in
      let after : NodeState = with_slot before slot newer in
      quiet was _ refl refl (ending_outcome before slot (ending.Ends drained))
      (record { number_is = stands.number_is; slots = length-set before.table slot (Some (record { epoch = newer; owner = before.number })) ∙ stands.slots; is_master = stands.is_master; rests = λ replica paused s. absurd (no_some (stands.rests replica paused slot) facts.3) })
      (holds_but was after one slot
      (subst (λ (o : ℕ). HoldsAfter (was slot) (with_entry before slot (record { epoch = newer; owner = o }) newer) one) (sym stands.number_is)
      (import_ended_holds (was slot) facts.0 facts.1 facts.2 drained newer facts.3 (epoch_above slot drained) stands.slots))
      (ended_apart before slot (record { epoch = newer; owner = before.number }) newer) (λ other apart key. refl))
      (λ to said among.
      let found = from_map (λ (number : ℕ). (number, body.Slots (of_slots.Claim (claim_of after) before.replaced))) (others before) (to, said) among in
      subst (λ (p : ℕ × Body). IsJustified past n after p.0 p.1) found.2
      (subst (λ (o : ℕ). IsJustified past n after found.0 (body.Slots (of_slots.Claim (runs_of (claim_at after.table o)) before.replaced))) (sym stands.number_is) (claim_justified past n after found.0 before.replaced (length-set before.table slot (Some (record { epoch = newer; owner = before.number })) ∙ stands.slots))))

  -- ---- MIGRATE

  pub copy_stands : (conn : Conn) (named : List (List ℕ)) (ticks : ℕ) (target : Option ℕ) (verdict : CopyVerdict) → copy_verdict_on before named target ≡ verdict
      → Answers (copy_outcome before conn (first_slot named) (those_there before.keyspace named) ticks verdict)
  copy_stands conn named ticks target copies.CrossSlot is = refused (copy_outcome before conn (first_slot named) (those_there before.keyspace named) ticks copies.CrossSlot) refl refl refl refl
  copy_stands conn named ticks target copies.WrongTarget is = refused (copy_outcome before conn (first_slot named) (those_there before.keyspace named) ticks copies.WrongTarget) refl refl refl refl
  copy_stands conn named ticks target copies.NoKey is = refused (copy_outcome before conn (first_slot named) (those_there before.keyspace named) ticks copies.NoKey) refl refl refl refl
  copy_stands conn named ticks target copies.CopyOutstanding is = refused (copy_outcome before conn (first_slot named) (those_there before.keyspace named) ticks copies.CopyOutstanding) refl refl refl refl
  copy_stands conn named ticks target copies.Exhausted is = refused (copy_outcome before conn (first_slot named) (those_there before.keyspace named) ticks copies.Exhausted) refl refl refl refl
  copy_stands conn named ticks target (copies.SendAgain to number copy) is =
      let slot : ℕ = first_slot named in
      let after : NodeState = parked before conn (copy_id slot number copy) ticks in
      quiet_still was _ refl refl (copy_outcome before conn slot (those_there before.keyspace named) ticks (copies.SendAgain to number copy)) (record { number_is = stands.number_is; slots = stands.slots; is_master = stands.is_master; rests = stands.rests }) (λ other. refl)
      (outstanding_justified past n after slot (move_of before.moves slot) refl)
  copy_stands conn named ticks target (copies.Copies to number copy) is =
      let slot : ℕ = first_slot named in
      let keys : List (List ℕ) = those_there before.keyspace named in
      let next = copied_next before named target to number copy is in
      let moved : NodeState = record before { moves = with_move before.moves slot (Leaves to number copy (Some keys)) } in
      let after : NodeState = parked moved conn (copy_id slot number copy) ticks in
      let ordered : CopyIsOrdered (view_of before slot) to number next.made keys = record {
        move = next.move;
        one = next.one;
        among = next.among;
        here = λ key among. let there = are_there before.keyspace named key among in (there.1.0, value_here before.keyspace slot key (next.inside key there.0) ∙ there.1.1);
      } in
      quiet was _ refl refl (copy_outcome before conn slot keys ticks (copies.Copies to number copy)) (record { number_is = stands.number_is; slots = stands.slots; is_master = stands.is_master; rests = λ replica paused other. absurd (no_some (stands.rests replica paused slot) next.move) })
      (holds_but was after one slot
      (subst (λ (c : ℕ). HoldsAfter (was slot) (record before { moves = with_move before.moves slot (Leaves to number c (Some keys)) }) one) (sym next.copy_is)
      (copy_ordered_holds (was slot) to number next.made keys ordered))
      (λ other apart. moved_apart before before.keyspace slot (Leaves to number copy (Some keys)) other apart refl) (λ other apart key. refl))
      (outstanding_justified past n after slot (move_of moved.moves slot) refl)

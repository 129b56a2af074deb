-- Orders that move a slot.
use Rattle.std.proofs.Common.{◌≡◌, ◌<◌, ◌^◌, ◌==◌, ◌&&◌, ℕ, Bool, true, false, cond, List, [], ◌∷◌, Option, Some, None, eq-eqb, refl, sym, ap, subst, ◌∙◌}
use Rattle.std.proofs.lemmas.Bool.{lt-ltb}
use Rattle.std.specs.Prelude.{slice_set}
use Rattle.std.specs.Cmp.{nat_cmp_total, unsigned_tied}
use Rattle.std.specs.FinMap as map
use Rattle.bus.specs.declared.message.Body.{Body}
use Rattle.bus.specs.declared.bodies.SlotsBody.TheVariants.{Claim, Drained}
use Rattle.bus.specs.declared.message.Body.TheVariants.{Slots}
use Rattle.connections.specs.declared.conn.Conn.{Conn}
use Rattle.resp_values.specs.declared.reply.Reply.{Reply}
use Rattle.keyspace.specs.declared.plans.Plan.{Plan}
use Rattle.slot_state.specs.Importing.{after_import, import_verdict}
use Rattle.slot_state.specs.Migrating.{after_migrate, migrate_verdict}
use Rattle.slot_state.specs.Moves.{last_move_of, move_of}
use Rattle.slot_state.specs.Numbers.{is_named}
use Rattle.slot_state.specs.declared.importing.ImportVerdict.{ImportVerdict}
use Rattle.slot_state.specs.declared.importing.ImportVerdict.TheVariants as import
use Rattle.slot_state.specs.declared.migrating.MigrateVerdict.{MigrateVerdict}
use Rattle.slot_state.specs.declared.migrating.MigrateVerdict.TheVariants as migrate
use Rattle.slot_state.specs.declared.ending.NodeVerdict.TheVariants.{Ends as IsOver}
use Rattle.slot_state.specs.declared.running.Move.{Move}
use Rattle.slot_state.specs.declared.running.Move.TheVariants.{Comes, Leaves}
use Rattle.slot_table.specs.Runs.{runs_of}
use Rattle.slot_table.specs.Table.{claim_at}
use Rattle.slot_table.specs.declared.runs.Run.{Run}
use Rattle.slot_state.specs.declared.order.Order.{Order}
use Rattle.slot_state.specs.declared.order.Standing.{Standing}
use Rattle.node_parts.specs.Becomes.{Becomes, ending}
use Rattle.node_parts.specs.Drafts.{Drafts, at_epoch}
use Rattle.order_rows.specs.Orders.{Gives, import_change, migrate_change}
use Rattle.node_parts.specs.declared.change.Change.{Change}
use Rattle.node_parts.specs.declared.draft.Draft.{Draft}
use Rattle.node_step.specs.Orders.{claim_of, done, drained_at_start, import_reply, importing, migrate_reply, migrating, new_epoch, others, to_all, with_moves, with_slot}
use Rattle.node_step.specs.Outcome.{replied, replied_sending}
use Rattle.node_step.specs.Requests.{using_up}
use Rattle.node_step.specs.Slots.{drained_by, has_keys, slot_epoch}
use Rattle.node_step.specs.State.{NodeState, standing}
use Rattle.node_step.specs.declared.response.Why.TheVariants.{Ends, Imports, Migrates}

-- a slot that begins to leave goes to the node of the order
pub begins_drained : (node : NodeState) (slot to number : ℕ)
    → drained_at_start (with_moves node (after_migrate node.moves slot (migrate.Begins to number))) slot (migrate.Begins to number)
    ≡ cond (has_keys node.keyspace slot) [] ((to, Slots (Drained slot number (slot_epoch node slot))) ∷ [])
begins_drained node slot to number =
    ap (λ (move : Option Move). cond (has_keys node.keyspace slot) [] (drained_by slot (slot_epoch node slot) move))
    (map.get-insert nat_cmp_total node.moves.running slot (Leaves to number 0 None) slot
    ∙ ap (λ b. cond b (Some (Leaves to number 0 None)) (map.get node.moves.running slot)) (unsigned_tied slot slot ∙ eq-eqb slot slot refl))

-- ---- a move begins where the slot has none

module _ (from number : ℕ) where
  not_beside_import : (unknown replica paused named : Bool)
      → cond unknown import.UnknownNode (cond replica import.NotOwner (cond paused import.HandingOver (cond named import.Already import.Busy))) ≡ import.Begins from number → ⊥
  not_beside_import true replica paused named is = cc
  not_beside_import false true paused named is = cc
  not_beside_import false false true named is = cc
  not_beside_import false false false true is = cc
  not_beside_import false false false false is = cc

  not_beside_migration : (unknown replica paused named : Bool)
      → cond unknown migrate.UnknownNode (cond replica migrate.NotOwner (cond paused migrate.HandingOver (cond named migrate.Already migrate.Busy))) ≡ migrate.Begins from number → ⊥
  not_beside_migration true replica paused named is = cc
  not_beside_migration false true paused named is = cc
  not_beside_migration false false true named is = cc
  not_beside_migration false false false true is = cc
  not_beside_migration false false false false is = cc

  import_free : (at : Standing) (last : ℕ) (source asked : Option ℕ) (move : Option Move) → import_verdict at move last source asked ≡ import.Begins from number → move ≡ None
  import_free at last source asked None is = refl
  import_free at last None asked (Some move) is = absurd (cc)
  import_free at last (Some source) asked (Some (Comes other own copied drained)) is =
      absurd (not_beside_import (source == at.node) at.is_replica at.is_paused (other == source && is_named own asked) is)
  import_free at last (Some source) asked (Some (Leaves to own copies frozen)) is = absurd (not_beside_import (source == at.node) at.is_replica at.is_paused false is)

  migrate_free : (at : Standing) (last : ℕ) (target asked : Option ℕ) (move : Option Move) → migrate_verdict at move last target asked ≡ migrate.Begins from number → move ≡ None
  migrate_free at last target asked None is = refl
  migrate_free at last None asked (Some move) is = absurd (cc)
  migrate_free at last (Some target) asked (Some (Leaves other own copies frozen)) is =
      absurd (not_beside_migration (target == at.node) at.is_replica at.is_paused (other == target && is_named own asked) is)
  migrate_free at last (Some target) asked (Some (Comes source own copied drained)) is = absurd (not_beside_migration (target == at.node) at.is_replica at.is_paused false is)

module _ (old : NodeState) (conn : Conn) (order : Order) (plan : Plan) where
  -- ---- an order to import a slot

  abbrev import_order : ImportVerdict
  import_order = import_verdict (standing old order.slot) (move_of old.moves order.slot) (last_move_of old.moves order.slot) order.node order.number

  abbrev imported : ImportVerdict → NodeState
  imported verdict = with_moves (using_up old conn) (after_import old.moves order.slot verdict)

  import_leads : (verdict : ImportVerdict) → verdict ≡ import_order → Becomes old plan (import_change conn order.slot verdict) (imported verdict)
  import_leads (import.Begins from number) is =
      record { none = import_free from number (standing old order.slot) (last_move_of old.moves order.slot) order.node order.number (move_of old.moves order.slot) (sym is); state = refl }
  import_leads import.UnknownNode is = refl
  import_leads import.Already is = refl
  import_leads import.HandingOver is = refl
  import_leads import.Busy is = refl
  import_leads import.AlreadyOwner is = refl
  import_leads import.NotOwner is = refl
  import_leads import.OldMove is = refl

  -- it is answered by its verdict
  pub import_drafted : (verdict : ImportVerdict) (reply : Reply) (change : Change) (draft : Draft) → verdict ≡ import_order → reply ≡ import_reply verdict → change ≡ import_change conn order.slot verdict
      → ((after : NodeState) → Becomes old plan change after → Drafts old (replied after (Imports verdict) reply) draft)
      → Drafts old (importing (using_up old conn) order.slot order.node order.number) draft
  import_drafted verdict reply change draft is replies changes drafts =
      subst (λ v. Drafts old (replied (imported v) (Imports v) (import_reply v)) draft) is
      (subst (λ r. Drafts old (replied (imported verdict) (Imports verdict) r) draft) replies
      (drafts (imported verdict) (subst (λ c. Becomes old plan c (imported verdict)) (sym changes) (import_leads verdict is))))

  -- ---- an order to migrate a slot

  abbrev migrate_order : MigrateVerdict
  migrate_order = migrate_verdict (standing old order.slot) (move_of old.moves order.slot) (last_move_of old.moves order.slot) order.node order.number

  abbrev migrated : MigrateVerdict → NodeState
  migrated verdict = with_moves (using_up old conn) (after_migrate old.moves order.slot verdict)

  migrate_leads : (verdict : MigrateVerdict) → verdict ≡ migrate_order → Becomes old plan (migrate_change conn order.slot verdict) (migrated verdict)
  migrate_leads (migrate.Begins to number) is =
      record { none = migrate_free to number (standing old order.slot) (last_move_of old.moves order.slot) order.node order.number (move_of old.moves order.slot) (sym is); state = refl }
  migrate_leads migrate.UnknownNode is = refl
  migrate_leads migrate.Already is = refl
  migrate_leads migrate.HandingOver is = refl
  migrate_leads migrate.Busy is = refl
  migrate_leads migrate.NotOwner is = refl
  migrate_leads migrate.OldMove is = refl

  -- it is answered by its verdict, and the other node is told if the slot has no key
  pub migrate_drafted : (verdict : MigrateVerdict) (reply : Reply) (bodies : List (ℕ × Body)) (change : Change) (draft : Draft) → verdict ≡ migrate_order → reply ≡ migrate_reply verdict
      → bodies ≡ drained_at_start (with_moves old (after_migrate old.moves order.slot verdict)) order.slot verdict → change ≡ migrate_change conn order.slot verdict
      → ((after : NodeState) → Becomes old plan change after → Drafts old (replied_sending after (Migrates verdict) reply bodies) draft)
      → Drafts old (migrating (using_up old conn) order.slot order.node order.number) draft
  migrate_drafted verdict reply bodies change draft is replies says changes drafts =
      subst (λ v. Drafts old (replied_sending (migrated v) (Migrates v) (migrate_reply v) (drained_at_start (with_moves old (after_migrate old.moves order.slot v)) order.slot v)) draft) is
      (subst (λ bodies. Drafts old (replied_sending (migrated verdict) (Migrates verdict) (migrate_reply verdict) bodies) draft) says
      (subst (λ r. Drafts old (replied_sending (migrated verdict) (Migrates verdict) r bodies) draft) replies
      (drafts (migrated verdict) (subst (λ c. Becomes old plan c (migrated verdict)) (sym changes) (migrate_leads verdict is)))))

-- an import that ends in the new epoch is answered with the claim
pub end_drafted : (old : NodeState) (conn : Conn) (slot drained epoch : ℕ) (claim : List (Run ℕ)) (reply : Reply) (bodies : List (ℕ × Body)) (draft : Draft)
    → epoch ≡ new_epoch old slot drained → new_epoch old slot drained < 2 ^ 64
    → claim ≡ runs_of (claim_at (slice_set old.table slot (Some (record { epoch = epoch; owner = old.number }))) old.number) → reply ≡ done → bodies ≡ to_all (others old) (Slots (Claim claim old.replaced))
    → ((after : NodeState) → after ≡ ending (at_epoch old epoch) conn slot epoch → Drafts old (replied_sending after (Ends (IsOver drained)) reply bodies) draft)
    → Gives old conn slot (IsOver drained) draft
end_drafted old conn slot drained epoch claim reply bodies draft next below runs replies words drafts =
    let after = with_slot (using_up old conn) slot epoch in
    let said : Drafts old (replied_sending after (Ends (IsOver drained)) done (to_all (others old) (Slots (Claim (claim_of after) old.replaced)))) draft =
    subst (λ (sent : List (ℕ × Body)). Drafts old (replied_sending after (Ends (IsOver drained)) done sent) draft) (words ∙ ap (λ (runs : List (Run ℕ)). to_all (others old) (Slots (Claim runs old.replaced))) runs)
    (subst (λ r. Drafts old (replied_sending after (Ends (IsOver drained)) r bodies) draft) replies (drafts after refl)) in
    record {
      epoch = lt-ltb (new_epoch old slot drained) (2 ^ 64) below;
      drafts = subst (λ e. Drafts old (replied_sending (with_slot (using_up old conn) slot e) (Ends (IsOver drained)) done (to_all (others old) (Slots (Claim (claim_of (with_slot (using_up old conn) slot e)) old.replaced)))) draft) next said;
    }

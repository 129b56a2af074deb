-- What an order to move a slot does once it was done.
use Rattle.std.proofs.Common.{◌≡◌, ◌≢◌, ◌<◌, ℕ, List, true, cond, Option, Some, None, length, refl, sym, ap, ◌∙◌}
use Rattle.std.proofs.lemmas.Cmp.{nat_cmp_total, eq_by_cmp_equiv}
use Rattle.std.proofs.lemmas.List.{get_or-set_same}
use Rattle.std.specs.FinMap as map
use Rattle.std.specs.Ordering.{nat_cmp, eq_by_cmp}
use Rattle.command_table.specs.declared.command.SlotOrder.{SlotOrder}
use Rattle.command_table.specs.declared.command.SlotOrder.TheVariants.{Importing, Migrating, Node}
use Rattle.connections.specs.Connections.{ConnectionTable}
use Rattle.resp_values.specs.declared.reply.Reply.{Reply}
use Rattle.slot_table.specs.Table.{owner_at, owner_in}
use Rattle.slot_state.specs.Ending.{node_verdict}
use Rattle.slot_state.specs.Importing.{import_verdict}
use Rattle.slot_state.specs.Migrating.{migrate_verdict}
use Rattle.slot_state.specs.Moves.{move_of, last_move_of}
use Rattle.slot_state.specs.declared.ending.NodeVerdict.{NodeVerdict}
use Rattle.slot_state.specs.declared.ending.NodeVerdict.TheVariants as ending
use Rattle.slot_state.specs.declared.importing.ImportVerdict.{ImportVerdict}
use Rattle.slot_state.specs.declared.importing.ImportVerdict.TheVariants as import
use Rattle.slot_state.specs.declared.migrating.MigrateVerdict.{MigrateVerdict}
use Rattle.slot_state.specs.declared.migrating.MigrateVerdict.TheVariants as migrate
use Rattle.slot_state.specs.declared.order.Standing.{Standing}
use Rattle.slot_state.specs.declared.running.Move.{Move}
use Rattle.slot_state.specs.declared.running.Move.TheVariants.{Leaves, Comes}
use Rattle.node_step.specs.Orders.{ending_outcome, ending_reply, ending_verdict, import_outcome, import_reply, migrate_outcome, migrate_reply, new_epoch}
use Rattle.node_step.specs.Outcome.{Outcome, replied}
use Rattle.node_step.specs.Requests.{node_with_id, order_outcome}
use Rattle.node_step.specs.State.{NodeState, standing}
use Rattle.node_step.specs.declared.response.Response.{Response}
use Rattle.node_step.specs.declared.response.Response.TheVariants.{Replied}
use Rattle.node_step.specs.declared.response.Why.{Why}
use Rattle.node_step.specs.declared.response.Why.TheVariants.{Imports, Migrates, Ends}
use Rattle.repeated_orders.proofs.Verdicts.{import_again, migration_again, none_ends, ending_again}

-- ---- maps from slots

one_slot : (slot : ℕ) → eq_by_cmp nat_cmp slot slot ≡ true
one_slot slot = (eq_by_cmp_equiv nat_cmp_total).refl slot

module _ {V : Type 0} (m : map.FinMap nat_cmp V) (slot : ℕ) where
  pub put_here : (v : V) → map.get (map.insert m slot v) slot ≡ Some v
  put_here v = map.get-insert nat_cmp_total m slot v slot ∙ ap (λ b. cond b (Some v) (map.get m slot)) (one_slot slot)

  gone_here : map.get (map.remove m slot) slot ≡ None
  gone_here = map.get-remove nat_cmp_total m slot slot ∙ ap (λ b. cond b None (map.get m slot)) (one_slot slot)

-- ---- an order that only has a reply, which is the first one where the table has the slot

pub record OnlyReplies (has_slot : Type 0) (first : Response) (node : NodeState) (outcome : Outcome) : Type 0 where
  pub why : Why
  pub before : Why
  pub reply : Reply
  pub is : outcome ≡ replied node why reply
  pub same : has_slot → first ≡ Replied (record { why = before; reply = reply })

-- the state behind an outcome, with other connections
abbrev pub behind : Outcome → ConnectionTable → NodeState
behind outcome connections = record (outcome.state) { connections = connections }

-- what orders that begin a move differ in: the verdict, by the slot's standing, its move, the greatest number of one, and the node
-- and number in the order; and what comes of it
record Beginning (Verdict : Type 0) : Type 0 where
  pub verdict : Standing → Option Move → ℕ → Option ℕ → Option ℕ → Verdict
  pub outcome : NodeState → ℕ → Verdict → Outcome
  pub why : Verdict → Why
  pub reply : Verdict → Reply

abbrev imports : Beginning ImportVerdict
imports = record { verdict = import_verdict; outcome = import_outcome; why = Imports; reply = import_reply }

abbrev migrations : Beginning MigrateVerdict
migrations = record { verdict = migrate_verdict; outcome = migrate_outcome; why = Migrates; reply = migrate_reply }

module _ (node : NodeState) (connections : ConnectionTable) (slot : ℕ) where
  -- the node, where the order only had a reply
  abbrev still : NodeState
  still = record node { connections = connections }

  abbrev has_slot : Type 0
  has_slot = slot < length node.table

  -- ---- IMPORTING and MIGRATING

  abbrev verdict_at : {Verdict : Type 0} → Beginning Verdict → NodeState → Option ℕ → Option ℕ → Verdict
  verdict_at order at other number = order.verdict (standing at slot) (move_of at.moves slot) (last_move_of at.moves slot) other number

  -- the order has the second verdict in that state, which changes nothing and has the first one's reply
  is_answered : {Verdict : Type 0} (order : Beginning Verdict) (first second : Verdict) (after : NodeState) (other number : Option ℕ)
      → verdict_at order after other number ≡ second
      → order.outcome after slot second ≡ replied after (order.why second) (order.reply second)
      → (order.outcome node slot first).response ≡ Replied (record { why = order.why first; reply = order.reply second })
      → OnlyReplies has_slot (order.outcome node slot first).response after (order.outcome after slot (verdict_at order after other number))
  is_answered order first second after other number is changes_nothing same = record {
    why = order.why second;
    before = order.why first;
    reply = order.reply second;
    is = ap (order.outcome after slot) is ∙ changes_nothing;
    same = λ has. same;
  }

  -- what had that verdict is only answered when it comes again
  abbrev Repeats : {Verdict : Type 0} → Beginning Verdict → Option ℕ → Option ℕ → Verdict → Type 0
  Repeats order other number verdict = verdict_at order node other number ≡ verdict
      → (let first = order.outcome node slot verdict in let after = behind first connections in
      OnlyReplies has_slot first.response after (order.outcome after slot (verdict_at order after other number)))

  import_repeats : (other number : Option ℕ) (verdict : ImportVerdict) → Repeats imports other number verdict
  import_repeats other number import.UnknownNode is = is_answered imports import.UnknownNode import.UnknownNode still other number is refl refl
  import_repeats other number import.Already is = is_answered imports import.Already import.Already still other number is refl refl
  import_repeats other number import.HandingOver is = is_answered imports import.HandingOver import.HandingOver still other number is refl refl
  import_repeats other number import.Busy is = is_answered imports import.Busy import.Busy still other number is refl refl
  import_repeats other number import.AlreadyOwner is = is_answered imports import.AlreadyOwner import.AlreadyOwner still other number is refl refl
  import_repeats other number import.NotOwner is = is_answered imports import.NotOwner import.NotOwner still other number is refl refl
  import_repeats other number import.OldMove is = is_answered imports import.OldMove import.OldMove still other number is refl refl
  import_repeats other number (import.Begins from begun) is =
      let after : NodeState = behind (import_outcome node slot (import.Begins from begun)) connections in
      let comes : move_of after.moves slot ≡ Some (Comes from begun 0 None) = put_here node.moves.running slot (Comes from begun 0 None) in
      is_answered imports (import.Begins from begun) import.Already after other number
      (ap (λ (m : Option Move). import_verdict (standing after slot) m (last_move_of after.moves slot) other number) comes
      ∙ import_again (standing node slot) (move_of node.moves slot) (last_move_of node.moves slot) (last_move_of after.moves slot) other number from begun is)
      refl refl

  migration_repeats : (other number : Option ℕ) (verdict : MigrateVerdict) → Repeats migrations other number verdict
  migration_repeats other number migrate.UnknownNode is = is_answered migrations migrate.UnknownNode migrate.UnknownNode still other number is refl refl
  migration_repeats other number migrate.Already is = is_answered migrations migrate.Already migrate.Already still other number is refl refl
  migration_repeats other number migrate.HandingOver is = is_answered migrations migrate.HandingOver migrate.HandingOver still other number is refl refl
  migration_repeats other number migrate.Busy is = is_answered migrations migrate.Busy migrate.Busy still other number is refl refl
  migration_repeats other number migrate.NotOwner is = is_answered migrations migrate.NotOwner migrate.NotOwner still other number is refl refl
  migration_repeats other number migrate.OldMove is = is_answered migrations migrate.OldMove migrate.OldMove still other number is refl refl
  migration_repeats other number (migrate.Begins to begun) is =
      let after : NodeState = behind (migrate_outcome node slot (migrate.Begins to begun)) connections in
      let leaves : move_of after.moves slot ≡ Some (Leaves to begun 0 None) = put_here node.moves.running slot (Leaves to begun 0 None) in
      is_answered migrations (migrate.Begins to begun) migrate.Already after other number
      (ap (λ (m : Option Move). migrate_verdict (standing after slot) m (last_move_of after.moves slot) other number) leaves
      ∙ migration_again (standing node slot) (move_of node.moves slot) (last_move_of node.moves slot) (last_move_of after.moves slot) other number to begun is)
      refl refl

  -- ---- NODE

  -- what ends no import changes nothing
  ends_nothing : (at : NodeState) (verdict : NodeVerdict) → ((epoch : ℕ) → verdict ≢ ending.Ends epoch)
      → ending_outcome at slot verdict ≡ replied at (Ends verdict) (ending_reply verdict)
  ends_nothing at ending.UnknownNode never = refl
  ends_nothing at ending.OldMove never = refl
  ends_nothing at ending.NotDrained never = refl
  ends_nothing at ending.IsOwner never = refl
  ends_nothing at ending.NotYetOwner never = refl
  ends_nothing at (ending.Ends epoch) never = absurd (never epoch refl)

  module _ (id : List ℕ) (number : Option ℕ) where
    ending_refused : (verdict : NodeVerdict) → ending_verdict node slot (node_with_id node id) number ≡ verdict → ((epoch : ℕ) → verdict ≢ ending.Ends epoch)
        → OnlyReplies has_slot (replied node (Ends verdict) (ending_reply verdict)).response still (ending_outcome still slot (ending_verdict still slot (node_with_id still id) number))
    ending_refused verdict is never = record {
      why = Ends verdict;
      before = Ends verdict;
      reply = ending_reply verdict;
      is = ap (ending_outcome still slot) is ∙ ends_nothing still verdict never;
      same = λ has. refl;
    }

    ending_repeats : (verdict : NodeVerdict) → ending_verdict node slot (node_with_id node id) number ≡ verdict
        → (let first = ending_outcome node slot verdict in let after = behind first connections in
        OnlyReplies has_slot first.response after (ending_outcome after slot (ending_verdict after slot (node_with_id after id) number)))
    ending_repeats ending.UnknownNode is = ending_refused ending.UnknownNode is (λ epoch same. cc)
    ending_repeats ending.OldMove is = ending_refused ending.OldMove is (λ epoch same. cc)
    ending_repeats ending.NotDrained is = ending_refused ending.NotDrained is (λ epoch same. cc)
    ending_repeats ending.IsOwner is = ending_refused ending.IsOwner is (λ epoch same. cc)
    ending_repeats ending.NotYetOwner is = ending_refused ending.NotYetOwner is (λ epoch same. cc)
    ending_repeats (ending.Ends drained) is =
        let other : Option ℕ = node_with_id node id in
        let after : NodeState = behind (ending_outcome node slot (ending.Ends drained)) connections in
        let second : NodeVerdict = ending_verdict after slot other number in
        let no_move : second ≡ node_verdict (standing after slot) None other number =
        ap (λ (m : Option Move). node_verdict (standing after slot) m other number) (gone_here node.moves.running slot) in
        let owned : has_slot → owner_at after.table slot ≡ Some node.number =
        λ has. ap owner_in (get_or-set_same node.table slot (Some (record { epoch = new_epoch node slot drained; owner = node.number })) None has) in
        let is_owner : has_slot → second ≡ ending.IsOwner =
        λ has. no_move ∙ ending_again (standing node slot) (standing after slot) (move_of node.moves slot) other number drained is refl (owned has) in
        record {
          why = Ends second;
          before = Ends (ending.Ends drained);
          reply = ending_reply second;
          is = ends_nothing after second (λ epoch ends. none_ends (standing after slot) other number epoch (sym no_move ∙ ends));
          same = λ has. ap (λ (v : NodeVerdict). Replied (record { why = Ends (ending.Ends drained); reply = ending_reply v })) (sym (is_owner has));
        }

  -- ---- any order

  pub order_repeats : (order : SlotOrder) (id : List ℕ) (number : Option ℕ)
      → (let first = order_outcome node slot order (node_with_id node id) number in let after = behind first connections in
      OnlyReplies has_slot first.response after (order_outcome after slot order (node_with_id after id) number))
  order_repeats Importing id number = import_repeats (node_with_id node id) number (verdict_at imports node (node_with_id node id) number) refl
  order_repeats Migrating id number = migration_repeats (node_with_id node id) number (verdict_at migrations node (node_with_id node id) number) refl
  order_repeats Node id number = ending_repeats id number (ending_verdict node slot (node_with_id node id) number) refl

-- What is proved of one slot, for values, at a node that is seen so.
use Rattle.std.proofs.Common.{◌≡◌, ◌≤◌, ◌+◌, ℕ, List, Option, Some, Contains, subst}
use Rattle.slot_table.specs.declared.entry.SlotEntry.{SlotEntry}
use Rattle.slot_state.specs.declared.running.Move.TheVariants.{Leaves, Comes}
use Rattle.keyspace.specs.declared.value.Value.{Value}
use Rattle.one_slot.specs.View.{View, Views}
use Rattle.one_slot.specs.Slot.{Holds, IsComing}
use Rattle.one_slot.specs.Sent.{IsSent}
use Rattle.one_slot.specs.Sent.Sent.{Drained, Copy, Ack, Claimed, Told}
use Rattle.one_slot.specs.Events.{Changes, Keeps, Puts, Removes, ImportBegins, import_begun, MigrationBegins, migration_begun, CopyIsOrdered, copy_ordered, CopyIsSent, copy_installed, copy_acknowledged, drained_noted, ImportEnds, import_ended, ClaimIsTaken, IsServed, served, OwnerServes, LeavingServes, IsAsked}
use Rattle.one_slot.proofs.Beginnings.{import_begins-keeps, migration_begins-keeps}
use Rattle.one_slot.proofs.Copies.{copy_ordered-keeps, copy_installed-keeps, copy_acknowledged-keeps}
use Rattle.one_slot.proofs.Endings.{drained_noted-keeps, import_ends-keeps, claim_taken-keeps}
use Rattle.one_slot.proofs.Commands.{owner-has, leaving-has, coming-has, owner_serves-keeps, leaving_serves-keeps, coming_serves-keeps}
use Rattle.one_slot.proofs.Sendings.{copy-is_sent, claim-is_sent, told-is_sent, ack-is_sent}

-- a slot that comes to the node, for which ASK was answered with these keys
pub record ImportServes (top : SlotEntry) (seen : Views Value) (n : ℕ) (view : View Value) (keys : List (List ℕ)) : Type 0 where
  pub number : ℕ
  pub comes : IsComing view number
  pub by : ℕ
  pub told : IsSent top seen (Told by n number keys)

-- events at a node
pub record EventLaws (top : SlotEntry) (old new : Views Value) (one : List ℕ → Option Value) (n : ℕ) (view : View Value) : Type 0 where
  pub import_begins : (from number : ℕ) → ImportBegins n view from number → Changes old new n (import_begun view from number) → Keeps top top old new one
  pub migration_begins : (to number : ℕ) → MigrationBegins n view to number → Changes old new n (migration_begun view to number) → Keeps top top old new one
  pub copy_ordered : (to number copies : ℕ) (keys : List (List ℕ)) → CopyIsOrdered view to number copies keys
      → Changes old new n (copy_ordered view to number copies keys) → Keeps top top old new one
  pub copy_installed : (from number copied : ℕ) (drained : Option ℕ) (pairs : List (List ℕ × Value)) (values : List ℕ → Option Value)
      → view.move ≡ Some (Comes from number copied drained) → IsSent top old (Copy from n number (copied + 1) pairs)
      → Puts view.value values pairs → Changes old new n (copy_installed view from number copied drained values) → Keeps top top old new one
  pub copy_acknowledged : (to number copies : ℕ) (keys : List (List ℕ)) (values : List ℕ → Option Value)
      → view.move ≡ Some (Leaves to number copies (Some keys)) → IsSent top old (Ack to n number copies)
      → Removes view.value values keys → Changes old new n (copy_acknowledged view to number copies values) → Keeps top top old new one
  pub drained_noted : (from number copied : ℕ) (drained : Option ℕ) (epoch : ℕ) → view.move ≡ Some (Comes from number copied drained)
      → IsSent top old (Drained from n number epoch) → Changes old new n (drained_noted view from number copied epoch) → Keeps top top old new one
  pub import_ends : (from number copied epoch newer : ℕ) → ImportEnds view from number copied epoch newer
      → Changes old new n (import_ended view (record { epoch = newer; owner = n })) → Keeps top (record { epoch = newer; owner = n }) old new one
  pub claim_taken : (claim : SlotEntry) (after : View Value) → ClaimIsTaken n view claim after → IsSent top old (Claimed claim.owner claim.epoch)
      → Changes old new n after → Keeps top top old new one
  pub owner_serves : (keys : List (List ℕ)) (values next : List ℕ → Option Value) → OwnerServes n view → IsServed view.value values one next keys
      → Changes old new n (served view values) → Keeps top top old new next
  pub leaving_serves : (keys : List (List ℕ)) (values next : List ℕ → Option Value) → LeavingServes view keys → IsServed view.value values one next keys
      → Changes old new n (served view values) → Keeps top top old new next
  pub import_serves : (keys : List (List ℕ)) (values next : List ℕ → Option Value) → ImportServes top old n view keys → IsServed view.value values one next keys
      → Changes old new n (served view values) → Keeps top top old new next

pub events_at : (top : SlotEntry) (old new : Views Value) (one : List ℕ → Option Value) (n : ℕ) (view : View Value) → Holds top old one → old n ≡ view → EventLaws top old new one n view
events_at top old new one n view holds here =
    let laws : EventLaws top old new one n (old n) = record {
      import_begins = λ from number begins changes. import_begins-keeps holds n from number begins changes;
      migration_begins = λ to number begins changes. migration_begins-keeps holds n to number begins changes;
      copy_ordered = λ to number copies keys ordered changes. copy_ordered-keeps holds n to number copies keys ordered changes;
      copy_installed = λ from number copied drained pairs values is sent puts changes. copy_installed-keeps holds n from number copied drained pairs values is sent puts changes;
      copy_acknowledged = λ to number copies keys values is sent removes changes. copy_acknowledged-keeps holds n to number copies keys values is sent removes changes;
      drained_noted = λ from number copied drained epoch is sent changes. drained_noted-keeps holds n from number copied epoch drained is sent changes;
      import_ends = λ from number copied epoch newer ends changes. import_ends-keeps holds n from number copied epoch newer ends changes;
      claim_taken = λ claim after taken sent changes. claim_taken-keeps holds n claim after sent taken changes;
      owner_serves = λ keys values next serves is changes. owner_serves-keeps holds n keys is changes serves;
      leaving_serves = λ keys values next serves is changes. leaving_serves-keeps holds n keys is changes serves;
      import_serves = λ keys values next serves is changes. coming_serves-keeps holds n serves.by serves.number keys serves.comes serves.told is changes;
    } in
    subst (EventLaws top old new one n) here laws

-- what a node has, and may send
pub record ViewLaws (top : SlotEntry) (seen : Views Value) (one : List ℕ → Option Value) (n : ℕ) (view : View Value) : Type 0 where
  pub owner_has : (keys : List (List ℕ)) → OwnerServes n view → (key : List ℕ) → Contains keys key → one key ≡ view.value key
  pub leaving_has : (keys : List (List ℕ)) → LeavingServes view keys → (key : List ℕ) → Contains keys key → one key ≡ view.value key
  pub import_has : (keys : List (List ℕ)) → ImportServes top seen n view keys → (key : List ℕ) → Contains keys key → one key ≡ view.value key
  pub copy_sent : (to number copies : ℕ) (pairs : List (List ℕ × Value)) → CopyIsSent view to number copies pairs → IsSent top seen (Copy n to number copies pairs)
  pub claim_sent : (epoch : ℕ) → view.entry ≡ Some (record { epoch = epoch; owner = n }) → IsSent top seen (Claimed n epoch)
  pub told_sent : (to number : ℕ) (keys : List (List ℕ)) → IsAsked view to number keys → IsSent top seen (Told n to number keys)
  pub ack_sent : (from number count copied : ℕ) (drained : Option ℕ) (pairs : List (List ℕ × Value)) → view.move ≡ Some (Comes from number copied drained) → count ≤ copied
      → IsSent top seen (Copy from n number count pairs) → IsSent top seen (Ack n from number count)

pub laws_at : (top : SlotEntry) (seen : Views Value) (one : List ℕ → Option Value) (n : ℕ) (view : View Value) → Holds top seen one → seen n ≡ view → ViewLaws top seen one n view
laws_at top seen one n view holds here =
    let laws : ViewLaws top seen one n (seen n) = record {
      owner_has = λ keys serves key among. owner-has holds n serves keys key among;
      leaving_has = λ keys serves key among. leaving-has holds n keys serves key among;
      import_has = λ keys serves key among. coming-has holds n serves.by serves.number keys serves.comes serves.told key among;
      copy_sent = λ to number copies pairs is. copy-is_sent holds n to number copies pairs is;
      claim_sent = λ epoch is. claim-is_sent holds n epoch is;
      told_sent = λ to number keys is. told-is_sent holds n to number keys is;
      ack_sent = λ from number count copied drained pairs is old sent. ack-is_sent holds n from number count copied drained pairs is old sent;
    } in
    subst (ViewLaws top seen one n) here laws

-- What may happen to a slot at one node (Redis Cluster specification, "Cluster live reconfiguration", "ASK redirection",
-- "Hash slots configuration propagation"; that moves and copies have numbers is ours).
use Rattle.std.specs.Prelude.{◌≡◌, ◌≢◌, ◌<◌, ◌≤◌, ◌+◌, ℕ, true, List, Option, Some, None, Contains}
use Rattle.std.specs.Map.{keys_of}
use Rattle.slot_table.specs.declared.entry.SlotEntry.{SlotEntry}
use Rattle.slot_table.specs.Table.{owner_in}
use Rattle.slot_table.specs.Claims.{is_above}
use Rattle.slot_state.specs.declared.running.Move.TheVariants.{Leaves, Comes}
use Rattle.one_slot.specs.View.{View, Views}
use Rattle.one_slot.specs.Slot.{Freezes, Holds, IsAtMost, IsLeaving}
use Rattle.one_slot.specs.Sent.{HasAll, Sent, IsSent}

-- the slot is another at one node, and at no other
pub record Changes {X : Type 0} (old new : Views X) (node : ℕ) (view : View X) : Type 0 where
  pub here : new node ≡ view
  pub there : (other : ℕ) → other ≢ node → new other ≡ old other

-- what held of the slot still holds, and so does what held of each thing that was sent
pub record Keeps {X : Type 0} (top newest : SlotEntry) (old new : Views X) (one : List ℕ → Option X) : Type 0 where
  pub holds : Holds newest new one
  pub sent : (sent : Sent X) → IsSent top old sent → IsSent newest new sent

-- values are the old ones but at the keys of these pairs, each of which has a value that it has among them
pub record Puts {X : Type 0} (old new : List ℕ → Option X) (pairs : List (List ℕ × X)) : Type 0 where
  pub at : (key : List ℕ) → Contains (keys_of pairs) key → (x : X) × Contains pairs (key, x) × (new key ≡ Some x)
  pub rest : (key : List ℕ) → ¬ Contains (keys_of pairs) key → new key ≡ old key

-- values are the old ones but at these keys, which are gone
pub record Removes {X : Type 0} (old new : List ℕ → Option X) (keys : List (List ℕ)) : Type 0 where
  pub at : (key : List ℕ) → Contains keys key → new key ≡ None
  pub rest : (key : List ℕ) → ¬ Contains keys key → new key ≡ old key

-- ---- the start

-- a node has no key and no move, and its table, if it has anything of the slot, has the first entry
pub record IsFirst {X : Type 0} (first : SlotEntry) (view : View X) : Type 0 where
  pub entry : (entry : SlotEntry) → view.entry ≡ Some entry → entry ≡ first
  pub move : view.move ≡ None
  pub value : (key : List ℕ) → view.value key ≡ None

-- each node is so, the owner's table has the entry, and the one keyspace is empty
pub record Starts {X : Type 0} (first : SlotEntry) (views : Views X) (one : List ℕ → Option X) : Type 0 where
  pub each : (node : ℕ) → IsFirst first (views node)
  pub owner : (views first.owner).entry ≡ Some first
  pub nothing : (key : List ℕ) → one key ≡ None

-- ---- moves begin

-- a node without a move begins to import from the owner in its table, under a number above all earlier ones
pub record ImportBegins {X : Type 0} (node : ℕ) (view : View X) (from number : ℕ) : Type 0 where
  pub idle : view.move ≡ None
  pub owner : owner_in view.entry ≡ Some from
  pub other : from ≢ node
  pub above : view.last < number

-- no copy is installed yet
abbrev pub import_begun : {X : Type 0} → View X → ℕ → ℕ → View X
import_begun view from number = record view { move = Some (Comes from number 0 None); last = number }

-- a node without a move begins to give its slot away, under a number above all earlier ones
pub record MigrationBegins {X : Type 0} (node : ℕ) (view : View X) (to number : ℕ) : Type 0 where
  pub idle : view.move ≡ None
  pub owner : owner_in view.entry ≡ Some node
  pub other : to ≢ node
  pub above : view.last < number

-- no copy is made yet
abbrev pub migration_begun : {X : Type 0} → View X → ℕ → ℕ → View X
migration_begun view to number = record view { move = Some (Leaves to number 0 None); last = number }

-- ---- copies

-- the next copy of a move is made, of one key or several, all of them there
pub record CopyIsOrdered {X : Type 0} (view : View X) (to number copies : ℕ) (keys : List (List ℕ)) : Type 0 where
  pub move : view.move ≡ Some (Leaves to number copies None)
  pub one : List ℕ
  pub among : Contains keys one
  pub here : (key : List ℕ) → Contains keys key → (x : X) × (view.value key ≡ Some x)

-- its keys are frozen
abbrev pub copy_ordered : {X : Type 0} → View X → ℕ → ℕ → ℕ → List (List ℕ) → View X
copy_ordered view to number copies keys = record view { move = Some (Leaves to number (copies + 1) (Some keys)) }

-- the last copy of a move is sent, the first time or again, with the values that the keys have
pub record CopyIsSent {X : Type 0} (view : View X) (to number copies : ℕ) (pairs : List (List ℕ × X)) : Type 0 where
  pub move : view.move ≡ Some (Leaves to number copies (Some (keys_of pairs)))
  pub one : List ℕ
  pub among : Contains (keys_of pairs) one
  pub here : HasAll view.value pairs
  pub each : (key : List ℕ) → Contains (keys_of pairs) key → (x : X) × (view.value key ≡ Some x)

-- a slot that leaves has no key left, and has that epoch in the table
pub record IsEmptied {X : Type 0} (view : View X) (to number epoch : ℕ) : Type 0 where
  pub leaves : IsLeaving view to number
  pub owner : ℕ
  pub entry : view.entry ≡ Some (record { epoch = epoch; owner = owner })
  pub empty : (key : List ℕ) → view.value key ≡ None

-- the copy that comes next is installed
abbrev pub copy_installed : {X : Type 0} → View X → ℕ → ℕ → ℕ → Option ℕ → (List ℕ → Option X) → View X
copy_installed view from number copied drained values = record view { move = Some (Comes from number (copied + 1) drained); value = values }

-- the keys whose copy was acknowledged are deleted
abbrev pub copy_acknowledged : {X : Type 0} → View X → ℕ → ℕ → ℕ → (List ℕ → Option X) → View X
copy_acknowledged view to number copies values = record view { move = Some (Leaves to number copies None); value = values }

-- ---- the end of an import

-- the other node said that it has no key left, with its epoch
abbrev pub drained_noted : {X : Type 0} → View X → ℕ → ℕ → ℕ → ℕ → View X
drained_noted view from number copied epoch = record view { move = Some (Comes from number copied (Some epoch)) }

-- the new epoch is above the one that the other node had
pub record ImportEnds {X : Type 0} (view : View X) (from number copied epoch newer : ℕ) : Type 0 where
  pub move : view.move ≡ Some (Comes from number copied (Some epoch))
  pub above : epoch < newer

-- the node has the slot
abbrev pub import_ended : {X : Type 0} → View X → SlotEntry → View X
import_ended view entry = record view { entry = Some entry; move = None }

-- ---- claims

-- a claim of another node counts above what the table has: a slot that was the node's own is lost, with its move and its keys
pub record ClaimIsTaken {X : Type 0} (node : ℕ) (old : View X) (claim : SlotEntry) (new : View X) : Type 0 where
  pub other : claim.owner ≢ node
  pub above : is_above claim old.entry ≡ true
  pub entry : new.entry ≡ Some claim
  pub last : new.last ≡ old.last
  pub lost : owner_in old.entry ≡ Some node → (to number : ℕ) → IsLeaving old to number → new.move ≡ None
  pub deleted : owner_in old.entry ≡ Some node → (key : List ℕ) → new.value key ≡ None
  pub move : owner_in old.entry ≢ Some node → new.move ≡ old.move
  pub value : owner_in old.entry ≢ Some node → new.value ≡ old.value

-- ---- commands

-- a command is served by a node, and by the one keyspace: each leaves the same at its keys, and all other keys as they were
pub record IsServed {X : Type 0} (old new one next : List ℕ → Option X) (keys : List (List ℕ)) : Type 0 where
  pub rest : (key : List ℕ) → ¬ Contains keys key → new key ≡ old key
  pub rest_one : (key : List ℕ) → ¬ Contains keys key → next key ≡ one key
  pub inside : (key : List ℕ) → Contains keys key → next key ≡ new key

-- the node has the new values
abbrev pub served : {X : Type 0} → View X → (List ℕ → Option X) → View X
served view values = record view { value = values }

-- all keys are there, and none is frozen
pub record AreFree {X : Type 0} (view : View X) (frozen : Option (List (List ℕ))) (keys : List (List ℕ)) : Type 0 where
  pub here : (key : List ℕ) → Contains keys key → (x : X) × (view.value key ≡ Some x)
  pub thawed : (key : List ℕ) → Freezes frozen key → ¬ Contains keys key

-- the owner serves, where it has no move
pub record OwnerServes {X : Type 0} (node : ℕ) (view : View X) : Type 0 where
  pub owner : owner_in view.entry ≡ Some node
  pub idle : view.move ≡ None

-- a node that the slot leaves serves a command with keys, where it has them all and none is frozen
pub record LeavingServes {X : Type 0} (view : View X) (keys : List (List ℕ)) : Type 0 where
  pub first : List ℕ
  pub among : Contains keys first
  pub to : ℕ
  pub number : ℕ
  pub copies : ℕ
  pub frozen : Option (List (List ℕ))
  pub move : view.move ≡ Some (Leaves to number copies frozen)
  pub free : AreFree view frozen keys

-- a node that the slot leaves answers ASK where it has none of the keys
pub record IsAsked {X : Type 0} (view : View X) (to number : ℕ) (keys : List (List ℕ)) : Type 0 where
  pub leaves : IsLeaving view to number
  pub none : (key : List ℕ) → Contains keys key → view.value key ≡ None

-- ---- a planned handover

-- the slot is another at two nodes, and at no other
pub record ChangesBoth {X : Type 0} (old new : Views X) (node : ℕ) (view : View X) (second : ℕ) (other_view : View X) : Type 0 where
  pub one : new node ≡ view
  pub other : new second ≡ other_view
  pub rest : (other : ℕ) → other ≢ node → other ≢ second → new other ≡ old other

-- a node without a move hands its slot with its keys to another one, and is seen no more from then on; the other has the slot in a new epoch
pub record HandsOver {X : Type 0} (from to left : View X) (node : ℕ) (owner : View X) (newer : ℕ) : Type 0 where
  pub idle : from.move ≡ None
  pub nothing : (key : List ℕ) → to.value key ≡ None
  pub hidden : left.entry ≡ None
  pub gone : left.move ≡ None
  pub last_from : left.last ≡ from.last
  pub empty : (key : List ℕ) → left.value key ≡ None
  pub entry : owner.entry ≡ Some (record { epoch = newer; owner = node })
  pub rests : owner.move ≡ None
  pub last_to : to.last ≤ owner.last
  pub same : (key : List ℕ) → owner.value key ≡ from.value key

-- a node that has no part in the slot is seen no more, or comes to sight: it has no move, no key of the slot, and isn't the owner in its table
pub record Settles {X : Type 0} (top : SlotEntry) (node : ℕ) (before after : View X) : Type 0 where
  pub idle : before.move ≡ None
  pub nothing : (key : List ℕ) → before.value key ≡ None
  pub rests : after.move ≡ None
  pub last : before.last ≤ after.last
  pub newest : (entry : SlotEntry) → after.entry ≡ Some entry → IsAtMost top entry
  pub foreign : owner_in after.entry ≢ Some node
  pub empty : (key : List ℕ) → after.value key ≡ None

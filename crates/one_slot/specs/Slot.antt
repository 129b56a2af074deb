-- What holds of a slot that has an owner, over all nodes (Redis Cluster specification, "Cluster live reconfiguration";
-- that a move has a number, and its copies have numbers, is ours).
use Rattle.std.specs.Prelude.{◌≡◌, ◌≢◌, ◌≤◌, ◌+◌, ◌==◌, ◌&&◌, ℕ, if◌then◌else◌, List, Option, Some, None, Contains}
use Rattle.slot_table.specs.declared.entry.SlotEntry.{SlotEntry}
use Rattle.slot_table.specs.Table.{owner_in}
use Rattle.slot_state.specs.declared.running.Move.{Move}
use Rattle.slot_state.specs.declared.running.Move.TheVariants.{Leaves, Comes}
use Rattle.one_slot.specs.View.{View, Views}

-- an entry is older than the newest one, or of the same owner
pub record IsAtMost (top entry : SlotEntry) : Type 0 where
  pub epoch : entry.epoch ≤ top.epoch
  pub owner : entry.epoch ≡ top.epoch → entry.owner ≡ top.owner

-- the slot leaves a node for another one under that number
pub record IsLeaving {X : Type 0} (view : View X) (to number : ℕ) : Type 0 where
  pub copies : ℕ
  pub frozen : Option (List (List ℕ))
  pub is : view.move ≡ Some (Leaves to number copies frozen)

-- the slot comes to a node under that number, whichever node it is said to come from
pub record IsComing {X : Type 0} (view : View X) (number : ℕ) : Type 0 where
  pub from : ℕ
  pub copied : ℕ
  pub drained : Option ℕ
  pub is : view.move ≡ Some (Comes from number copied drained)

-- a move is over at a node that took part in one of that or a greater number, and isn't importing under that number
pub record IsOver {X : Type 0} (view : View X) (number : ℕ) : Type 0 where
  pub reached : number ≤ view.last
  pub ended : ¬ IsComing view number

-- the slot leaves its holder for a node under a number, and comes to that node under the same number
pub record IsMoving {X : Type 0} (holder : View X) (node : ℕ) (view : View X) : Type 0 where
  pub number : ℕ
  pub leaves : IsLeaving holder node number
  pub comes : IsComing view number

-- how many copies were installed in the import from a node under a number
abbrev pub installed : Option Move → ℕ → ℕ → ℕ
installed None source number = 0
installed (Some (Leaves to other copies frozen)) source number = 0
installed (Some (Comes from other copied drained)) source number = if from == source && other == number then copied else 0

-- all copies of a move are installed but the last one, whose keys are frozen then
pub record IsCounted (copies : ℕ) (frozen : Option (List (List ℕ))) (count : ℕ) : Type 0 where
  pub made : count ≤ copies
  pub next : copies ≤ count + 1
  pub settled : frozen ≡ None → count ≡ copies

-- the key is one of the frozen keys
abbrev pub Freezes : Option (List (List ℕ)) → List ℕ → Type 0
Freezes None key = ⊥
Freezes (Some keys) key = Contains keys key

-- there is a frozen key, the frozen keys are at the holder, and a copy of them was made
pub record IsFrozen {X : Type 0} (holder : View X) (copies : ℕ) (keys : List (List ℕ)) : Type 0 where
  pub first : 1 ≤ copies
  pub one : List ℕ
  pub among : Contains keys one
  pub here : (key : List ℕ) → Contains keys key → (x : X) × (holder.value key ≡ Some x)

-- the source of an import said that it has no key left: it is the holder, and it has none
pub record IsDrained {X : Type 0} (top : SlotEntry) (holder : View X) (from to number epoch : ℕ) : Type 0 where
  pub source : from ≡ top.owner
  pub leaves : IsLeaving holder to number
  pub newest : epoch ≡ top.epoch
  pub empty : (key : List ℕ) → holder.value key ≡ None

-- the slot at its holder, the owner of the newest entry
pub record IsHolder {X : Type 0} (top : SlotEntry) (holder : View X) : Type 0 where
  pub entry : holder.entry ≡ Some top
  pub own : (number : ℕ) → ¬ IsComing holder number
  pub other : (to number : ℕ) → IsLeaving holder to number → to ≢ top.owner
  pub last : (to number : ℕ) → IsLeaving holder to number → number ≡ holder.last
  pub frozen : (to number copies : ℕ) (keys : List (List ℕ)) → holder.move ≡ Some (Leaves to number copies (Some keys)) → IsFrozen holder copies keys

-- the slot at another node. It is this node's only in a table whose slot leaves; it has keys only if it moves here from the holder,
-- and a key of the holder only if it is a frozen one, whose copy is installed; and its copies are counted
pub record IsElsewhere {X : Type 0} (top : SlotEntry) (holder : View X) (node : ℕ) (view : View X) : Type 0 where
  pub owned : owner_in view.entry ≡ Some node → view.move ≢ None
  pub foreign : (number : ℕ) → IsComing view number → owner_in view.entry ≢ Some node
  pub last : (number : ℕ) → IsComing view number → number ≡ view.last
  pub thawed : (to number copies : ℕ) (keys : List (List ℕ)) → view.move ≢ Some (Leaves to number copies (Some keys))
  pub moving : (key : List ℕ) (x : X) → view.value key ≡ Some x → IsMoving holder node view
  pub both : (number copies : ℕ) (frozen : Option (List (List ℕ))) (from copied : ℕ) (drained : Option ℕ) (key : List ℕ) (x z : X)
      → holder.move ≡ Some (Leaves node number copies frozen) → view.move ≡ Some (Comes from number copied drained)
      → view.value key ≡ Some x → holder.value key ≡ Some z
      → (from ≡ top.owner) × (copied ≡ copies) × Freezes frozen key
  pub arrived : (number copies : ℕ) (keys : List (List ℕ)) (drained : Option ℕ) (key : List ℕ) (x : X)
      → holder.move ≡ Some (Leaves node number copies (Some keys)) → view.move ≡ Some (Comes top.owner number copies drained)
      → Contains keys key → holder.value key ≡ Some x → view.value key ≡ Some x
  pub counted : (number copies : ℕ) (frozen : Option (List (List ℕ))) → holder.move ≡ Some (Leaves node number copies frozen)
      → IsCounted copies frozen (installed view.move top.owner number)
  pub copied : (from number copied : ℕ) (drained : Option ℕ) → view.move ≡ Some (Comes from number copied drained) → 1 ≤ copied
      → (from ≡ top.owner) × IsLeaving holder node number
  pub drained : (from number copied epoch : ℕ) → view.move ≡ Some (Comes from number copied (Some epoch))
      → IsDrained top holder from node number epoch

-- the one keyspace has just what the nodes have
pub record IsShared {X : Type 0} (views : Views X) (one : List ℕ → Option X) : Type 0 where
  pub here : (node : ℕ) (key : List ℕ) (x : X) → (views node).value key ≡ Some x → one key ≡ Some x
  pub there : (key : List ℕ) (x : X) → one key ≡ Some x → (node : ℕ) × ((views node).value key ≡ Some x)

-- a slot that has an owner
pub record Holds {X : Type 0} (top : SlotEntry) (views : Views X) (one : List ℕ → Option X) : Type 0 where
  pub newest : (node : ℕ) (entry : SlotEntry) → (views node).entry ≡ Some entry → IsAtMost top entry
  pub holder : IsHolder top (views top.owner)
  pub others : (node : ℕ) → node ≢ top.owner → IsElsewhere top (views top.owner) node (views node)
  pub stale : (node : ℕ) → node ≢ top.owner → (to number : ℕ) → IsLeaving (views node) to number → IsOver (views to) number
  pub keys : IsShared views one

-- a slot that has no owner, and never gets one
pub record IsUnowned {X : Type 0} (views : Views X) (one : List ℕ → Option X) : Type 0 where
  pub entry : (node : ℕ) → (views node).entry ≡ None
  pub move : (node : ℕ) → (views node).move ≡ None
  pub value : (node : ℕ) (key : List ℕ) → (views node).value key ≡ None
  pub nothing : (key : List ℕ) → one key ≡ None

-- A step of a node, and its entry (ours).
use Rattle.std.specs.Prelude.{◌≡◌, ◌++◌, ◌∷◌, ◌-◌, ◌^◌, ℕ, min, List, [], length, reverse, Option, Result, IfSome, IfNone, IfOk}
use Rattle.node_step.specs.Numbers.{NoNumberLeft}
use Rattle.node_step.specs.State.{NodeState}
use Rattle.node_step.specs.Step.{NodeStep}
use Rattle.world_run.specs.Run.{Deed, Entry, WorldStep}
use Rattle.node_step.specs.declared.event.Event.{Event}
use Rattle.world_run.specs.Run.Deed.{Made, Skipped}

-- what a node did leads it from a state to the next
abbrev pub DoesSo : ℕ → NodeState → Deed → NodeState → Type 0
DoesSo ticket before (Made event outputs) after = NodeStep ticket before event outputs after
DoesSo ticket before Skipped after = after ≡ before

-- the ticket of the next entry: how many there were before, as far as 64 bits count
abbrev pub ticket_behind : List Entry → ℕ
ticket_behind entries = min (length entries) (2 ^ 64 - 1)

-- a node did so, which stands behind the entries
pub record Steps (old : List Entry) (before : NodeState) (node : ℕ) (deed : Deed) (new : List Entry) (after : NodeState) : Type 0 where
  pub ticket : ℕ
  pub numbered : ticket ≡ ticket_behind old
  pub does : DoesSo ticket before deed after
  pub entered : new ≡ old ++ (record { node = node; ticket = ticket; deed = deed }) ∷ []

-- the same among the other nodes
pub record EntersAt (past : List Entry) (old : List NodeState) (node : ℕ) (deed : Deed) (entries : List Entry) (new : List NodeState) : Type 0 where
  pub ticket : ℕ
  pub numbered : ticket ≡ ticket_behind past
  pub step : WorldStep (reverse past) old (record { node = node; ticket = ticket; deed = deed }) new
  pub entered : entries ≡ past ++ (record { node = node; ticket = ticket; deed = deed }) ∷ []

-- a node among the others skips the event: it needs a number that has no next one
pub record SkipsAt (past : List Entry) (old : List NodeState) (node : ℕ) (event : Event) (entries : List Entry) (new : List NodeState) : Type 0 where
  pub enters : EntersAt past old node Skipped entries new
  pub why : NoNumberLeft enters.step.before event

-- P of what came out of the step, where the node made one
abbrev pub IfMade : {T E : Type 0} → Result (Option T) E → (T → Type 0) → Type 0
IfMade result P = IfOk result (λ made. IfSome made P)

-- P, where the node skipped the event
abbrev pub IfSkipped : {T E : Type 0} → Result (Option T) E → Type 0 → Type 0
IfSkipped result P = IfOk result (λ made. IfNone made P)

-- A step that is made: a change of the node, and what is written behind its stream.
use Rattle.std.specs.Prelude.{◌≡◌, ℕ, List, [], ◌∷◌}
use Rattle.bus.specs.Stream.{StreamView, Writes}
use Rattle.keyspace.specs.declared.plans.Plan.{Plan}
use Rattle.node_parts.specs.Becomes.{Becomes, CanBeMade}
use Rattle.node_parts.specs.Drafts.{MayCount, at_epoch}
use Rattle.node_parts.specs.Succession.{succeeded_by}
use Rattle.node_parts.specs.declared.draft.Draft.{Draft}
use Rattle.node_parts.specs.declared.change.Change.{Change}
use Rattle.node_step.specs.State.{NodeState, kept_in}

-- the bytes are put behind the stream, of which so many of the last ones are kept; where there are none it stays
abbrev pub GoesOn : ℕ → List ℕ → StreamView → StreamView → Type 0
GoesOn kept [] old new = new ≡ old
GoesOn kept (byte ∷ bytes) old new = Writes kept (byte ∷ bytes) old new

-- the node changed, and the bytes stand behind its stream
pub record IsMade (old : NodeState) (plan : Plan) (change : Change) (bytes : List ℕ) (new : NodeState) : Type 0 where
  pub after : NodeState
  pub changes : Becomes old plan change after
  pub goes_on : GoesOn (kept_in old.config) bytes after.stream new.stream
  pub state : new ≡ record after { stream = new.stream }

-- a draft is made: its change, what it writes, and a promotion, if there is one
pub record IsApplied (old : NodeState) (draft : Draft) (new : NodeState) : Type 0 where
  pub made : NodeState
  pub makes : IsMade (at_epoch old draft.epoch) draft.plan draft.change draft.written.bytes made
  pub state : new ≡ succeeded_by draft.succession made

-- a draft can be made: its change, and what it writes
abbrev pub CanMake : NodeState → Draft → Type 0
CanMake old draft = CanBeMade old draft.plan draft.change × MayCount old draft.written

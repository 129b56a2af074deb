-- Which of the connections that wait are meant (ours).
use Rattle.std.specs.Prelude.{ℕ, ◌==◌, ◌&&◌, Bool}
use Rattle.std.specs.List.{list_any}
use Rattle.connections.specs.Connections.{is_over}
use Rattle.connections.specs.declared.conn.Wait.{Wait}
use Rattle.connections.specs.declared.waiting.Waiting.{Waiting}
use Rattle.connections.specs.declared.waiting.Waiting.TheVariants.{Over, For, In}
use Rattle.slot_state.specs.declared.copy_id.CopyId.{CopyId}

-- the connection waits for this copy
abbrev pub is_for : CopyId → Wait → Bool
is_for id wait = (wait.id.slot == id.slot) && (wait.id.number == id.number) && (wait.id.copy == id.copy)

-- what those that are meant have in common
abbrev pub test_of : Waiting → Wait → Bool
test_of Over = is_over
test_of (For id) = is_for id
test_of (In slots) = λ wait. list_any (λ other. other == wait.id.slot) slots.now

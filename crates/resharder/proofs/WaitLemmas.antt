-- A run waits for what it asked for last.
use Rattle.std.proofs.Common.{◌==◌, ℕ, Bool, true, false, cond, List, [], ◌∷◌, length, Option, Some, None, Result, Ok, Err, inl, inr, refl, ap, sym, subst}
use Rattle.std.specs.Prelude.{⊤, nat_le, slice_get}
use Rattle.redirection.specs.Address.{Place}
use Rattle.resp_values.specs.declared.reply.Reply.{Reply}
use Rattle.resharder.specs.Nodes.{KnownNodes}
use Rattle.resharder.specs.Replies.{answer_of, keys_in, nodes_in, owns, report_in}
use Rattle.resharder.specs.State.{RunState}
use Rattle.resharder.specs.Step.{Follows, IsWaiting, Steps, Turn, again, answered, begins_at, destination_read, ended_at, ended_at_destination, found, keys_listed, keys_moved, next_other, number_of, numbered, replied, source_read, started, then_takes, turn}
use Rattle.resharder.specs.Step.Turn.{Goes, Ends, Reads}
use Rattle.resharder.specs.declared.action.Action.{Action}
use Rattle.resharder.specs.declared.action.Event.{Event}
use Rattle.resharder.specs.declared.action.Event.TheVariants as happened
use Rattle.resharder.specs.declared.answer.Answer.{Answer}
use Rattle.resharder.specs.declared.answer.Answer.TheVariants as answer
use Rattle.resharder.specs.declared.fault.ReshardFault.{ReshardFault}
use Rattle.resharder.specs.declared.fault.ReshardFault.TheVariants.{Memory}
use Rattle.resharder.specs.declared.plan.Plan.{Plan}
use Rattle.resharder.specs.declared.report.Report.{Report}
use Rattle.resharder.specs.declared.stage.Source.{Source}
use Rattle.resharder.specs.declared.stage.Stage.{Stage}
use Rattle.resharder.specs.declared.stage.Stage.TheVariants.{Begins, Finds, Works, Prints, Over}
use Rattle.resharder.specs.declared.stage.Step.{Step}
use Rattle.resharder.specs.declared.stage.Step.TheVariants.{ReadsSource, ReadsDestination, Imports, Migrates, ListsKeys, MovesKeys, EndsAtDestination, EndsAtSource, EndsAtOther}
use Rattle.resharder.specs.declared.stage.Work.{Work}

-- behind this turn it does
abbrev pub Waits : Turn → Type 0
Waits (Goes stage action) = IsWaiting action stage
Waits (Ends fault) = ⊤
Waits (Reads made) = Waits made

waits_if : (b : Bool) (one other : Turn) → Waits one → Waits other → Waits (cond b one other)
waits_if true one other waits others = waits
waits_if false one other waits others = others

begins_waits : (plan : Plan) (nodes : KnownNodes) (slot : ℕ) → Waits (begins_at plan nodes slot)
begins_waits plan nodes slot = waits_if (nat_le slot plan.slots.last) _ _ tt refl

found_waits : (plan : Plan) (nodes : Result KnownNodes ReshardFault) → Waits (found plan nodes)
found_waits plan (Err fault) = tt
found_waits plan (Ok nodes) = begins_waits plan nodes plan.slots.first

again_waits : (plan : Plan) (work : Work) → Waits (again plan work)
again_waits plan work = waits_if (work.repeats == 0) _ _ tt tt

source_waits : (plan : Plan) (work : Work) (report : Option Report) → Waits (source_read plan work report)
source_waits plan work None = tt
source_waits plan work (Some report) = tt

numbered_waits : (plan : Plan) (work : Work) (number : Option ℕ) → Waits (numbered plan work number)
numbered_waits plan work None = tt
numbered_waits plan work (Some number) = tt

destination_waits : (plan : Plan) (work : Work) (source : Source) (report : Option Report) → Waits (destination_read plan work source report)
destination_waits plan work source None = tt
destination_waits plan work source (Some report) = waits_if (owns report.standing) _ _ tt (numbered_waits plan work (number_of source report))

then_waits : (plan : Plan) (work : Work) (step : Step) (kind : Answer) → Waits (then_takes plan work step kind)
then_waits plan work step answer.Done = tt
then_waits plan work step answer.NoKey = tt
then_waits plan work step answer.TryAgain = tt
then_waits plan work step answer.NotAcknowledged = tt
then_waits plan work step answer.NotDrained = tt
then_waits plan work step answer.Other = tt

listed_waits : (plan : Plan) (work : Work) (keys : Option (List (List ℕ))) → Waits (keys_listed plan work keys)
listed_waits plan work None = tt
listed_waits plan work (Some []) = tt
listed_waits plan work (Some (key ∷ keys)) = tt

moved_waits : (plan : Plan) (work : Work) (moved : ℕ) (kind : Answer) → Waits (keys_moved plan work moved kind)
moved_waits plan work moved answer.Done = tt
moved_waits plan work moved answer.NoKey = tt
moved_waits plan work moved answer.TryAgain = again_waits plan work
moved_waits plan work moved answer.NotAcknowledged = again_waits plan work
moved_waits plan work moved answer.NotDrained = tt
moved_waits plan work moved answer.Other = tt

destination_ended_waits : (plan : Plan) (work : Work) (kind : Answer) → Waits (ended_at_destination plan work kind)
destination_ended_waits plan work answer.Done = tt
destination_ended_waits plan work answer.NoKey = tt
destination_ended_waits plan work answer.TryAgain = tt
destination_ended_waits plan work answer.NotAcknowledged = tt
destination_ended_waits plan work answer.NotDrained = again_waits plan work
destination_ended_waits plan work answer.Other = tt

other_waits : (plan : Plan) (work : Work) (place : ℕ) (at : Option Place) → Waits (next_other plan work place at)
other_waits plan work place None = tt
other_waits plan work place (Some at) = tt

ended_waits : (plan : Plan) (work : Work) (next : ℕ) (kind : Answer) → Waits (ended_at plan work next kind)
ended_waits plan work next answer.Done = other_waits plan work next (slice_get work.nodes.others next)
ended_waits plan work next answer.NoKey = tt
ended_waits plan work next answer.TryAgain = again_waits plan work
ended_waits plan work next answer.NotAcknowledged = tt
ended_waits plan work next answer.NotDrained = tt
ended_waits plan work next answer.Other = tt

replied_waits : (plan : Plan) (work : Work) (step : Step) (reply : Reply) → Waits (replied plan work step reply)
replied_waits plan work ReadsSource reply = source_waits plan work (report_in plan.to reply)
replied_waits plan work (ReadsDestination source) reply = destination_waits plan work source (report_in plan.from reply)
replied_waits plan work Imports reply = then_waits plan work Migrates (answer_of reply)
replied_waits plan work Migrates reply = then_waits plan work ListsKeys (answer_of reply)
replied_waits plan work ListsKeys reply = listed_waits plan work (keys_in reply)
replied_waits plan work (MovesKeys moved) reply = moved_waits plan work (length moved.keys) (answer_of reply)
replied_waits plan work EndsAtDestination reply = destination_ended_waits plan work (answer_of reply)
replied_waits plan work EndsAtSource reply = ended_waits plan work 0 (answer_of reply)
replied_waits plan work (EndsAtOther at next) reply = ended_waits plan work next (answer_of reply)

started_waits : (plan : Plan) (stage : Stage) → Waits (started plan stage)
started_waits plan Begins = tt
started_waits plan Finds = tt
started_waits plan (Works work) = tt
started_waits plan (Prints nodes slot) = begins_waits plan nodes _
started_waits plan Over = tt

answered_waits : (plan : Plan) (stage : Stage) (reply : Reply) → Waits (answered plan stage reply)
answered_waits plan Begins reply = tt
answered_waits plan Finds reply = found_waits plan (nodes_in plan.from plan.to reply)
answered_waits plan (Works work) reply = replied_waits plan work work.step reply
answered_waits plan (Prints nodes slot) reply = tt
answered_waits plan Over reply = tt

turn_waits : (plan : Plan) (stage : Stage) (event : Event) → Waits (turn plan stage event)
turn_waits plan stage happened.Start = started_waits plan stage
turn_waits plan stage (happened.Reply reply) = answered_waits plan stage reply
turn_waits plan stage happened.NotReached = tt
turn_waits plan stage happened.NoMemory = tt

over_waits : (old new : RunState) (fault : ReshardFault) (action : Action) → Follows (Ends fault) old action new → IsWaiting action new.stage
over_waits old new fault action follows =
    subst (λ (a : Action). IsWaiting a new.stage) (sym follows.1) (ap (λ (state : RunState). state.stage) follows.0)

follows_waits : (made : Turn) (old new : RunState) (action : Action) → Waits made → Follows made old action new → IsWaiting action new.stage
follows_waits (Goes stage done) old new action waits follows =
    subst (λ (a : Action). IsWaiting a new.stage) (sym follows.1) (subst (λ (s : Stage). IsWaiting done s) (sym (ap (λ (state : RunState). state.stage) follows.0)) waits)
follows_waits (Ends fault) old new action waits follows = over_waits old new fault action follows
follows_waits (Reads made) old new action waits follows = follows_waits made old new action waits follows

steps_wait : (old : RunState) (event : Event) (action : Action) (new : RunState) → Steps old event action new → IsWaiting action new.stage
steps_wait old event action new (inl follows) = follows_waits (turn old.plan old.stage event) old new action (turn_waits old.plan old.stage event) follows
steps_wait old event action new (inr refused) = over_waits old new Memory action refused.1

-- all that callers are told of a step
pub record Told (old : RunState) (event : Event) (action : Action) (new : RunState) : Type 0 where
  pub steps : Steps old event action new
  pub waits : IsWaiting action new.stage

pub told : (old : RunState) (event : Event) (action : Action) (new : RunState) → Steps old event action new → Told old event action new
told old event action new steps = record { steps = steps; waits = steps_wait old event action new steps }

-- What a run does with each event (Redis Cluster specification, "Moving hash slots", "Cluster live reconfiguration": the destination is
-- set to importing, the source to migrating, the keys are moved, and then the nodes are told the new owner, the destination first).
-- SLOTSTATE, the numbers of moves, and what is asked again are ours.
use Rattle.std.specs.Prelude.{◌≡◌, ◌⊎◌, ◌+◌, ◌-◌, ◌==◌, ℕ, min, max, nat_le, Bool, true, false, List, [], ◌∷◌, length, Option, Some, None, Result, Ok, Err, slice_get, if◌then◌else◌, IsTrue, ⊤}
use Rattle.std.specs.Option.{option_or}
use Rattle.command_table.specs.declared.command.SlotOrder.TheVariants as order
use Rattle.resp_values.specs.declared.reply.Reply.{Reply}
use Rattle.redirection.specs.Address.{Place}
use Rattle.resharder.specs.Migration.{migration}
use Rattle.resharder.specs.Nodes.{KnownNodes}
use Rattle.resharder.specs.Orders.{keys_words, migrate_words, set_words, slots_words, state_words}
use Rattle.resharder.specs.Replies.{answer_of, comes, keys_in, leaves, next_number, nodes_in, owns, positive, report_in}
use Rattle.resharder.specs.State.{RunState}
use Rattle.resharder.specs.declared.action.Action.{Action}
use Rattle.resharder.specs.declared.action.Action.TheVariants.{Ask, Line, Fault, End}
use Rattle.resharder.specs.declared.action.Event.{Event}
use Rattle.resharder.specs.declared.action.Event.TheVariants as happened
use Rattle.resharder.specs.declared.answer.Answer.{Answer}
use Rattle.resharder.specs.declared.answer.Answer.TheVariants as answer
use Rattle.resharder.specs.declared.fault.ReshardFault.{ReshardFault}
use Rattle.resharder.specs.declared.fault.ReshardFault.TheVariants.{TooOften, NotReached, BadReply, NoNextNumber, Memory}
use Rattle.resharder.specs.declared.plan.Plan.{Plan}
use Rattle.resharder.specs.declared.report.Report.{Report}
use Rattle.resharder.specs.declared.stage.Source.{Source}
use Rattle.resharder.specs.declared.stage.Stage.{Stage}
use Rattle.resharder.specs.declared.stage.Stage.TheVariants.{Begins, Finds, Works, Prints, Over}
use Rattle.resharder.specs.declared.stage.Step.{Step}
use Rattle.resharder.specs.declared.stage.Step.TheVariants.{ReadsSource, ReadsDestination, Imports, Migrates, ListsKeys, MovesKeys, EndsAtDestination, EndsAtSource, EndsAtOther}
use Rattle.resharder.specs.declared.stage.Work.{Work}

-- ---- what a run asks

-- the run waits so and wants this done; or it can't go on; or it reads a list in a reply, which takes memory, and then goes on so
pub data Turn : Type 0 where
  Goes : Stage → Action → Turn
  Ends : ReshardFault → Turn
  Reads : Turn → Turn

abbrev pub place_at : KnownNodes → Step → Place
place_at nodes ReadsSource = nodes.source
place_at nodes (ReadsDestination source) = nodes.destination
place_at nodes Imports = nodes.destination
place_at nodes Migrates = nodes.source
place_at nodes ListsKeys = nodes.source
place_at nodes (MovesKeys moved) = nodes.source
place_at nodes EndsAtDestination = nodes.destination
place_at nodes EndsAtSource = nodes.source
place_at nodes (EndsAtOther at next) = at

abbrev pub words_at : Plan → Work → Step → List (List ℕ)
words_at plan work ReadsSource = state_words work.slot
words_at plan work (ReadsDestination source) = state_words work.slot
words_at plan work Imports = set_words order.Importing work.slot plan.from work.number
words_at plan work Migrates = set_words order.Migrating work.slot plan.to work.number
words_at plan work ListsKeys = keys_words work.slot
words_at plan work (MovesKeys moved) = migrate_words moved.to moved.keys
words_at plan work EndsAtDestination = set_words order.Node work.slot plan.to work.number
words_at plan work EndsAtSource = set_words order.Node work.slot plan.to work.number
words_at plan work (EndsAtOther at next) = set_words order.Node work.slot plan.to work.number

abbrev pub asks : Plan → Work → Turn
asks plan work = Goes (Works work) (Ask (place_at work.nodes work.step) (words_at plan work work.step))

-- the next request
abbrev pub takes : Plan → Work → Step → Turn
takes plan work step = asks plan (record work { repeats = plan.limit; step = step })

-- the same request again
abbrev pub again : Plan → Work → Turn
again plan work = if work.repeats == 0 then Ends TooOften else asks plan (record work { repeats = work.repeats - 1 })

-- ---- slots, one after another

abbrev pub begins_at : Plan → KnownNodes → ℕ → Turn
begins_at plan nodes slot =
    if nat_le slot plan.slots.last then
    asks plan (record { nodes = nodes; slot = slot; number = None; keys = 0; repeats = plan.limit; step = ReadsSource })
    else Goes Over End

-- the masters that CLUSTER SLOTS lists
abbrev pub found : Plan → Result KnownNodes ReshardFault → Turn
found plan (Err fault) = Ends fault
found plan (Ok nodes) = begins_at plan nodes plan.slots.first

-- ---- the number of the move

abbrev pub source_read : Plan → Work → Option Report → Turn
source_read plan work None = Ends BadReply
source_read plan work (Some report) = takes plan work (ReadsDestination (record { number = leaves report.standing report.number; last = report.last }))

-- a move that is under way keeps its number, the source's if it is there under another one; a new move has the next one
abbrev pub number_of : Source → Report → Option ℕ
number_of source report = option_or (option_or source.number (comes report.standing report.number)) (next_number (max source.last report.last))

abbrev pub numbered : Plan → Work → Option ℕ → Turn
numbered plan work None = Ends NoNextNumber
numbered plan work (Some number) = takes plan (record work { number = Some number }) Imports

-- where the destination owns the slot already, the others are told so under the number that it knows
abbrev pub destination_read : Plan → Work → Source → Option Report → Turn
destination_read plan work source None = Ends BadReply
destination_read plan work source (Some report) =
    if owns report.standing then takes plan (record work { number = positive report.last }) EndsAtSource
    else numbered plan work (number_of source report)

-- ---- orders and keys

-- an order is done, or the run can't go on
abbrev pub then_takes : Plan → Work → Step → Answer → Turn
then_takes plan work step answer.Done = takes plan work step
then_takes plan work step _ = Ends BadReply

-- as many of the keys that are left as one request can name are moved at once; where none is left, the move ends
abbrev pub keys_listed : Plan → Work → Option (List (List ℕ)) → Turn
keys_listed plan work None = Ends BadReply
keys_listed plan work (Some []) = takes plan work EndsAtDestination
keys_listed plan work (Some (key ∷ keys)) = takes plan work (MovesKeys (migration work.nodes.destination (key ∷ keys)))

-- so many keys more, as far as 64 bits count
abbrev pub counted : Work → ℕ → Work
counted work more = record work { keys = min (work.keys + more) 18446744073709551615 }

-- so many keys are moved, or are gone; those that are left are listed again
abbrev pub keys_moved : Plan → Work → ℕ → Answer → Turn
keys_moved plan work moved answer.Done = takes plan (counted work moved) ListsKeys
keys_moved plan work moved answer.NoKey = takes plan work ListsKeys
keys_moved plan work moved answer.TryAgain = again plan work
keys_moved plan work moved answer.NotAcknowledged = again plan work
keys_moved plan work moved answer.NotDrained = Ends BadReply
keys_moved plan work moved answer.Other = Ends BadReply

-- ---- the end of a move

abbrev pub ended_at_destination : Plan → Work → Answer → Turn
ended_at_destination plan work answer.Done = takes plan work EndsAtSource
ended_at_destination plan work answer.NotDrained = again plan work
ended_at_destination plan work _ = Ends BadReply

-- the other masters are told one after another; behind the last one the slot is done
abbrev pub next_other : Plan → Work → ℕ → Option Place → Turn
next_other plan work place None = Goes (Prints work.nodes work.slot) (Line work.slot work.number work.keys)
next_other plan work place (Some at) = takes plan work (EndsAtOther at (place + 1))

abbrev pub ended_at : Plan → Work → ℕ → Answer → Turn
ended_at plan work next answer.Done = next_other plan work next (slice_get work.nodes.others next)
ended_at plan work next answer.TryAgain = again plan work
ended_at plan work next _ = Ends BadReply

-- ---- events

-- the reply to what was asked
abbrev pub replied : Plan → Work → Step → Reply → Turn
replied plan work ReadsSource reply = source_read plan work (report_in plan.to reply)
replied plan work (ReadsDestination source) reply = destination_read plan work source (report_in plan.from reply)
replied plan work Imports reply = then_takes plan work Migrates (answer_of reply)
replied plan work Migrates reply = then_takes plan work ListsKeys (answer_of reply)
replied plan work ListsKeys reply = Reads (keys_listed plan work (keys_in reply))
replied plan work (MovesKeys moved) reply = keys_moved plan work (length moved.keys) (answer_of reply)
replied plan work EndsAtDestination reply = ended_at_destination plan work (answer_of reply)
replied plan work EndsAtSource reply = ended_at plan work 0 (answer_of reply)
replied plan work (EndsAtOther at next) reply = ended_at plan work next (answer_of reply)

abbrev pub started : Plan → Stage → Turn
started plan Begins = Goes Finds (Ask plan.start slots_words)
started plan (Prints nodes slot) = begins_at plan nodes (slot + 1)
started plan _ = Ends BadReply

abbrev pub answered : Plan → Stage → Reply → Turn
answered plan Finds reply = Reads (found plan (nodes_in plan.from plan.to reply))
answered plan (Works work) reply = replied plan work work.step reply
answered plan _ reply = Ends BadReply

abbrev pub turn : Plan → Stage → Event → Turn
turn plan stage happened.Start = started plan stage
turn plan stage (happened.Reply reply) = answered plan stage reply
turn plan stage happened.NotReached = Ends NotReached
turn plan stage happened.NoMemory = Ends Memory

-- ---- steps

abbrev pub Follows : Turn → RunState → Action → RunState → Type 0
Follows (Goes stage action) old done new = (new ≡ record old { stage = stage }) × (done ≡ action)
Follows (Ends fault) old done new = (new ≡ record old { stage = Over }) × (done ≡ Fault fault)
Follows (Reads made) old done new = Follows made old done new

-- memory is taken for what is asked, and for a list that is read
abbrev pub takes_memory : Turn → Bool
takes_memory (Goes stage (Ask to words)) = true
takes_memory (Goes stage _) = false
takes_memory (Ends fault) = false
takes_memory (Reads made) = true

-- the run does with an event what is said above; or memory is refused that it takes, and it is over
abbrev pub Steps : RunState → Event → Action → RunState → Type 0
Steps old event action new =
    Follows (turn old.plan old.stage event) old action new
    ⊎ (IsTrue (takes_memory (turn old.plan old.stage event)) × Follows (Ends Memory) old action new)

-- ---- what may happen next

-- it begins, or a line was printed; or what was asked is answered, or fails, or memory was refused for it
abbrev pub MayCome : Stage → Event → Type 0
MayCome Begins happened.Start = ⊤
MayCome Begins _ = ⊥
MayCome (Prints nodes slot) happened.Start = ⊤
MayCome (Prints nodes slot) _ = ⊥
MayCome Over _ = ⊥
MayCome _ happened.Start = ⊥
MayCome _ _ = ⊤

-- what the run waits for once it wants this: a reply, or that the line is printed; or it is over
abbrev pub IsWaiting : Action → Stage → Type 0
IsWaiting (Ask to words) Begins = ⊥
IsWaiting (Ask to words) Finds = ⊤
IsWaiting (Ask to words) (Works work) = ⊤
IsWaiting (Ask to words) (Prints nodes slot) = ⊥
IsWaiting (Ask to words) Over = ⊥
IsWaiting (Line slot number keys) Begins = ⊥
IsWaiting (Line slot number keys) Finds = ⊥
IsWaiting (Line slot number keys) (Works work) = ⊥
IsWaiting (Line slot number keys) (Prints nodes at) = ⊤
IsWaiting (Line slot number keys) Over = ⊥
IsWaiting (Fault fault) stage = stage ≡ Over
IsWaiting End stage = stage ≡ Over

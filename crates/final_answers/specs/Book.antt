-- The calls of a world's clients, and what becomes of them (ours).
use Rattle.std.specs.Prelude.{◌≡◌, ◌⊎◌, ◌++◌, ◌∷◌, ℕ, Bool, true, false, List, [], Option, Some, None, Ok, Err, slice_get, slice_set, if◌then◌else◌, ⊤}
use Rattle.resp_values.specs.declared.reply.Reply.{Reply}
use Rattle.reply_meaning.specs.Refusal.{is_refusal}
use Rattle.smart_client.specs.Step.{Answer}
use Rattle.smart_client.specs.declared.fault.ClientFault.TheVariants.{Lost}
use Rattle.world_run.specs.Executed.{Answered}
use Rattle.world_nodes.specs.declared.output.Output.{Output}
use Rattle.world_nodes.specs.declared.output.Output.TheVariants as output
use Rattle.world.specs.declared.step.Step.{Step}
use Rattle.world.specs.declared.step.Step.TheVariants as step
use Rattle.final_answers.specs.Moments.{Moment}

-- ---- calls

-- a call: whose it is, its words, the reply of its execution, if its command was executed, and what its client was told in the end
pub record Line : Type 0 where
  pub client : ℕ
  pub words : List (List ℕ)
  pub execution : Option Reply
  pub answer : Option Answer

-- the calls in the order in which they began
abbrev pub Book : Type 0
Book = List Line

-- ---- a call begins

-- there was nothing to do: a call of the client is under way
abbrev pub is_idle : List Output → Bool
is_idle (output.Nothing ∷ []) = true
is_idle _ = false

abbrev pub new_line : ℕ → List (List ℕ) → Line
new_line client words = record { client = client; words = words; execution = None; answer = None }

abbrev pub begun : Step → List Output → Book
begun (step.Call client words) shown = if is_idle shown then [] else new_line client words ∷ []
begun _ shown = []

-- ---- its command is executed

-- the step takes a request of this client to its node
abbrev pub IsOf : Step → ℕ → Type 0
IsOf (step.Carry client) number = client ≡ number
IsOf (step.Late client) number = client ≡ number
IsOf _ number = ⊥

-- the client has no answer yet, or doesn't know whether the command was executed
abbrev pub IsOpen : Option Answer → Type 0
IsOpen answer = (answer ≡ None) ⊎ (answer ≡ Some (Err Lost))

-- an execution is that of a call of this client with these words, whose command was not executed before
pub record MayBeOf (made : Step) (execution : Answered) (line : Line) : Type 0 where
  pub client : IsOf made line.client
  pub words : line.words ≡ execution.words
  pub first : line.execution ≡ None
  pub open_yet : IsOpen line.answer

abbrev pub Executes : Step → List Answered → Book → Book → Type 0
Executes made [] old new = new ≡ old
Executes made (execution ∷ executions) old new =
    (place : ℕ) × (line : Line) × (slice_get old place ≡ Some line) × MayBeOf made execution line
    × Executes made executions (slice_set old place (record line { execution = Some execution.answer.reply })) new

-- ---- it is answered

-- an answer is that of a call of this client, which had none
abbrev pub Answers : List Output → Book → Book → Type 0
Answers [] old new = new ≡ old
Answers (output.Answer client answer ∷ shown) old new =
    (place : ℕ) × (line : Line) × (slice_get old place ≡ Some line) × (line.client ≡ client) × (line.answer ≡ None)
    × Answers shown (slice_set old place (record line { answer = Some answer })) new
Answers (output.Admin node reply ∷ shown) old new = Answers shown old new
Answers (output.Sent number message ∷ shown) old new = Answers shown old new
Answers (output.Promoted node promotion ∷ shown) old new = Answers shown old new
Answers (output.Nothing ∷ shown) old new = Answers shown old new

-- ---- the book

-- what a moment writes: a call begins, commands are executed, calls are answered
pub record Writes (moment : Moment) (old new : Book) : Type 0 where
  pub executed : Book
  pub executes : Executes moment.step moment.executed (old ++ begun moment.step moment.shown) executed
  pub answers : Answers moment.shown executed new

abbrev pub IsBook : List Moment → Book → Book → Type 0
IsBook [] old new = new ≡ old
IsBook (moment ∷ moments) old new = (next : Book) × Writes moment old next × IsBook moments next new

-- ---- what an answer tells

-- a reply that is no refusal is that of the one execution, and behind a refusal there is none; whoever lost the reply doesn't know; with
-- any other fault nothing was executed
abbrev pub Tells : Option Reply → Answer → Type 0
Tells execution (Ok reply) = execution ≡ (if is_refusal reply then None else Some reply)
Tells execution (Err Lost) = ⊤
Tells execution (Err _) = execution ≡ None

abbrev pub IsRightSo : Option Reply → Option Answer → Type 0
IsRightSo execution None = ⊤
IsRightSo execution (Some answer) = Tells execution answer

abbrev pub IsRight : Line → Type 0
IsRight line = IsRightSo line.execution line.answer

-- Scripts, in the simulator's own format: a step a line.
use Rattle.std.specs.Prelude.{◌≡◌, ◌+◌, ◌++◌, ◌∷◌, ◌&&◌, ℕ, nat_lt, nat_le, Bool, List, [], length, All, IsSome, Option, Some, None, option_map, option_and_then, if◌then◌else◌}
use Rattle.std.specs.List.{list_all}
use Rattle.command_table.specs.Numbers.{count_of, positive_of}
use Rattle.resp_values.specs.Request.{request_spelling}
use Rattle.resp_values.specs.Limits.{most_words, most_word_bytes, most_request_bytes}
use Rattle.world.specs.declared.step.Step.{Step}
use Rattle.world.specs.declared.step.Step.TheVariants.{Call, Carry, Return, Cut, Late, Admin, Tick, Stop, Deliver}
use Rattle.simulator.specs.Forms.{form_of}
use Rattle.simulator.specs.Lines.{is_plain, lines, words}
use Rattle.simulator.specs.declared.form.StepForm.{StepForm}
use Rattle.simulator.specs.declared.form.StepForm.TheVariants as form

-- ---- steps

-- the words keep the limits of a request
abbrev pub is_request : List (List ℕ) → Bool
is_request request =
    nat_lt 0 (length request) && nat_le (length request) most_words
    && list_all (λ word. nat_le (length word) most_word_bytes) request
    && nat_le (length (request_spelling request)) most_request_bytes

abbrev pub request_of : List (List ℕ) → Option (List (List ℕ))
request_of request = if is_request request then Some request else None

-- a number, and a request
abbrev pub asked_of : (List ℕ → Option ℕ) → (ℕ → List (List ℕ) → Step) → List (List ℕ) → Option Step
asked_of numbered step [] = None
asked_of numbered step (number ∷ request) = option_and_then (λ n. option_map (step n) (request_of request)) (numbered number)

-- `call <client> <request>`
abbrev pub call_of : List (List ℕ) → Option Step
call_of arguments = asked_of positive_of Call arguments

-- `admin <node> <request>`
abbrev pub admin_of : List (List ℕ) → Option Step
admin_of arguments = asked_of count_of Admin arguments

-- the only word
abbrev pub only : List (List ℕ) → Option (List ℕ)
only [] = None
only (word ∷ []) = Some word
only (word ∷ next ∷ others) = None

-- a node's number
abbrev pub node_of : List (List ℕ) → Option ℕ
node_of arguments = option_and_then count_of (only arguments)

-- the number of a client or a message
abbrev pub number_of : List (List ℕ) → Option ℕ
number_of arguments = option_and_then positive_of (only arguments)

-- what stands behind the first word of a line: `call <client> <request>`, `carry <client>`, `return <client>`, `cut <client>`,
-- `late <client>`, `admin <node> <request>`, `tick <node>`, `stop <node>`, `deliver <message>`
abbrev pub step_as : StepForm → List (List ℕ) → Option Step
step_as form.Call arguments = call_of arguments
step_as form.Carry arguments = option_map Carry (number_of arguments)
step_as form.Return arguments = option_map Return (number_of arguments)
step_as form.Cut arguments = option_map Cut (number_of arguments)
step_as form.Late arguments = option_map Late (number_of arguments)
step_as form.Admin arguments = admin_of arguments
step_as form.Tick arguments = option_map Tick (node_of arguments)
step_as form.Stop arguments = option_map Stop (node_of arguments)
step_as form.Deliver arguments = option_map Deliver (number_of arguments)

-- the first word names the form of the step
abbrev pub step_of : List (List ℕ) → Option Step
step_of [] = None
step_of (name ∷ arguments) = option_and_then (λ form. step_as form arguments) (form_of name)

-- the step that a line is
abbrev pub step_in : List ℕ → Option Step
step_in line = if list_all is_plain line then step_of (words line) else None

-- ---- scripts

-- the line of this number, from 1 on, is no step, and those before it are
pub record IsFirstUnreadable (number : ℕ) (text : List ℕ) : Type 0 where
  pub before : List (List ℕ)
  pub line : List ℕ
  pub behind : List (List ℕ)
  pub among : lines text ≡ before ++ line ∷ behind
  pub steps : All (λ other. IsSome (step_in other)) before
  pub no_step : step_in line ≡ None
  pub number_is : number ≡ length before + 1

-- How the lines of steps begin, in the simulator's own format.
use Rattle.std.specs.Prelude.{ℕ, List, [], ◌∷◌, Option, codes, find}
use Rattle.std.specs.Str.{bytes_eq}
use Rattle.simulator.specs.declared.form.StepForm.{StepForm}
use Rattle.simulator.specs.declared.form.StepForm.TheVariants.{Call, Carry, Return, Cut, Late, Admin, Tick, Stop, Deliver}

-- the first word of a line
abbrev pub word_of : StepForm → List ℕ
word_of Call = codes "call"
word_of Carry = codes "carry"
word_of Return = codes "return"
word_of Cut = codes "cut"
word_of Late = codes "late"
word_of Admin = codes "admin"
word_of Tick = codes "tick"
word_of Stop = codes "stop"
word_of Deliver = codes "deliver"

abbrev pub forms : List StepForm
forms = Call ∷ Carry ∷ Return ∷ Cut ∷ Late ∷ Admin ∷ Tick ∷ Stop ∷ Deliver ∷ []

-- the form of the lines that begin with this word
abbrev pub form_of : List ℕ → Option StepForm
form_of word = find (λ form. bytes_eq (word_of form) word) forms

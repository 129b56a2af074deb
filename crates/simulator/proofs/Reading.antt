-- How far a script is read.
use Rattle.std.proofs.Common.{◌≡◌, ℕ, ◌+◌, List, [], ◌∷◌, ◌++◌, map, length, Option, Some, None, All, refl, sym, ap, ◌∙◌, append-nil, append_assoc}
use Rattle.std.specs.Prelude.{IsSome, Result, Err}
use Rattle.std.proofs.lemmas.List.{map-append, length-map}
use Rattle.std.proofs.lemmas.List.Elements.{All-cons, All-nil}
use Rattle.world.specs.declared.step.Step.{Step}
use Rattle.simulator.specs.Lines.{lines}
use Rattle.simulator.specs.declared.fault.ScriptFault.{ScriptFault}
use Rattle.simulator.specs.declared.fault.ScriptFault.TheVariants.{Line}
use Rattle.simulator.specs.Script.{IsFirstUnreadable, step_in}

-- the steps are those of the lines before the rest
pub record Reads (text : List ℕ) (steps : List Step) (rest : List ℕ) : Type 0 where
  pub before : List (List ℕ)
  pub among : lines text ≡ before ++ lines rest
  pub read : map step_in before ≡ map Some steps

pub begins : (text : List ℕ) → Reads text [] text
begins text = record { before = []; among = refl; read = refl }

pub goes_on : (text : List ℕ) (steps : List Step) (rest line behind : List ℕ) (step : Step) → Reads text steps rest
    → lines rest ≡ line ∷ lines behind → Some step ≡ step_in line → Reads text (steps ++ step ∷ []) behind
goes_on text steps rest line behind step so_far is read = record {
  before = so_far.before ++ line ∷ [];
  among = so_far.among ∙ ap (λ (parts : List (List ℕ)). so_far.before ++ parts) is ∙ sym (append_assoc so_far.before (line ∷ []) (lines behind));
  read = map-append step_in so_far.before (line ∷ []) ∙ ap (λ (some : List (Option Step)). some ++ step_in line ∷ []) so_far.read
      ∙ ap (λ (last : Option Step). map Some steps ++ last ∷ []) (sym read) ∙ sym (map-append Some steps (step ∷ []));
}

pub ends : (text : List ℕ) (steps : List Step) (rest : List ℕ) → Reads text steps rest → lines rest ≡ [] → map Some steps ≡ map step_in (lines text)
ends text steps rest so_far none =
    sym (ap (map step_in) (so_far.among ∙ ap (λ (parts : List (List ℕ)). so_far.before ++ parts) none ∙ append-nil so_far.before) ∙ so_far.read)

same_behind : (line : List ℕ) (before : List (List ℕ)) (step : Step) (steps : List Step) → map step_in (line ∷ before) ≡ map Some (step ∷ steps)
    → map step_in before ≡ map Some steps
same_behind line before step steps read = cc

is_step : (line : List ℕ) (before : List (List ℕ)) (step : Step) (steps : List Step) → map step_in (line ∷ before) ≡ map Some (step ∷ steps)
    → IsSome (step_in line)
is_step line before step steps read = cc

are_steps : (before : List (List ℕ)) (steps : List Step) → map step_in before ≡ map Some steps → All (λ line. IsSome (step_in line)) before
are_steps [] steps read = All-nil (λ line. IsSome (step_in line))
are_steps (line ∷ before) [] read = cc
are_steps (line ∷ before) (step ∷ steps) read = All-cons (λ other. IsSome (step_in other)) line before (is_step line before step steps read) (are_steps before steps (same_behind line before step steps read))

pub stops : (text : List ℕ) (steps : List Step) (rest line behind : List ℕ) → Reads text steps rest
    → lines rest ≡ line ∷ lines behind → step_in line ≡ None → IsFirstUnreadable (length steps + 1) text
stops text steps rest line behind so_far is none = record {
  before = so_far.before;
  line = line;
  behind = lines behind;
  among = so_far.among ∙ ap (λ (parts : List (List ℕ)). so_far.before ++ parts) is;
  steps = are_steps so_far.before steps so_far.read;
  no_step = none;
  number_is = ap (λ n. n + 1) (sym (length-map steps Some) ∙ ap length (sym so_far.read) ∙ length-map so_far.before step_in);
}

pub same_line : (X : Type 0) (some other : ℕ) → ◌≡◌ {A = Result X ScriptFault} (Err (Line some)) (Err (Line other)) → some ≡ other
same_line X some other is = cc

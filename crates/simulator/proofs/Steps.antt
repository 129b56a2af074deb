-- The step that a line is, by its words.
use Rattle.std.proofs.Common.{◌≡◌, ◌<◌, ◌==◌, ℕ, Bool, true, cond, List, [], ◌∷◌, length, Option, Some, None, option_map, refl, sym, ap, ◌∙◌, arith}
use Rattle.std.specs.Prelude.{option_and_then}
use Rattle.std.specs.Borrow.{Bor}
use Rattle.std.specs.List.{list_all}
use Rattle.std.proofs.lemmas.List.Splits.{length-slice_split}
use Rattle.world.specs.declared.step.Step.{Step}
use Rattle.simulator.specs.Lines.{is_plain, words}
use Rattle.simulator.specs.Script.{asked_of, only, request_of, step_in, step_of}
use Rattle.simulator.specs.Splitting.{words_behind}

-- the words are the first one and those behind its blank
words_are : (line word : List ℕ) (behind : Option (Bor (List ℕ))) (rest : Bor (List ℕ)) → words line ≡ word ∷ words_behind behind
    → behind ≡ Some rest → words line ≡ word ∷ words rest.now
words_are line word behind rest is some = is ∙ ap (λ (b : Option (Bor (List ℕ))). word ∷ words_behind b) some

not_the_only : (word : List ℕ) (others : List (List ℕ)) → 0 < length others → None ≡ only (word ∷ others)
not_the_only word [] more = absurd (omega arith)
not_the_only word (next ∷ others) more = refl

-- where a blank ends a word, another one comes
pub another_comes : (line word : List ℕ) (behind : Option (Bor (List ℕ))) (rest : Bor (List ℕ)) → words line ≡ word ∷ words_behind behind
    → behind ≡ Some rest → None ≡ only (words line)
another_comes line word behind rest is some =
    not_the_only word (words rest.now) (omega (arith, length-slice_split (λ byte. byte == 32) rest.now))
    ∙ sym (ap only (words_are line word behind rest is some))

pub step_read : (line name : List ℕ) (behind : Option (Bor (List ℕ))) (rest : Bor (List ℕ)) → list_all is_plain line ≡ true
    → words line ≡ name ∷ words_behind behind → behind ≡ Some rest → step_of (name ∷ words rest.now) ≡ step_in line
step_read line name behind rest plain is some =
    sym (ap (λ (b : Bool). cond b (step_of (words line)) None) plain ∙ ap step_of (words_are line name behind rest is some))

-- ---- a number, and a request

-- the parts are both there
pub asked_read : (numbered : List ℕ → Option ℕ) (step : ℕ → List (List ℕ) → Step) (line word : List ℕ) (behind : Option (Bor (List ℕ))) (rest : Bor (List ℕ)) (number : ℕ) (asked : List (List ℕ))
    → words line ≡ word ∷ words_behind behind → behind ≡ Some rest → Some number ≡ numbered word → Some asked ≡ request_of (words rest.now)
    → Some (step number asked) ≡ asked_of numbered step (words line)
asked_read numbered step line word behind rest number asked is some count request =
    sym (ap (asked_of numbered step) (words_are line word behind rest is some)
    ∙ ap (λ (found : Option ℕ). option_and_then (λ n. option_map (step n) (request_of (words rest.now))) found) (sym count) ∙ ap (option_map (step number)) (sym request))

-- the words are none of a request
pub none_asked : (numbered : List ℕ → Option ℕ) (step : ℕ → List (List ℕ) → Step) (line word : List ℕ) (behind : Option (Bor (List ℕ))) (rest : Bor (List ℕ)) (number : ℕ)
    → words line ≡ word ∷ words_behind behind → behind ≡ Some rest → Some number ≡ numbered word → None ≡ request_of (words rest.now)
    → None ≡ asked_of numbered step (words line)
none_asked numbered step line word behind rest number is some count request =
    sym (ap (asked_of numbered step) (words_are line word behind rest is some)
    ∙ ap (λ (found : Option ℕ). option_and_then (λ n. option_map (step n) (request_of (words rest.now))) found) (sym count) ∙ ap (option_map (step number)) (sym request))

-- A client's part in a step of a world.
use Rattle.std.proofs.Common.{◌≡◌, ◌∙◌, ℕ, List, [], ◌∷◌, All, Option, Some, None, Result, Ok, Err, ap, sym, subst, arith, insert}
use Rattle.std.specs.Prelude.{IfOk, OnOk, slice_get, slice_set, zero, suc}
use Rattle.std.proofs.lemmas.List.Elements.{All-cons}
use Rattle.world_nodes.specs.Nodes.{RunView}
use Rattle.world_nodes.specs.declared.output.Output.{Output}
use Rattle.world.specs.Calls.{Begins}
use Rattle.world.specs.Clients.{ClientView, client_at, place_of, with_client}
use Rattle.world.specs.Plays.{ClientStep, IsOf, IsOfClient, IsOfSome}
use Rattle.world.specs.View.{SceneView}

-- ---- lists

pub All-insert : {X : Type 0} (P : X → Type 0) (xs : List X) (i : ℕ) (x : X) → P x → All P xs → All P (insert xs i x)
All-insert P xs zero x new old = All-cons P x xs new old
All-insert P [] (suc i) x new old = All-cons P x [] new old
All-insert P (y ∷ xs) (suc i) x new old =
    All-cons P y (insert xs i x) (old 0 y (omega arith)) (All-insert P xs i x new (λ k d below. old (suc k) d (omega arith)))

-- ---- results

-- where two facts hold of each result that is well, a third does
pub on_both : {A E P Q R : Type 0} (result : Result A E) → (P → Q → R) → OnOk result P → OnOk result Q → OnOk result R
on_both (Ok value) both one other = both one other
on_both (Err error) both one other = other

pub if_more : {A E : Type 0} {P Q : A → Type 0} (result : Result A E) → ((value : A) → P value → Q value) → IfOk result P → IfOk result Q
if_more (Ok value) more one = more value one
if_more (Err error) more one = one

-- ---- the client at a place

found_so : (does : ClientStep) (old new : SceneView) (number place : ℕ) (client after : ClientView) (run : RunView) (outputs : List Output) (found : Option ClientView)
    → found ≡ Some client → place ≡ place_of number old.clients → slice_get old.clients place ≡ Some client → does old.run client outputs run after
    → new ≡ record old { run = run; clients = slice_set old.clients place after } → IsOfSome does number found old outputs new
found_so does old new number place client after run outputs None none at was steps is = cc
found_so does old new number place client after run outputs (Some other) same at was steps is = record {
  client = client;
  was = ap (λ (p : ℕ). slice_get old.clients p) (sym at) ∙ was;
  run = run;
  after = after;
  steps = steps;
  is = is ∙ ap (λ (p : ℕ). record old { run = run; clients = slice_set old.clients p after }) at;
}

-- it has its part in the step
pub is_of : (does : ClientStep) (old new : SceneView) (number place : ℕ) (client after : ClientView) (run : RunView) (outputs : List Output)
    → place ≡ place_of number old.clients → client_at number old.clients ≡ slice_get old.clients place → slice_get old.clients place ≡ Some client
    → does old.run client outputs run after → new ≡ record old { run = run; clients = slice_set old.clients place after } → IsOf does number old outputs new
is_of does old new number place client after run outputs at found was steps is =
    found_so does old new number place client after run outputs (client_at number old.clients) (found ∙ was) at was steps is

-- ---- a client that may begin with the step

-- what the call came to, from what the clients are then
abbrev Called : List (List ℕ) → ℕ → ClientView → List Output → RunView → ClientView → SceneView → SceneView → Type 0
Called words place client outputs run after new scene =
    (slice_get scene.clients place ≡ Some client) × Begins scene.config.nodes words scene.run client outputs run after
    × (new ≡ record scene { run = run; clients = slice_set scene.clients place after })

pub begun_is : (words : List (List ℕ)) (inside begun old new : SceneView) (number place : ℕ) (client after : ClientView) (run : RunView) (outputs : List Output)
    → inside ≡ begun → begun ≡ record old { clients = begun.clients } → begun.clients ≡ with_client old.config number old.clients → place ≡ place_of number old.clients
    → slice_get inside.clients place ≡ Some client → Begins inside.config.nodes words inside.run client outputs run after
    → new ≡ record inside { run = run; clients = slice_set inside.clients place after }
    → IsOfClient (Begins old.config.nodes words) (with_client old.config number old.clients) (place_of number old.clients) old outputs new
begun_is words inside begun old new number place client after run outputs is same clients at was begins new_is =
    let whole : inside ≡ record old { clients = with_client old.config number old.clients } =
    is ∙ same ∙ ap (λ (others : List ClientView). record old { clients = others }) clients in
    let called : Called words place client outputs run after new (record old { clients = with_client old.config number old.clients }) =
    subst (Called words place client outputs run after new) whole (was, begins, new_is) in
    record {
      client = client;
      was = ap (λ (p : ℕ). slice_get (with_client old.config number old.clients) p) (sym at) ∙ called.0;
      run = run;
      after = after;
      steps = called.1;
      is = called.2 ∙ ap (λ (p : ℕ). record old { run = run; clients = slice_set (with_client old.config number old.clients) p after }) at;
    }

-- Walks over the places of a table, by rising key.
use Rattle.std.proofs.Common.{◌≡◌, ℕ, zero, suc, ◌+◌, ◌≤◌, List, [], ◌∷◌, length, get_or, set, map, Option, None, refl, sym, ap, ◌∙◌, add-one, arith}
use Rattle.connections.specs.declared.conn.Connection.{Connection}

-- the places below a key are changed, and the others are as they were
abbrev pub changed_below : (Option Connection → Option Connection) → ℕ → List (Option Connection) → List (Option Connection)
changed_below change zero slots = slots
changed_below change (suc key) [] = []
changed_below change (suc key) (slot ∷ slots) = change slot ∷ changed_below change key slots

changed_here : (change : Option Connection → Option Connection) (key : ℕ) (slots : List (Option Connection))
    → set (changed_below change key slots) key (change (get_or (changed_below change key slots) key None)) ≡ changed_below change (suc key) slots
changed_here change zero [] = refl
changed_here change zero (slot ∷ slots) = refl
changed_here change (suc key) [] = refl
changed_here change (suc key) (slot ∷ slots) = ap (λ later. change slot ∷ later) (changed_here change key slots)

-- the place at the key is changed too
pub changed_more : (change : Option Connection → Option Connection) (key : ℕ) (old now later : List (Option Connection))
    → now ≡ changed_below change key old → later ≡ set now key (change (get_or now key None)) → later ≡ changed_below change (key + 1) old
changed_more change key old now later done written =
    written ∙ ap (λ slots. set slots key (change (get_or slots key None))) done ∙ changed_here change key old
    ∙ ap (λ next. changed_below change next old) (sym (add-one key))

-- past the last place all are changed
pub changed_all : (change : Option Connection → Option Connection) (key : ℕ) (slots : List (Option Connection)) → length slots ≤ key → changed_below change key slots ≡ map change slots
changed_all change zero [] past = refl
changed_all change zero (slot ∷ slots) past = absurd (omega arith)
changed_all change (suc key) [] past = refl
changed_all change (suc key) (slot ∷ slots) past = ap (λ later. change slot ∷ later) (changed_all change key slots (omega arith))

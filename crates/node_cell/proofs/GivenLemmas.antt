-- Replies that wait were given by steps of the journal.
use Rattle.std.proofs.Common.{◌≡◌, ◌==◌, ◌||◌, ◌&&◌, ℕ, Bool, true, false, cond, not, List, [], ◌∷◌, ◌++◌, Some, length, refl, sym, ap, subst, ◌∙◌, arith}
use Rattle.std.specs.Prelude.{All, IfSome}
use Rattle.std.specs.List.{Contains, flat_map, list_any}
use Rattle.std.proofs.lemmas.Bool.{eqb-true}
use Rattle.std.proofs.lemmas.Grind.{flat_map-append}
use Rattle.std.proofs.lemmas.List.Elements.{All-append, All-cons, All-contains_itself, All-filter, All-head, All-nil, All-tail, Contains-append_left, Contains-append_right}
use Rattle.connections.specs.declared.conn.Conn.{Conn}
use Rattle.node_step.specs.Released.{is_for, of_others, reply_to, without_reply_to}
use Rattle.node_step.specs.declared.event.Event.{Event}
use Rattle.node_step.specs.declared.event.Event.TheVariants.{Open, Close, Request, Deliver, Tick}
use Rattle.node_step.specs.declared.outputs.Outputs.{Outputs}
use Rattle.node_step.specs.declared.outputs.Release.{Release}
use Rattle.cell_parts.specs.Journal.{IsGiven, released_by}
use Rattle.cell_parts.specs.Undelivered.{joined, undelivered_after}
use Rattle.cell_parts.specs.declared.entry.Entry.{Entry}
use Rattle.cell_parts.specs.declared.entry.Entry.TheVariants.{Step, Skipped}

-- ---- one entry more

still_given : (journal : List Entry) (entry : Entry) (release : Release) → IsGiven journal release → IsGiven (journal ++ entry ∷ []) release
still_given journal entry release given =
    subst (λ (releases : List Release). Contains releases release) (sym (flat_map-append released_by journal (entry ∷ [])))
    (Contains-append_left (flat_map released_by journal) (flat_map released_by (entry ∷ [])) release given)

all_still_given : (journal : List Entry) (entry : Entry) (undelivered : List Release) → All (IsGiven journal) undelivered → All (IsGiven (journal ++ entry ∷ [])) undelivered
all_still_given journal entry [] given = All-nil (IsGiven (journal ++ entry ∷ []))
all_still_given journal entry (release ∷ undelivered) given =
    All-cons (IsGiven (journal ++ entry ∷ [])) release undelivered (still_given journal entry release (All-head (IsGiven journal) release undelivered given))
    (all_still_given journal entry undelivered (All-tail (IsGiven journal) release undelivered given))

all_in : (before some : List Release) (rest : List Release) → All (Contains some) rest → All (Contains (before ++ (some ++ []))) rest
all_in before some [] each = All-nil (Contains (before ++ (some ++ [])))
all_in before some (release ∷ rest) each =
    All-cons (Contains (before ++ (some ++ []))) release rest
    (Contains-append_right before (some ++ []) release (Contains-append_left some [] release (All-head (Contains some) release rest each)))
    (all_in before some rest (All-tail (Contains some) release rest each))

given_by_the_last : (journal : List Entry) (event : Event) (outputs : Outputs) → All (IsGiven (journal ++ Step event outputs ∷ [])) outputs.released
given_by_the_last journal event outputs =
    subst (λ (releases : List Release). All (Contains releases) outputs.released) (sym (flat_map-append released_by journal (Step event outputs ∷ [])))
    (all_in (flat_map released_by journal) outputs.released outputs.released (All-contains_itself outputs.released))

both : (journal : List Entry) (event : Event) (outputs : Outputs) (undelivered : List Release) → All (IsGiven journal) undelivered
    → All (IsGiven (journal ++ Step event outputs ∷ [])) (undelivered ++ outputs.released)
both journal event outputs undelivered given =
    All-append (IsGiven (journal ++ Step event outputs ∷ [])) undelivered outputs.released (all_still_given journal (Step event outputs) undelivered given)
    (given_by_the_last journal event outputs)

pub given_after : (journal : List Entry) (event : Event) (outputs : Outputs) (undelivered : List Release) → All (IsGiven journal) undelivered
    → All (IsGiven (journal ++ Step event outputs ∷ [])) (undelivered_after event undelivered outputs.released)
given_after journal Open outputs undelivered given = both journal Open outputs undelivered given
given_after journal (Close conn) outputs undelivered given =
    both journal (Close conn) outputs (of_others conn undelivered) (All-filter (λ release. not (is_for conn release)) (IsGiven journal) undelivered given)
given_after journal (Request conn words) outputs undelivered given = both journal (Request conn words) outputs undelivered given
given_after journal (Deliver message) outputs undelivered given = both journal (Deliver message) outputs undelivered given
given_after journal Tick outputs undelivered given = both journal Tick outputs undelivered given

pub given_after_skip : (journal : List Entry) (ticket : ℕ) (undelivered : List Release) → All (IsGiven journal) undelivered
    → All (IsGiven (journal ++ Skipped ticket ∷ [])) undelivered
given_after_skip journal ticket undelivered given = all_still_given journal (Skipped ticket) undelivered given

-- ---- one reply that is taken

pub given_left : (conn : Conn) (P : Release → Type 0) (undelivered : List Release) → All P undelivered → All P (without_reply_to conn undelivered)
given_left conn P [] given = given
given_left conn P (release ∷ undelivered) given =
    elim (is_for conn release) as (λ b. All P (cond b undelivered (release ∷ without_reply_to conn undelivered))) [
      | true ↦ All-tail P release undelivered given
      | false ↦ All-cons P release (without_reply_to conn undelivered) (All-head P release undelivered given) (given_left conn P undelivered (All-tail P release undelivered given))
    ]

first_of : (a b : Bool) → (a && b) ≡ true → a ≡ true
first_of true b is = refl
first_of false b is = cc

second_of : (a b : Bool) → (a && b) ≡ true → b ≡ true
second_of true b is = is
second_of false b is = cc

same_conn : (conn : Conn) (release : Release) → is_for conn release ≡ true → release ≡ record { conn = conn; reply = release.reply }
same_conn conn release is =
    let key : release.conn.key ≡ conn.key = eqb-true _ _ (first_of _ _ is) in
    let generation : release.conn.generation ≡ conn.generation = eqb-true _ _ (second_of (release.conn.key == conn.key) (release.conn.generation == conn.generation) is) in
    let first : release ≡ record { conn = record { key = conn.key; generation = release.conn.generation }; reply = release.reply } =
    ap (λ (k : ℕ). record { conn = record { key = k; generation = release.conn.generation }; reply = release.reply }) key in
    first ∙ ap (λ (n : ℕ). record { conn = record { key = conn.key; generation = n }; reply = release.reply }) generation

pub taken_is_given : (conn : Conn) (P : Release → Type 0) (undelivered : List Release) → All P undelivered → IfSome (reply_to conn undelivered) (λ reply. P (record { conn = conn; reply = reply }))
taken_is_given conn P [] given = tt
taken_is_given conn P (release ∷ undelivered) given =
    elim (is_for conn release) as (λ b. is_for conn release ≡ b → IfSome (cond b (Some release.reply) (reply_to conn undelivered)) (λ reply. P (record { conn = conn; reply = reply }))) [
      | true ↦ λ is. subst P (same_conn conn release is) (All-head P release undelivered given)
      | false ↦ λ is. taken_is_given conn P undelivered (All-tail P release undelivered given)
    ] refl

-- ---- whether there is something at all

is_some : {A : Type 0} (x : A) (xs : List A) (b : Bool) → length (x ∷ xs) == 0 ≡ b → b ≡ false
is_some x xs true is = absurd (omega (arith, eqb-true (length (x ∷ xs)) 0 is))
is_some x xs false is = refl

pub any_there : {A : Type 0} (parts : List (List A)) → list_any (λ part. not (length part == 0)) parts ≡ not (length (joined parts) == 0)
any_there [] = refl
any_there ([] ∷ parts) = any_there parts
any_there ((x ∷ part) ∷ parts) =
    ap (λ (b : Bool). not b || list_any (λ part. not (length part == 0)) parts) (is_some x part _ refl)
    ∙ sym (ap (λ (b : Bool). not b) (is_some x (part ++ joined parts) _ refl))

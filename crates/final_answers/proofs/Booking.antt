-- What is booked of a client, and what a step of it writes.
use Rattle.std.proofs.Common.{◌≡◌, ◌≢◌, ◌+◌, ◌≤◌, ◌∙◌, ◌==◌, ◌&&◌, ◌++◌, ◌∷◌, ℕ, zero, suc, Bool, true, false, true≢false, List, [], length, Option, None, Some, Ok, Err, is_none, refl, sym, ap, arith}
use Rattle.std.proofs.lemmas.Bool.{and_parts, eq-eqb, eqb-true, ne_eqb}
use Rattle.std.specs.List.{AllByRecursion}
use Rattle.std.specs.Prelude.{slice_get, slice_set}
use Rattle.resp_values.specs.declared.reply.Reply.{Reply}
use Rattle.single_keyspace.proofs.Seen.{no_some, same_some, set_apart, set_here}
use Rattle.smart_client.specs.Step.{Answer}
use Rattle.smart_client.specs.Words.{is_refused}
use Rattle.smart_client.specs.declared.call.Call.{Call}
use Rattle.smart_client.specs.declared.fault.ClientFault.TheVariants.{Lost, TooManyRedirects, StillTryAgain, Memory, NotConnected, BadReply, NotData}
use Rattle.world_run.specs.Executed.{Answered}
use Rattle.world_nodes.specs.declared.output.Output.{Output}
use Rattle.world_nodes.specs.declared.output.Output.TheVariants as output
use Rattle.world.specs.Clients.{ClientView}
use Rattle.world.specs.declared.client.Late.{Late}
use Rattle.world.specs.declared.client.Traffic.{Traffic}
use Rattle.world.specs.declared.step.Step.{Step}
use Rattle.final_answers.specs.Book.{Answers, Book, IsRight, Line, Writes, new_line}
use Rattle.final_answers.proofs.Doing.{executed_by}
use Rattle.final_answers.proofs.Tallies.{Touches, get-last, is_lost, is_open, is_waiting, one_if, same_words, same_words-refl, same_words-true, tally, tally-found, tally-push, tally-set, touched_get, touched_tally}
use Rattle.final_answers.proofs.Tallies.Touches.{stays, sets, adds}

-- ---- what is booked of a client

-- the line of a call that is under way
abbrev pub line_of : ℕ → List (List ℕ) → Option Reply → Line
line_of number words execution = record { client = number; words = words; execution = execution; answer = None }

pub record Waits (book : Book) (number : ℕ) (words : List (List ℕ)) (execution : Option Reply) : Type 0 where
  pub place : ℕ
  pub at : slice_get book place ≡ Some (line_of number words execution)

abbrev pub HasLine : Book → ℕ → Traffic → Option Call → Type 0
HasLine book number traffic None = tally (is_waiting number) book ≡ 0
HasLine book number traffic (Some call) = (tally (is_waiting number) book ≡ 1) × Waits book number call.words (executed_by traffic call.stage)

-- a late request with these words
abbrev pub is_for : List (List ℕ) → Late → Bool
is_for words request = same_words request.words words

-- for each late request there is a call whose command may still be executed
abbrev pub HaveLines : Book → ℕ → List Late → Type 0
HaveLines book number late = (words : List (List ℕ)) → is_refused words ≡ false → tally (is_for words) late ≤ tally (is_open number words) book

pub record IsBooked (book : Book) (client : ClientView) : Type 0 where
  pub calls : HasLine book client.number client.traffic client.core.call
  pub late : HaveLines book client.number client.late

-- ---- lines of others

not_owned : (number other : ℕ) (rest : Bool) → number ≢ other → ((number == other) && rest) ≡ false
not_owned number other rest apart = ap (λ (b : Bool). b && rest) (ne_eqb number other apart)

pub booked_elsewhere : (number : ℕ) (old new : Book) (client : ClientView) → Touches number old new → client.number ≢ number → IsBooked old client → IsBooked new client
booked_elsewhere number old new client touches apart booked = record {
  calls = by_call client.core.call booked.calls;
  late = λ words plain.
      let same = touched_tally number old new touches (is_open client.number words)
      (λ line own. not_owned line.client client.number (is_lost line.answer && (is_none line.execution && same_words line.words words)) (λ is. apart (sym is ∙ own))) in
      omega (arith, same, booked.late words plain);
}
  where
    waiting_same : tally (is_waiting client.number) new ≡ tally (is_waiting client.number) old
    waiting_same = touched_tally number old new touches (is_waiting client.number) (λ line own. not_owned line.client client.number (is_none line.answer) (λ is. apart (sym is ∙ own)))

    by_call : (under : Option Call) → HasLine old client.number client.traffic under → HasLine new client.number client.traffic under
    by_call None none = waiting_same ∙ none
    by_call (Some call) (one, waits) = (waiting_same ∙ one, record { place = waits.place; at = touched_get number old new touches waits.place _ waits.at apart })

-- ---- right lines

pub right_set : (book : Book) (place : ℕ) (line : Line) → IsRight line → AllByRecursion IsRight book → AllByRecursion IsRight (slice_set book place line)
right_set [] place line right all = tt
right_set (first ∷ book) zero line right all = (right, all.1)
right_set (first ∷ book) (suc place) line right all = (all.0, right_set book place line right all.1)

pub right_push : (book : Book) (line : Line) → IsRight line → AllByRecursion IsRight book → AllByRecursion IsRight (book ++ line ∷ [])
right_push [] line right all = (right, tt)
right_push (first ∷ book) line right all = (all.0, right_push book line right all.1)

-- ---- tests of one line

waits_so : (number : ℕ) (words : List (List ℕ)) (execution : Option Reply) → is_waiting number (line_of number words execution) ≡ true
waits_so number words execution = ap (λ (b : Bool). b && true) (eq-eqb number number refl)

and_false : (one : Bool) → (one && false) ≡ false
and_false true = refl
and_false false = refl

-- a call that has no answer yet isn't open
no_answer : (number : ℕ) (words : List (List ℕ)) (line : Line) → line.answer ≡ None → is_open number words line ≡ false
no_answer number words line none =
    ap (λ (answer : Option Answer). (line.client == number) && (is_lost answer && (is_none line.execution && same_words line.words words))) none ∙ and_false (line.client == number)

-- ---- a call is answered

-- the book with the answer of the call that is under way
module _ (book : Book) (number : ℕ) (words : List (List ℕ)) (execution : Option Reply) (waits : Waits book number words execution) (answer : Answer) where
  abbrev pub answered_line : Line
  answered_line = record { client = number; words = words; execution = execution; answer = Some answer }

  abbrev pub with_answer : Book
  with_answer = slice_set book waits.place answered_line

  pub answers_it : Answers (output.Answer number answer ∷ []) book with_answer
  answers_it = (waits.place, line_of number words execution, waits.at, refl, refl, refl)

  pub answer_touches : Touches number book with_answer
  answer_touches = sets book with_answer waits.place (line_of number words execution) answered_line waits.at refl refl (stays with_answer)

  pub none_waits : tally (is_waiting number) book ≡ 1 → tally (is_waiting number) with_answer ≡ 0
  none_waits one =
      let before : one_if (is_waiting number (line_of number words execution)) ≡ 1 = ap one_if (waits_so number words execution) in
      let after : one_if (is_waiting number answered_line) ≡ 0 = ap one_if (and_false (number == number)) in
      omega (arith, one, before, after, tally-set (is_waiting number) book waits.place (line_of number words execution) answered_line waits.at)

  -- more may be open then
  pub opens_more : (others : List (List ℕ)) → tally (is_open number others) with_answer ≡ tally (is_open number others) book + one_if (is_open number others answered_line)
  opens_more others =
      let before : one_if (is_open number others (line_of number words execution)) ≡ 0 = ap one_if (no_answer number others (line_of number words execution) refl) in
      omega (arith, before, tally-set (is_open number others) book waits.place (line_of number words execution) answered_line waits.at)

  pub late_then : (late : List Late) → HaveLines book number late → HaveLines with_answer number late
  late_then late have others plain = omega (arith, have others plain, opens_more others)

-- ---- a call begins

module _ (book : Book) (number : ℕ) (words : List (List ℕ)) where
  abbrev pub with_call : Book
  with_call = book ++ new_line number words ∷ []

  pub call_touches : Touches number book with_call
  call_touches = adds book with_call (new_line number words) refl (stays with_call)

  pub one_waits : tally (is_waiting number) book ≡ 0 → tally (is_waiting number) with_call ≡ 1
  one_waits none =
      let after : one_if (is_waiting number (new_line number words)) ≡ 1 = ap one_if (waits_so number words None) in
      omega (arith, none, after, tally-push (is_waiting number) book (new_line number words))

  pub call_waits : Waits with_call number words None
  call_waits = record { place = length book; at = get-last book (new_line number words) }

  pub late_behind : (late : List Late) → HaveLines book number late → HaveLines with_call number late
  late_behind late have others plain =
      omega (arith, have others plain, tally-push (is_open number others) book (new_line number words))

-- ---- the command is executed

module _ (book : Book) (number : ℕ) (words : List (List ℕ)) (waits : Waits book number words None) (reply : Reply) where
  abbrev pub with_execution : Book
  with_execution = slice_set book waits.place (line_of number words (Some reply))

  pub execution_touches : Touches number book with_execution
  execution_touches = sets book with_execution waits.place (line_of number words None) (line_of number words (Some reply)) waits.at refl refl (stays with_execution)

  pub still_waits : tally (is_waiting number) book ≡ 1 → tally (is_waiting number) with_execution ≡ 1
  still_waits one =
      let before : one_if (is_waiting number (line_of number words None)) ≡ 1 = ap one_if (waits_so number words None) in
      let after : one_if (is_waiting number (line_of number words (Some reply))) ≡ 1 = ap one_if (waits_so number words (Some reply)) in
      omega (arith, one, before, after, tally-set (is_waiting number) book waits.place (line_of number words None) (line_of number words (Some reply)) waits.at)

  pub execution_waits : Waits with_execution number words (Some reply)
  execution_waits = record { place = waits.place; at = set_here book waits.place (line_of number words None) (line_of number words (Some reply)) waits.at }

  pub late_as_before : (late : List Late) → HaveLines book number late → HaveLines with_execution number late
  late_as_before late have others plain =
      let before : one_if (is_open number others (line_of number words None)) ≡ 0 = ap one_if (no_answer number others (line_of number words None) refl) in
      omega (arith, have others plain, before, tally-set (is_open number others) book waits.place (line_of number words None) (line_of number words (Some reply)) waits.at)

-- ---- a late request is executed

-- the parts of an open line
pub record Opened (number : ℕ) (words : List (List ℕ)) (line : Line) : Type 0 where
  pub client : line.client ≡ number
  pub lost : line.answer ≡ Some (Err Lost)
  pub first : line.execution ≡ None
  pub words_are : line.words ≡ words

opened_so : (number : ℕ) (words : List (List ℕ)) (line : Line) → is_open number words line ≡ true → Opened number words line
opened_so number words line is =
    let own = and_parts (line.client == number) _ is in
    let lost = and_parts (is_lost line.answer) _ own.1 in
    let first = and_parts (is_none line.execution) _ lost.1 in
    record { client = eqb-true line.client number own.0; lost = lost_so line.answer lost.0; first = none_so line.execution first.0; words_are = same_words-true line.words words first.1 }
  where
    lost_so : (answer : Option Answer) → is_lost answer ≡ true → answer ≡ Some (Err Lost)
    lost_so None is = absurd (true≢false (sym is))
    lost_so (Some (Ok reply)) is = absurd (true≢false (sym is))
    lost_so (Some (Err Lost)) is = refl
    lost_so (Some (Err TooManyRedirects)) is = absurd (true≢false (sym is))
    lost_so (Some (Err StillTryAgain)) is = absurd (true≢false (sym is))
    lost_so (Some (Err Memory)) is = absurd (true≢false (sym is))
    lost_so (Some (Err NotConnected)) is = absurd (true≢false (sym is))
    lost_so (Some (Err BadReply)) is = absurd (true≢false (sym is))
    lost_so (Some (Err NotData)) is = absurd (true≢false (sym is))

    none_so : (execution : Option Reply) → is_none execution ≡ true → execution ≡ None
    none_so None is = refl
    none_so (Some reply) is = absurd (true≢false (sym is))

-- such a line of the book
pub record Found (book : Book) (number : ℕ) (words : List (List ℕ)) : Type 0 where
  pub place : ℕ
  pub line : Line
  pub at : slice_get book place ≡ Some line
  pub opened : Opened number words line

pub found_line : (book : Book) (number : ℕ) (words : List (List ℕ)) → is_refused words ≡ false → (request : Late) (others : List Late) → request.words ≡ words → HaveLines book number (request ∷ others)
    → Found book number words
found_line book number words plain request others is have =
    let mine : one_if (is_for words request) ≡ 1 = ap one_if (ap (λ (ws : List (List ℕ)). same_words ws words) is ∙ same_words-refl words) in
    let found = tally-found (is_open number words) book (omega (arith, mine, have words plain)) in
    record { place = found.0; line = found.1; at = found.2; opened = opened_so number words found.1 found.3 }

module _ (book : Book) (number : ℕ) (words : List (List ℕ)) (reply : Reply) (found : Found book number words) where
  abbrev pub executed_line : Line
  executed_line = record found.line { execution = Some reply }

  abbrev pub with_late : Book
  with_late = slice_set book found.place executed_line

  pub late_touches : Touches number book with_late
  late_touches = sets book with_late found.place found.line executed_line found.at found.opened.client found.opened.client (stays with_late)

  answered_before : (line : Line) → line.answer ≡ Some (Err Lost) → is_waiting number line ≡ false
  answered_before line lost = ap (λ (answer : Option Answer). (line.client == number) && is_none answer) lost ∙ and_false (line.client == number)

  pub late_waiting : tally (is_waiting number) with_late ≡ tally (is_waiting number) book
  late_waiting =
      let before : one_if (is_waiting number found.line) ≡ 0 = ap one_if (answered_before found.line found.opened.lost) in
      let after : one_if (is_waiting number executed_line) ≡ 0 = ap one_if (answered_before executed_line found.opened.lost) in
      omega (arith, before, after, tally-set (is_waiting number) book found.place found.line executed_line found.at)

  pub late_others : (request : Late) (others : List Late) → request.words ≡ words → HaveLines book number (request ∷ others) → HaveLines with_late number others
  late_others request others is have ws ws_plain =
      let before : one_if (is_open number ws found.line) ≡ one_if (is_for ws request) = ap one_if (open_for) in
      let after : one_if (is_open number ws executed_line) ≡ 0 = ap one_if (and_false_deep (found.line.client == number) (is_lost found.line.answer)) in
      omega (arith, have ws ws_plain, before, after, tally-set (is_open number ws) book found.place found.line executed_line found.at)
    where
      and_false_deep : (one other : Bool) → (one && (other && false)) ≡ false
      and_false_deep one true = and_false one
      and_false_deep one false = and_false one

      open_for : is_open number ws found.line ≡ is_for ws request
      open_for =
          ap (λ (b : Bool). b && (is_lost found.line.answer && (is_none found.line.execution && same_words found.line.words ws))) (eq-eqb found.line.client number found.opened.client)
          ∙ ap (λ (answer : Option Answer). is_lost answer && (is_none found.line.execution && same_words found.line.words ws)) found.opened.lost
          ∙ ap (λ (execution : Option Reply). is_none execution && same_words found.line.words ws) found.opened.first
          ∙ ap (λ (them : List (List ℕ)). same_words them ws) (found.opened.words_are ∙ sym is)

  -- the call that is under way has another line
  pub late_apart : (other : List (List ℕ)) (execution : Option Reply) → Waits book number other execution → Waits with_late number other execution
  late_apart other execution waits =
      let apart : waits.place ≢ found.place = λ same.
      no_some refl (sym (ap (λ (l : Line). l.answer) (same_some (ap (slice_get book) same ∙ found.at) waits.at)) ∙ found.opened.lost) in
      record { place = waits.place; at = set_apart book found.place executed_line waits.place apart ∙ waits.at }

-- ---- what a step of a client writes

pub record Booked (made : Step) (shown : List Output) (executions : List Answered) (old : Book) (client after : ClientView) : Type 0 where
  pub new : Book
  pub writes : Writes (record { step = made; shown = shown; executed = executions }) old new
  pub touches : Touches client.number old new
  pub booked : IsBooked new after
  pub number_is : after.number ≡ client.number
  pub right : AllByRecursion IsRight old → AllByRecursion IsRight new

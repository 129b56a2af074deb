-- Calls whose connections break, and requests that come late.
use Rattle.std.proofs.Common.{◌≡◌, ◌⊎◌, ◌≤◌, ◌∙◌, ◌&&◌, ◌++◌, ◌∷◌, ℕ, Bool, true, true≢false, List, [], Option, None, Some, Err, is_none, refl, sym, ap, subst, inl, inr, arith}
use Rattle.std.proofs.lemmas.Bool.{cases_Bool, eq-eqb}
use Rattle.cluster_config.specs.declared.config.NodeConfig.{NodeConfig}
use Rattle.resp_values.specs.declared.reply.Reply.{Reply}
use Rattle.redirect.specs.declared.asked.Asking.{Asking}
use Rattle.smart_client.specs.State.{ClientState}
use Rattle.smart_client.specs.Step.{Answer, broken, without_call}
use Rattle.smart_client.specs.Words.{is_refused}
use Rattle.smart_client.specs.declared.call.Call.{Call}
use Rattle.smart_client.specs.declared.call.Stage.{Stage}
use Rattle.smart_client.specs.declared.call.Stage.TheVariants as stage
use Rattle.smart_client.specs.declared.fault.ClientFault.{ClientFault}
use Rattle.world_nodes.specs.Allowed.{asking_at}
use Rattle.world_nodes.specs.Nodes.{RunView}
use Rattle.world_nodes.specs.declared.link.Link.{Link}
use Rattle.world_nodes.specs.declared.output.Output.{Output}
use Rattle.world.specs.Asking.{AsksWell, IsAsking, IsSent}
use Rattle.world.specs.Calls.{Cuts, IsCut}
use Rattle.world.specs.Clients.{ClientView, broken_off, fault_of, lost_by}
use Rattle.world.specs.declared.client.Late.{Late}
use Rattle.world.specs.declared.client.Traffic.{Traffic}
use Rattle.world.specs.declared.client.Traffic.TheVariants.{Quiet, Asked, Answered}
use Rattle.world.specs.declared.step.Step.TheVariants as step
use Rattle.final_answers.specs.Book.{Answers, Book, Tells}
use Rattle.final_answers.proofs.Adding.{Adds, adds_nothing, shut_adds}
use Rattle.final_answers.proofs.Booking.{Booked, HasLine, HaveLines, IsBooked, Waits, answer_touches, answered_line, is_for, late_then, none_waits, opens_more, right_set, with_answer}
use Rattle.final_answers.proofs.Doing.{executed_by}
use Rattle.final_answers.proofs.Stepping.{Told, of_call_so, rests_booked, told_booked}
use Rattle.final_answers.proofs.Tallies.{is_open, is_waiting, one_if, same_words, same_words-true, tally, tally-push}

-- ---- a connection breaks

-- the fault tells the truth: where the command itself was sent, nobody knows
broken_tells : (traffic : Traffic) (at : Stage) → Tells (executed_by traffic at) (Err (broken at true))
broken_tells Quiet stage.Connecting = refl
broken_tells Quiet stage.Introducing = refl
broken_tells Quiet stage.Asking = refl
broken_tells Quiet stage.Sent = tt
broken_tells (Asked link words) stage.Connecting = refl
broken_tells (Asked link words) stage.Introducing = refl
broken_tells (Asked link words) stage.Asking = refl
broken_tells (Asked link words) stage.Sent = tt
broken_tells (Answered link reply) stage.Connecting = refl
broken_tells (Answered link reply) stage.Introducing = refl
broken_tells (Answered link reply) stage.Asking = refl
broken_tells (Answered link reply) stage.Sent = tt

abbrev answer_by : ClientFault → Answer
answer_by fault = Err fault

-- the call is over
over_so : (core : ClientState) (under : Option Call) (lost : Bool) → core.call ≡ under → (without_call under core lost).call ≡ None
over_so core None lost is = is
over_so core (Some call) lost is = refl

pub broken_is_over : (node : ℕ) (client : ClientView) → (broken_off node client).core.call ≡ None
broken_is_over node client = over_so client.core client.core.call _ refl

module _ (book : Book) (client : ClientView) (call : Call) (called : client.core.call ≡ Some call) (has : (tally (is_waiting client.number) book ≡ 1) × Waits book client.number call.words (executed_by client.traffic call.stage)) where
  fault_is : ◌≡◌ {A = Answer} (Err (fault_of client.core.call)) (Err (broken call.stage true))
  fault_is = ap (λ (under : Option Call). answer_by (fault_of under)) called

  abbrev answer : Answer
  answer = Err (fault_of client.core.call)

  abbrev pub broken_book : Book
  broken_book = with_answer book client.number call.words (executed_by client.traffic call.stage) has.1 answer

  tells : Tells (executed_by client.traffic call.stage) answer
  tells = subst (Tells (executed_by client.traffic call.stage)) (sym fault_is) (broken_tells client.traffic call.stage)

  -- with these late requests, if there are lines for them
  pub breaks_with : (node : ℕ) (late : List Late) (shown : List Output) → HaveLines broken_book client.number late → Answers shown broken_book broken_book
      → Told (lost_by client ++ shown) book client.number (record (broken_off node client) { late = late })
  breaks_with node late shown have silent = record {
    new = broken_book;
    answers = (has.1.place, _, has.1.at, refl, refl, silent);
    touches = answer_touches book client.number call.words (executed_by client.traffic call.stage) has.1 answer;
    booked = record {
      calls = subst (HasLine broken_book client.number Quiet) (sym (broken_is_over node client)) (none_waits book client.number call.words (executed_by client.traffic call.stage) has.1 answer has.0);
      late = have;
    };
    right = right_set book has.1.place (answered_line book client.number call.words (executed_by client.traffic call.stage) has.1 answer) tells;
  }

  pub breaks : (node : ℕ) (shown : List Output) → HaveLines book client.number client.late → Answers shown broken_book broken_book → Told (lost_by client ++ shown) book client.number (broken_off node client)
  breaks node shown have silent =
      breaks_with node client.late shown (late_then book client.number call.words (executed_by client.traffic call.stage) has.1 answer client.late have) silent

  -- a request that is left under way may still be executed
  pub left_open : (link : Link) (words : List (List ℕ)) → client.traffic ≡ Asked link words → (words ≡ call.words) × (call.stage ≡ stage.Sent) ⊎ (is_refused words ≡ true) → HaveLines book client.number client.late
      → HaveLines broken_book client.number (client.late ++ (record { link = link; words = words }) ∷ [])
  left_open link words asked sent have others plain =
      let request : Late = record { link = link; words = words } in
      let pushed = tally-push (is_for others) client.late request in
      let more = opens_more book client.number call.words (executed_by client.traffic call.stage) has.1 answer others in
      omega (arith, pushed, more, have others plain, fits sent)
    where
      opened_line : words ≡ call.words → call.stage ≡ stage.Sent
          → is_open client.number others (answered_line book client.number call.words (executed_by client.traffic call.stage) has.1 answer) ≡ same_words words others
      opened_line same at =
          ap (λ (a : Answer). is_open client.number others (answered_line book client.number call.words (executed_by client.traffic call.stage) has.1 a)) fault_is
          ∙ ap (λ (s : Stage). is_open client.number others (answered_line book client.number call.words (executed_by client.traffic call.stage) has.1 (Err (broken s true)))) at
          ∙ ap (λ (b : Bool). b && (is_none (executed_by client.traffic call.stage) && same_words call.words others)) (eq-eqb client.number client.number refl)
          ∙ ap (λ (t : Traffic). is_none (executed_by t call.stage) && same_words call.words others) asked
          ∙ ap (λ (ws : List (List ℕ)). same_words ws others) (sym same)

      fits : (words ≡ call.words) × (call.stage ≡ stage.Sent) ⊎ (is_refused words ≡ true)
          → one_if (same_words words others) ≤ one_if (is_open client.number others (answered_line book client.number call.words (executed_by client.traffic call.stage) has.1 answer))
      fits (inl (same, at)) = let is = ap one_if (opened_line same at) in omega (arith, is)
      fits (inr refused) =
          elim (cases_Bool (same_words words others)) [
            | inl same ↦ absurd (true≢false (sym refused ∙ ap is_refused (same_words-true words others same) ∙ plain))
            | inr differ ↦ let none : one_if (same_words words others) ≡ 0 = ap one_if differ in omega (arith, none)
          ]

-- what a call sent is its command, or words about the cluster
pub sent_so : (call : Call) (at : Stage) (words : List (List ℕ)) (asking : Asking) → IsSent call at words asking → (words ≡ call.words) × (at ≡ stage.Sent) ⊎ (is_refused words ≡ true)
sent_so call stage.Connecting words asking sent = absurd sent
sent_so call stage.Introducing words asking sent = inr (ap is_refused sent.0)
sent_so call stage.Asking words asking sent = asked_so call.asking sent.0
  where
    asked_so : (asked : Option ℕ) → IsAsking asked words → (words ≡ call.words) × (stage.Asking ≡ stage.Sent) ⊎ (is_refused words ≡ true)
    asked_so None is = absurd is
    asked_so (Some number) is = inr (ap is_refused is)
sent_so call stage.Sent words asking sent = inl (sent.0, refl)

module _ (nodes : List NodeConfig) (old new : RunView) (client after : ClientView) (number : ℕ) (outputs : List Output) (book : Book) (booked : IsBooked book client) (asks : AsksWell nodes old client) where
  -- ---- a connection is cut

  abbrev CutSo : Type 0
  CutSo = Adds old new [] × Booked (step.Cut number) outputs [] book client after

  has_line : (call : Call) → client.core.call ≡ Some call → (tally (is_waiting client.number) book ≡ 1) × Waits book client.number call.words (executed_by client.traffic call.stage)
  has_line call called = subst (HasLine book client.number client.traffic) called booked.calls

  asked_cut : (link : Link) (words : List (List ℕ)) → client.traffic ≡ Asked link words → (under : Option Call) → client.core.call ≡ under → IsCut old client (Asked link words) outputs new after → CutSo
  asked_cut link words is None called cut = absurd (of_call_so nodes old client (Asked link words) is asks None called)
  asked_cut link words is (Some call) called cut =
      let of_call = of_call_so nodes old client (Asked link words) is asks (Some call) called in
      let late : List Late = client.late ++ (record { link = link; words = words }) ∷ [] in
      let told : Told (lost_by client ++ []) book client.number (record (broken_off link.node client) { late = late }) =
      breaks_with book client call called (has_line call called) link.node late []
      (left_open book client call called (has_line call called) link words is (sent_so call call.stage words (asking_at old link) of_call.1) booked.late) refl in (
        adds_nothing old new cut.0,
        subst (λ (shown : List Output). Booked (step.Cut number) shown [] book client after) (sym cut.2)
            (subst (λ (c : ClientView). Booked (step.Cut number) (lost_by client) [] book client c) (sym cut.1)
            (told_booked (step.Cut number) (lost_by client) book client (record (broken_off link.node client) { late = late }) refl refl told)),
      )

  answered_cut : (link : Link) (reply : Reply) → client.traffic ≡ Answered link reply → (under : Option Call) → client.core.call ≡ under → IsCut old client (Answered link reply) outputs new after → CutSo
  answered_cut link reply is None called cut = absurd (of_call_so nodes old client (Answered link reply) is asks None called)
  answered_cut link reply is (Some call) called cut =
      let told : Told (lost_by client ++ []) book client.number (broken_off link.node client) = breaks book client call called (has_line call called) link.node [] booked.late refl in (
        shut_adds old new link cut.0,
        subst (λ (shown : List Output). Booked (step.Cut number) shown [] book client after) (sym cut.2)
            (subst (λ (c : ClientView). Booked (step.Cut number) (lost_by client) [] book client c) (sym cut.1)
            (told_booked (step.Cut number) (lost_by client) book client (broken_off link.node client) refl refl told)),
      )

  pub cuts_booked : Cuts old client outputs new after → CutSo
  cuts_booked = by_traffic client.traffic refl
    where
      by_traffic : (traffic : Traffic) → client.traffic ≡ traffic → IsCut old client traffic outputs new after → CutSo
      by_traffic Quiet is rested = (adds_nothing old new rested.run, rests_booked (step.Cut number) outputs book old new client after refl booked rested)
      by_traffic (Asked link words) is cut = asked_cut link words is client.core.call refl cut
      by_traffic (Answered link reply) is cut = answered_cut link reply is client.core.call refl cut

-- Requests that reach their nodes, in time or late.
use Rattle.std.proofs.Common.{◌≡◌, ◌∙◌, ◌∷◌, ℕ, Bool, true, false, cond, List, [], Option, None, Some, refl, sym, ap, subst, inl, inr, arith}
use Rattle.std.specs.Prelude.{MatchBool}
use Rattle.cluster_config.specs.declared.config.NodeConfig.{NodeConfig}
use Rattle.reply_meaning.specs.Refusal.{is_refusal}
use Rattle.resp_values.specs.declared.reply.Reply.{Reply}
use Rattle.smart_client.specs.Words.{is_refused}
use Rattle.smart_client.specs.declared.call.Call.{Call}
use Rattle.smart_client.specs.declared.call.Stage.{Stage}
use Rattle.smart_client.specs.declared.call.Stage.TheVariants as stage
use Rattle.world_run.specs.Executed.{Answered as Execution}
use Rattle.world_nodes.specs.Allowed.{asking_at}
use Rattle.world_nodes.specs.Nodes.{RunView, is_up}
use Rattle.world_nodes.specs.Serving.{Serves}
use Rattle.world_nodes.specs.declared.link.Link.{Link}
use Rattle.world_nodes.specs.declared.output.Output.{Output}
use Rattle.world.specs.Asking.{AsksWell, IsSent}
use Rattle.world.specs.Calls.{Arrives, Carries, ComesLate, IsCarried, IsLate, Lingers, Rests}
use Rattle.world.specs.Clients.{ClientView}
use Rattle.world.specs.declared.client.Late.{Late}
use Rattle.world.specs.declared.client.Traffic.{Traffic}
use Rattle.world.specs.declared.client.Traffic.TheVariants.{Quiet, Asked, Answered}
use Rattle.world.specs.declared.step.Step.TheVariants as step
use Rattle.final_answers.specs.Book.{Answers, Book, IsRightSo}
use Rattle.final_answers.proofs.Adding.{Adds, IsDone, IsSo, adds_first, adds_nothing, closes_adds, serves_so}
use Rattle.final_answers.proofs.Booking.{Booked, Found, HasLine, HaveLines, IsBooked, Waits, execution_touches, execution_waits, found_line, late_apart, late_as_before, late_others, late_touches, late_waiting, right_set, still_waits, with_execution, with_late}
use Rattle.final_answers.proofs.Doing.{executed_by}
use Rattle.final_answers.proofs.Stepping.{call_so, of_call_so, rests_booked, served_silent, silent_answers, writes_so}
use Rattle.final_answers.proofs.Tallies.Touches.{stays}
use Rattle.final_answers.proofs.Tallies.{is_waiting, tally}
use Rattle.final_answers.proofs.Wanted.{execution_at, told_by}
use Rattle.final_answers.proofs.Losing.{sent_so}

-- ---- what became of a request

-- of words about the cluster nothing was executed
refused_idle : (words : List (List ℕ)) (reply : Option Reply) (executions : List Execution) → is_refused words ≡ true → IsSo words reply executions → executions ≡ []
refused_idle words None executions refused so = so
refused_idle words (Some reply) executions refused so = subst (λ (b : Bool). MatchBool b (executions ≡ []) (MatchBool (is_refusal reply) (executions ≡ []) (IsDone words reply executions))) refused so

-- and of words about data, where the reply is no refusal
plain_so : (words : List (List ℕ)) (reply : Reply) (executions : List Execution) → is_refused words ≡ false → IsSo words (Some reply) executions → MatchBool (is_refusal reply) (executions ≡ []) (IsDone words reply executions)
plain_so words reply executions plain so = subst (λ (b : Bool). MatchBool b (executions ≡ []) (MatchBool (is_refusal reply) (executions ≡ []) (IsDone words reply executions))) plain so

told_if : (reply : Reply) (refuses : Bool) → is_refusal reply ≡ refuses → told_by reply ≡ cond refuses None (Some reply)
told_if reply refuses is = ap (λ (b : Bool). cond b None (Some reply)) is

module _ (nodes : List NodeConfig) (old new : RunView) (client after : ClientView) (number : ℕ) (outputs : List Output) (book : Book) (numbered_so : client.number ≡ number) (booked : IsBooked book client) (asks : AsksWell nodes old client) where
  abbrev CarriesSo : Type 0
  CarriesSo = (executions : List Execution) × Adds old new executions × Booked (step.Carry number) outputs executions book client after

  module _ (link : Link) (words : List (List ℕ)) (is : client.traffic ≡ Asked link words) (call : Call) (called : client.core.call ≡ Some call) where
    waits : (tally (is_waiting client.number) book ≡ 1) × Waits book client.number call.words None
    waits = call_so book client (Asked link words) is booked (Some call) called

    abbrev answered : Reply → ClientView
    answered reply = record client { traffic = Answered link reply }

    -- nothing was executed, and the reply says so
    idle_so : (reply : Reply) (shown : List Output) → Answers shown book book → execution_at call.stage reply ≡ None → Booked (step.Carry number) shown [] book client (answered reply)
    idle_so reply shown silent none = record {
      new = book;
      writes = writes_so (step.Carry number) shown [] book book book refl refl silent;
      touches = stays book;
      booked = record {
        calls = subst (HasLine book client.number (Answered link reply)) (sym called)
            (waits.0, subst (Waits book client.number call.words) (sym none) waits.1);
        late = booked.late;
      };
      number_is = refl;
      right = λ right. right;
    }

    -- the command was executed, with this reply
    done_so : (reply : Reply) (shown : List Output) (executions : List Execution) → call.stage ≡ stage.Sent → words ≡ call.words → is_refusal reply ≡ false → IsDone words reply executions
        → ((other : Book) → Answers shown other other) → Booked (step.Carry number) shown executions book client (answered reply)
    done_so reply shown executions at same executed (one, are, words_are, reply_is) silent =
        let then_book : Book = with_execution book client.number call.words waits.1 one.answer.reply in
        let execution : Some one.answer.reply ≡ execution_at call.stage reply =
        ap Some reply_is ∙ sym (told_if reply false executed) ∙ ap (λ (s : Stage). execution_at s reply) (sym at) in
        subst (λ (them : List Execution). Booked (step.Carry number) shown them book client (answered reply)) (sym are)
        (record {
          new = then_book;
          writes = writes_so (step.Carry number) shown (one ∷ []) book then_book then_book refl
              (waits.1.place, _, waits.1.at, record { client = sym numbered_so; words = sym same ∙ sym words_are; first = refl; open_yet = inl refl }, refl) (silent then_book);
          touches = execution_touches book client.number call.words waits.1 one.answer.reply;
          booked = record {
            calls = subst (HasLine then_book client.number (Answered link reply)) (sym called) (
              still_waits book client.number call.words waits.1 one.answer.reply waits.0,
              subst (Waits then_book client.number call.words) execution (execution_waits book client.number call.words waits.1 one.answer.reply),
            );
            late = late_as_before book client.number call.words waits.1 one.answer.reply client.late booked.late;
          };
          number_is = refl;
          right = right_set book waits.1.place _ tt;
        })

    -- by the reply, whatever was sent
    replied_so : (reply : Reply) (shown : List Output) (executions : List Execution) (at : Stage) → call.stage ≡ at → IsSent call at words (asking_at old link) → is_refused call.words ≡ false
        → IsSo words (Some reply) executions → ((other : Book) → Answers shown other other) → Booked (step.Carry number) shown executions book client (answered reply)
    replied_so reply shown executions stage.Connecting at sent plain so silent = absurd sent
    replied_so reply shown executions stage.Introducing at sent plain so silent =
        subst (λ (them : List Execution). Booked (step.Carry number) shown them book client (answered reply)) (sym (refused_idle words (Some reply) executions (ap is_refused sent.0) so))
        (idle_so reply shown (silent book) (ap (λ (s : Stage). execution_at s reply) at))
    replied_so reply shown executions stage.Asking at sent plain so silent =
        let refused : is_refused words ≡ true =
        elim (sent_so call stage.Asking words (asking_at old link) sent) [
          | inl same ↦ absurd (apart same.1)
          | inr refused ↦ refused
        ] in
        subst (λ (them : List Execution). Booked (step.Carry number) shown them book client (answered reply)) (sym (refused_idle words (Some reply) executions refused so))
        (idle_so reply shown (silent book) (ap (λ (s : Stage). execution_at s reply) at))
      where
        apart : stage.Asking ≡ stage.Sent → ⊥
        apart same = cc
    replied_so reply shown executions stage.Sent at sent plain so silent = by_refusal (is_refusal reply) refl (plain_so words reply executions (ap is_refused sent.0 ∙ plain) so)
      where
        by_refusal : (refuses : Bool) → is_refusal reply ≡ refuses → MatchBool refuses (executions ≡ []) (IsDone words reply executions) → Booked (step.Carry number) shown executions book client (answered reply)
        by_refusal true refuses none =
            subst (λ (them : List Execution). Booked (step.Carry number) shown them book client (answered reply)) (sym none)
            (idle_so reply shown (silent book) (ap (λ (s : Stage). execution_at s reply) at ∙ told_if reply true refuses))
        by_refusal false executed done = done_so reply shown executions at sent.0 executed done silent

    arrives_so : IsSent call call.stage words (asking_at old link) → is_refused call.words ≡ false → (reply : Reply) → Serves old link.node link.conn words (Some reply) outputs new
        → after ≡ record client { traffic = Answered link reply } → CarriesSo
    arrives_so sent plain reply serves left =
        let serving = serves_so old new link.node link.conn words (Some reply) outputs serves in
        let silent : (other : Book) → Answers outputs other other = λ other. silent_answers outputs other (served_silent old new link.node link.conn words (Some reply) outputs serves) in (
          serving.executions,
          serving.adds,
          subst (λ (c : ClientView). Booked (step.Carry number) outputs serving.executions book client c) (sym left)
              (replied_so reply outputs serving.executions call.stage refl sent plain serving.so silent),
        )

  rests_so : Rests old client outputs new after → CarriesSo
  rests_so rested = ([], adds_nothing old new rested.run, rests_booked (step.Carry number) outputs book old new client after refl booked rested)

  pub carries_booked : Carries old client outputs new after → CarriesSo
  carries_booked = by_traffic client.traffic refl
    where
      by_call : (link : Link) (words : List (List ℕ)) → client.traffic ≡ Asked link words → (under : Option Call) → client.core.call ≡ under → Arrives old client link words outputs new after → CarriesSo
      by_call link words is None called arrives = absurd (of_call_so nodes old client (Asked link words) is asks None called)
      by_call link words is (Some call) called arrives =
          let of_call = of_call_so nodes old client (Asked link words) is asks (Some call) called in
          arrives_so link words is call called of_call.1 of_call.0.called.plain arrives.reply arrives.serves arrives.left

      by_up : (link : Link) (words : List (List ℕ)) → client.traffic ≡ Asked link words → (up : Bool) → MatchBool up (Arrives old client link words outputs new after) (Rests old client outputs new after) → CarriesSo
      by_up link words is true arrives = by_call link words is client.core.call refl arrives
      by_up link words is false rested = rests_so rested

      by_traffic : (traffic : Traffic) → client.traffic ≡ traffic → IsCarried old client traffic outputs new after → CarriesSo
      by_traffic (Asked link words) is carried = by_up link words is (is_up old link.node) carried
      by_traffic Quiet is rested = rests_so rested
      by_traffic (Answered link reply) is rested = rests_so rested

-- ---- a late request comes

module _ (old new : RunView) (client after : ClientView) (number : ℕ) (outputs : List Output) (book : Book) (numbered_so : client.number ≡ number) (booked : IsBooked book client) where
  abbrev LingersSo : Type 0
  LingersSo = (executions : List Execution) × Adds old new executions × Booked (step.Late number) outputs executions book client after

  module _ (request : Late) (others : List Late) (all : client.late ≡ request ∷ others) where
    abbrev rest : ClientView
    rest = record client { late = others }

    have : HaveLines book client.number (request ∷ others)
    have = subst (HaveLines book client.number) all booked.late

    -- nothing was executed
    late_idle : (shown : List Output) → Answers shown book book → Booked (step.Late number) shown [] book client rest
    late_idle shown silent = record {
      new = book;
      writes = writes_so (step.Late number) shown [] book book book refl refl silent;
      touches = stays book;
      booked = record { calls = booked.calls; late = λ words plain. omega (arith, have words plain) };
      number_is = refl;
      right = λ right. right;
    }

    late_done : (reply : Reply) (shown : List Output) (executions : List Execution) → is_refused request.words ≡ false → IsDone request.words reply executions → ((other : Book) → Answers shown other other)
        → Booked (step.Late number) shown executions book client rest
    late_done reply shown executions plain (one, are, words_are, reply_is) silent =
        let found : Found book client.number request.words = found_line book client.number request.words plain request others refl have in
        let then_book : Book = with_late book client.number request.words one.answer.reply found in
        let same = late_waiting book client.number request.words one.answer.reply found in
        subst (λ (them : List Execution). Booked (step.Late number) shown them book client rest) (sym are)
        (record {
          new = then_book;
          writes = writes_so (step.Late number) shown (one ∷ []) book then_book then_book refl
              (found.place, found.line, found.at, record { client = sym numbered_so ∙ sym found.opened.client; words = found.opened.words_are ∙ sym words_are; first = found.opened.first; open_yet = inr found.opened.lost }, refl)
              (silent then_book);
          touches = late_touches book client.number request.words one.answer.reply found;
          booked = record {
            calls = by_call client.core.call booked.calls found one.answer.reply;
            late = late_others book client.number request.words one.answer.reply found request others refl have;
          };
          number_is = refl;
          right = right_set book found.place _ (subst (IsRightSo (Some one.answer.reply)) (sym found.opened.lost) tt);
        })
      where
        by_call : (under : Option Call) → HasLine book client.number client.traffic under → (found : Found book client.number request.words) (reply : Reply)
            → HasLine (with_late book client.number request.words reply found) client.number client.traffic under
        by_call None none found reply = late_waiting book client.number request.words reply found ∙ none
        by_call (Some call) (one, waits) found reply =
            (late_waiting book client.number request.words reply found ∙ one, late_apart book client.number request.words reply found call.words (executed_by client.traffic call.stage) waits)

    late_so : (reply : Option Reply) (shown : List Output) (executions : List Execution) → IsSo request.words reply executions → ((other : Book) → Answers shown other other)
        → Booked (step.Late number) shown executions book client rest
    late_so None shown executions so silent =
        subst (λ (them : List Execution). Booked (step.Late number) shown them book client rest) (sym so) (late_idle shown (silent book))
    late_so (Some reply) shown executions so silent = by_words (is_refused request.words) refl so
      where
        by_refusal : is_refused request.words ≡ false → (refuses : Bool) → MatchBool refuses (executions ≡ []) (IsDone request.words reply executions) → Booked (step.Late number) shown executions book client rest
        by_refusal plain true none = subst (λ (them : List Execution). Booked (step.Late number) shown them book client rest) (sym none) (late_idle shown (silent book))
        by_refusal plain false done = late_done reply shown executions plain done silent

        by_words : (refused : Bool) → is_refused request.words ≡ refused → MatchBool refused (executions ≡ []) (MatchBool (is_refusal reply) (executions ≡ []) (IsDone request.words reply executions))
            → Booked (step.Late number) shown executions book client rest
        by_words true is none = subst (λ (them : List Execution). Booked (step.Late number) shown them book client rest) (sym none) (late_idle shown (silent book))
        by_words false is done = by_refusal is (is_refusal reply) done

    comes_so : ComesLate old client request others outputs new after → LingersSo
    comes_so comes =
        let last = comes.serves in
        let serving = serves_so old last.run request.link.node request.link.conn request.words last.reply outputs last.serves in
        let silent : (other : Book) → Answers outputs other other =
        λ other. silent_answers outputs other (served_silent old last.run request.link.node request.link.conn request.words last.reply outputs last.serves) in (
          serving.executions,
          adds_first old last.run new serving.executions serving.adds (closes_adds last.run new request.link.node (request.link.conn ∷ []) last.closes),
          subst (λ (c : ClientView). Booked (step.Late number) outputs serving.executions book client c) (sym comes.left) (late_so last.reply outputs serving.executions serving.so silent),
        )

  late_rests : Rests old client outputs new after → LingersSo
  late_rests rested = ([], adds_nothing old new rested.run, rests_booked (step.Late number) outputs book old new client after refl booked rested)

  pub lingers_booked : Lingers old client outputs new after → LingersSo
  lingers_booked = by_late client.late refl
    where
      by_up : (request : Late) (others : List Late) → client.late ≡ request ∷ others → (up : Bool) → MatchBool up (ComesLate old client request others outputs new after) (Rests old client outputs new after) → LingersSo
      by_up request others all true comes = comes_so request others all comes
      by_up request others all false rested = late_rests rested

      by_late : (list : List Late) → client.late ≡ list → IsLate old client list outputs new after → LingersSo
      by_late [] all rested = late_rests rested
      by_late (request ∷ others) all comes = by_up request others all (is_up old request.link.node) comes

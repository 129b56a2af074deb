-- A node that stops, and all steps together.
use Rattle.std.proofs.Common.{◌<◌, ◌≡◌, ◌+◌, ◌≤◌, ◌∙◌, ◌++◌, ◌∷◌, ℕ, Bool, true, false, true≢false, cond, List, [], length, map, Option, None, Some, Err, refl, sym, ap, subst, arith, append-nil}
use Rattle.std.specs.List.{AllByRecursion}
use Rattle.std.specs.Prelude.{MatchBool, filter, slice_get, slice_set}
use Rattle.cluster_config.specs.declared.config.NodeConfig.{NodeConfig}
use Rattle.smart_client.specs.declared.call.Call.{Call}
use Rattle.world_run.specs.Executed.{Answered as Execution}
use Rattle.world_nodes.specs.Nodes.{RunView, is_up}
use Rattle.world_nodes.specs.declared.output.Output.{Output}
use Rattle.world_nodes.specs.declared.output.Output.TheVariants as output
use Rattle.world.specs.Asking.{AsksWell, IsOfCall}
use Rattle.world.specs.Calls.{Carries, Cuts, Lingers}
use Rattle.world.specs.Clients.{ClientView, broken_off, fault_of, is_elsewhere, leads_to, lost_at, lost_by, stopped_at, used_by, without_late}
use Rattle.world.specs.declared.client.Late.{Late}
use Rattle.world.specs.declared.client.Traffic.{Traffic}
use Rattle.world.specs.declared.client.Traffic.TheVariants.{Quiet, Asked, Answered}
use Rattle.world.specs.declared.step.Step.{Step}
use Rattle.world.specs.declared.step.Step.TheVariants as step
use Rattle.final_answers.specs.Book.{Answers, Book, IsRight}
use Rattle.final_answers.specs.Moments.{Moment}
use Rattle.final_answers.proofs.Adding.{Adds}
use Rattle.final_answers.proofs.Booking.{Booked, HasLine, HaveLines, IsBooked, is_for, late_then}
use Rattle.final_answers.proofs.Doing.{executed_by}
use Rattle.final_answers.proofs.Stepping.{Told, of_call_so, writes_so}
use Rattle.final_answers.proofs.Tallies.{one_if, tally}
use Rattle.std.specs.List.{flat_map}
use Rattle.cluster_config.specs.Config.{IsCluster}
use Rattle.cluster_config.proofs.PlaceLemmas.{position-le}
use Rattle.std.specs.Prelude.{nat_le}
use Rattle.single_keyspace.proofs.Seen.{same_some}
use Rattle.final_answers.proofs.Tallies.Touches.{stays}
use Rattle.world.specs.Asking.{AllAskWell, KeepsRule}
use Rattle.world.specs.Calls.{Begins, Returns}
use Rattle.world.specs.Clients.{begun_at, client_at, new_client, place_of, with_client}
use Rattle.world.specs.Plays.{ClientStep, IsOfClient, IsOfSome, IsNothing, IsStopping, Plays, PlaysAll}
use Rattle.world.specs.View.{SceneView, first_scene}
use Rattle.world.proofs.Rule.{first_rule, plays_well}
use Rattle.world_run.specs.Executed.{executed}
use Rattle.final_answers.specs.Book.{IsBook}
use Rattle.final_answers.specs.Law.{AnswersHaveReasons, FinalAnswers}
use Rattle.final_answers.specs.Moments.{PlaysSo}
use Rattle.final_answers.proofs.Booking.{booked_elsewhere}
use Rattle.final_answers.proofs.Carrying.{carries_booked, lingers_booked}
use Rattle.final_answers.proofs.FollowingAll.{AllFollowWell, first_followed, plays_followed}
use Rattle.final_answers.proofs.Losing.{breaks_with, cuts_booked}
use Rattle.final_answers.proofs.ClientPlaces.{asks_at, inserted_at, numbered_at}
use Rattle.final_answers.proofs.Playing.{Written, administers_quiet, delivers_quiet, booked_at, nothing_written, of_client, of_nodes, of_some, ticks_quiet}
use Rattle.final_answers.proofs.Reasons.{have_reasons}
use Rattle.final_answers.proofs.Scenes.{AllBooked, IsNoneOf, Rise, Stands, begins_in, below_all, others_booked, owner_apart}
use Rattle.final_answers.proofs.Stepping.{begins_booked, returns_booked}
use Rattle.final_answers.proofs.Tallies.{owned}

-- ---- a node stops

pub answers-append : (first rest : List Output) (old mid new : Book) → Answers first old mid → Answers rest mid new → Answers (first ++ rest) old new
answers-append [] rest old mid new one more = subst (λ (book : Book). Answers rest book new) one more
answers-append (output.Answer client answer ∷ first) rest old mid new (place, line, at, own, none, one) more =
    (place, line, at, own, none, answers-append first rest (slice_set old place (record line { answer = Some answer })) mid new one more)
answers-append (output.Admin node reply ∷ first) rest old mid new one more = answers-append first rest old mid new one more
answers-append (output.Sent number message ∷ first) rest old mid new one more = answers-append first rest old mid new one more
answers-append (output.Promoted node promotion ∷ first) rest old mid new one more = answers-append first rest old mid new one more
answers-append (output.Nothing ∷ first) rest old mid new one more = answers-append first rest old mid new one more

fewer_late : (test : Late → Bool) (passes : Late → Bool) (late : List Late) → tally test (filter passes late) ≤ tally test late
fewer_late test passes [] = omega arith
fewer_late test passes (request ∷ late) = by_passed (fewer_late test passes late) (passes request)
  where
    by_passed : tally test (filter passes late) ≤ tally test late → (passed : Bool) → tally test (cond passed (request ∷ filter passes late) (filter passes late)) ≤ one_if (test request) + tally test late
    by_passed less true = omega (arith, less)
    by_passed less false = omega (arith, less)

-- what is written of the clients of the node, one after another
record Stopped (node : ℕ) (book : Book) (clients : List ClientView) : Type 0 where
  after : Book
  answers : Answers (flat_map (lost_at node) clients) book after
  booked : AllBooked after (map (stopped_at node) clients)
  others : (client : ClientView) → IsNoneOf client.number clients → IsBooked book client → IsBooked after client
  owners : (number : ℕ) → IsNoneOf number clients → tally (owned number) after ≡ tally (owned number) book
  right : AllByRecursion IsRight book → AllByRecursion IsRight after

module _ (nodes : List NodeConfig) (run : RunView) (node : ℕ) where
  late_left : (book : Book) (client : ClientView) → HaveLines book client.number client.late → HaveLines book client.number (filter (is_elsewhere node) client.late)
  late_left book client have words plain = omega (arith, have words plain, fewer_late (is_for words) (is_elsewhere node) client.late)

  -- one client, by whether its connection breaks
  stopped_told : (book : Book) (client : ClientView) → IsBooked book client → AsksWell nodes run client → (traffic : Traffic) → client.traffic ≡ traffic → (leads : Bool) → leads_to node (used_by traffic) ≡ leads
      → Told (cond leads (lost_by client) []) book client.number (cond leads (broken_off node (without_late node client)) (without_late node client))
  stopped_told book client booked asks traffic is false leads =
      record { new = book; answers = refl; touches = stays book; booked = record { calls = booked.calls; late = late_left book client booked.late }; right = λ right. right }
  stopped_told book client booked asks Quiet is true leads = absurd (true≢false (sym leads))
  stopped_told book client booked asks (Asked link words) is true leads = breaks_now client.core.call refl
    where
      breaks_now : (under : Option Call) → client.core.call ≡ under → Told (lost_by client) book client.number (broken_off node (without_late node client))
      breaks_now None called = absurd (of_call_so nodes run client (Asked link words) is asks None called)
      breaks_now (Some call) called =
          let has = subst (HasLine book client.number client.traffic) called booked.calls in
          breaks_with book client call called has node (filter (is_elsewhere node) client.late) []
          (late_then book client.number call.words (executed_by client.traffic call.stage) has.1 (Err (fault_of client.core.call)) (filter (is_elsewhere node) client.late) (late_left book client booked.late)) refl
  stopped_told book client booked asks (Answered link reply) is true leads = breaks_now client.core.call refl
    where
      breaks_now : (under : Option Call) → client.core.call ≡ under → Told (lost_by client) book client.number (broken_off node (without_late node client))
      breaks_now None called = absurd (of_call_so nodes run client (Answered link reply) is asks None called)
      breaks_now (Some call) called =
          let has = subst (HasLine book client.number client.traffic) called booked.calls in
          breaks_with book client call called has node (filter (is_elsewhere node) client.late) []
          (late_then book client.number call.words (executed_by client.traffic call.stage) has.1 (Err (fault_of client.core.call)) (filter (is_elsewhere node) client.late) (late_left book client booked.late)) refl

  stopped_number : (client : ClientView) → (stopped_at node client).number ≡ client.number
  stopped_number client = by_leads (leads_to node (used_by client.traffic))
    where
      by_leads : (leads : Bool) → (cond leads (broken_off node (without_late node client)) (without_late node client)).number ≡ client.number
      by_leads true = refl
      by_leads false = refl

  stops : (clients : List ClientView) (book : Book) → Rise clients → AllBooked book clients → AllAskWell nodes run clients → Stopped node book clients
  stops [] book rise all asks = record { after = book; answers = refl; booked = tt; others = λ client none booked. booked; owners = λ number none. refl; right = λ right. right }
  stops (client ∷ clients) book rise all asks =
      let told : Told (lost_at node client) book client.number (stopped_at node client) = stopped_told book client all.0 asks.0 client.traffic refl (leads_to node (used_by client.traffic)) refl in
      let none : IsNoneOf client.number clients = below_all client clients rise.0 in
      let rest = stops clients told.new rise.1 (others_booked client.number book told.new told.touches clients none all.1) asks.2 in
      record {
        after = rest.after;
        answers = answers-append (lost_at node client) (flat_map (lost_at node) clients) book told.new rest.after told.answers rest.answers;
        booked = (rest.others (stopped_at node client) (subst (λ (number : ℕ). IsNoneOf number clients) (sym (stopped_number client)) none) told.booked, rest.booked);
        others = λ other missing booked.
            rest.others other missing.1 (booked_elsewhere client.number book told.new other told.touches (λ (same : other.number ≡ client.number). missing.0 (sym same)) booked);
        owners = λ number missing. rest.owners number missing.1 ∙ owner_apart client.number book told.new told.touches number missing.0;
        right = λ right. rest.right (told.right right);
      }

  -- the numbers stay
  below_stopped : (one : ClientView) (number : ℕ) → number ≡ one.number → (clients : List ClientView) → AllByRecursion (λ (other : ClientView). one.number < other.number) clients
      → AllByRecursion (λ (other : ClientView). number < other.number) (map (stopped_at node) clients)
  below_stopped one number is [] below = tt
  below_stopped one number is (client ∷ clients) below = (omega (arith, below.0, is, stopped_number client), below_stopped one number is clients below.1)

  rise_stopped : (clients : List ClientView) → Rise clients → Rise (map (stopped_at node) clients)
  rise_stopped [] rise = tt
  rise_stopped (client ∷ clients) rise = (below_stopped client (stopped_at node client).number (stopped_number client) clients rise.0, rise_stopped clients rise.1)

  none_stopped : (number : ℕ) (clients : List ClientView) → IsNoneOf number (map (stopped_at node) clients) → IsNoneOf number clients
  none_stopped number [] none = tt
  none_stopped number (client ∷ clients) none = ((λ same. none.0 (stopped_number client ∙ same)), none_stopped number clients none.1)

-- ---- all steps

module _ (old : SceneView) (book : Book) (stands : Stands old book) (cluster_is : IsCluster old.config) (shown : List Output) (new : SceneView) where
  stop_written : (node : ℕ) (up : Bool) → MatchBool up (IsStopping old node shown new) (IsNothing old shown new) → Written old book (step.Stop node) shown new
  stop_written node false idle = nothing_written old new book (step.Stop node) shown stands refl idle
  stop_written node true stopping =
      let stopped = stops old.config.nodes old.run node old.clients book stands.rise stands.booked stands.rule.clients in
      subst (Written old book (step.Stop node) shown) (sym stopping.stops)
      (record {
        executions = [];
        adds = sym (append-nil (executed old.run.entries));
        after = stopped.after;
        writes = writes_so (step.Stop node) shown [] book book stopped.after refl refl (subst (λ (outputs : List Output). Answers outputs book stopped.after) (sym stopping.shows) stopped.answers);
        rise = rise_stopped old.config.nodes old.run node old.clients stands.rise;
        booked = stopped.booked;
        owners = λ number missing.
            let before = none_stopped old.config.nodes old.run node number old.clients missing in
            stopped.owners number before ∙ stands.owners number before;
        right = stopped.right stands.right;
      })

  -- a call: of a client that has begun, or that begins
  call_written : (number : ℕ) (words : List (List ℕ)) → IsOfClient (Begins old.config.nodes words) (with_client old.config number old.clients) (place_of number old.clients) old shown new
      → Written old book (step.Call number words) shown new
  call_written number words of =
      let begun_so = begins_in old.config number book old.clients stands.rise stands.booked stands.owners in
      of_client old book stands (step.Call number words) shown new (Begins old.config.nodes words) (with_client old.config number old.clients) (place_of number old.clients) begun_so.rise begun_so.booked begun_so.none of
      (by_found (client_at number old.clients) refl of.was (booked_at book (with_client old.config number old.clients) (place_of number old.clients) of.client of.was begun_so.booked))
    where
      calls_so : of.client.number ≡ number → IsBooked book of.client → (of.client.traffic ≡ Quiet → of.client.core.call ≡ None)
          → (executions : List Execution) × Adds old.run of.run executions × Booked (step.Call number words) shown executions book of.client of.after
      calls_so numbered booked settled = let done = begins_booked old.config.nodes old.run of.run of.client of.after number words shown book numbered booked settled of.steps in ([], done.0, done.1)

      by_found : (found : Option ClientView) → client_at number old.clients ≡ found → slice_get (begun_at old.config number old.clients found) (place_of number old.clients) ≡ Some of.client → IsBooked book of.client
          → (executions : List Execution) × Adds old.run of.run executions × Booked (step.Call number words) shown executions book of.client of.after
      by_found (Some client) is at booked =
          calls_so (numbered_at number old.clients client of.client is at) booked
          (λ quiet. subst (λ (t : Traffic). IsOfCall old.config.nodes old.run of.client.core of.client.pool t of.client.core.call) quiet (asks_at old.config.nodes old.run old.clients (place_of number old.clients) of.client at stands.rule.clients).call)
      by_found None is at booked =
          let within : place_of number old.clients ≤ length old.clients = position-le (λ (client : ClientView). nat_le number client.number) old.clients in
          let same : new_client old.config number ≡ of.client = same_some (inserted_at old.clients (place_of number old.clients) (new_client old.config number) within) at in
          calls_so (ap (λ (c : ClientView). c.number) (sym same)) booked (λ quiet. ap (λ (c : ClientView). c.core.call) (sym same))

  pub written : (made : Step) → Plays old made shown new → Written old book made shown new
  written (step.Call number words) plays = call_written number words plays
  written (step.Carry number) plays =
      of_some old book stands (step.Carry number) shown new _ number refl
      (λ client run after is booked asks carries. carries_booked old.config.nodes old.run run client after number shown book is booked asks carries) (client_at number old.clients) refl plays
  written (step.Return number) plays =
      of_some old book stands (step.Return number) shown new _ number refl
      (λ client run after is booked asks returns.
      let done = returns_booked old.config.nodes old.run run client after number shown book booked asks returns in ([], done.0, done.1)) (client_at number old.clients) refl plays
  written (step.Cut number) plays =
      of_some old book stands (step.Cut number) shown new _ number refl
      (λ client run after is booked asks cuts.
      let done = cuts_booked old.config.nodes old.run run client after number shown book booked asks cuts in ([], done.0, done.1)) (client_at number old.clients) refl plays
  written (step.Late number) plays =
      of_some old book stands (step.Late number) shown new _ number refl
      (λ client run after is booked asks lingers. lingers_booked old.run run client after number shown book is booked lingers) (client_at number old.clients) refl plays
  written (step.Admin node words) plays = of_nodes old book stands (step.Admin node words) shown new _ refl (λ run steps. administers_quiet old.run run node words shown steps) plays
  written (step.Tick node) plays = of_nodes old book stands (step.Tick node) shown new _ refl (λ run steps. ticks_quiet old.run run node shown steps) plays
  written (step.Stop node) plays = stop_written node (is_up old.run node) plays
  written (step.Deliver number) plays = of_nodes old book stands (step.Deliver number) shown new _ refl (λ run steps. delivers_quiet old.run run number shown steps) plays

-- ---- whole plays

record Played (old : SceneView) (book : Book) (steps : List Step) (outputs : List Output) (new : SceneView) : Type 0 where
  moments : List Moment
  steps_are : map (λ (moment : Moment). moment.step) moments ≡ steps
  shown_are : flat_map (λ (moment : Moment). moment.shown) moments ≡ outputs
  plays : PlaysSo old moments new
  after : Book
  is_book : IsBook moments book after
  right : AllByRecursion IsRight after

-- a step changes no configuration
some_stays : (old new : SceneView) (does : ClientStep) (number : ℕ) (shown : List Output) (found : Option ClientView) → IsOfSome does number found old shown new → new.config ≡ old.config
some_stays old new does number shown None idle = ap (λ (scene : SceneView). scene.config) idle.unchanged
some_stays old new does number shown (Some client) of = ap (λ (scene : SceneView). scene.config) of.is

stop_stays : (old new : SceneView) (node : ℕ) (shown : List Output) (up : Bool) → MatchBool up (IsStopping old node shown new) (IsNothing old shown new) → new.config ≡ old.config
stop_stays old new node shown true stopping = ap (λ (scene : SceneView). scene.config) stopping.stops
stop_stays old new node shown false idle = ap (λ (scene : SceneView). scene.config) idle.unchanged

config_stays : (old new : SceneView) (made : Step) (shown : List Output) → Plays old made shown new → new.config ≡ old.config
config_stays old new (step.Call number words) shown of = ap (λ (scene : SceneView). scene.config) of.is
config_stays old new (step.Carry number) shown of = some_stays old new Carries number shown (client_at number old.clients) of
config_stays old new (step.Return number) shown of = some_stays old new (Returns old.config.nodes) number shown (client_at number old.clients) of
config_stays old new (step.Cut number) shown of = some_stays old new Cuts number shown (client_at number old.clients) of
config_stays old new (step.Late number) shown of = some_stays old new Lingers number shown (client_at number old.clients) of
config_stays old new (step.Admin node words) shown of = ap (λ (scene : SceneView). scene.config) of.is
config_stays old new (step.Tick node) shown of = ap (λ (scene : SceneView). scene.config) of.is
config_stays old new (step.Stop node) shown plays = stop_stays old new node shown (is_up old.run node) plays
config_stays old new (step.Deliver number) shown of = ap (λ (scene : SceneView). scene.config) of.is

played : (old : SceneView) (book : Book) → Stands old book → IsCluster old.config → (steps : List Step) (outputs : List Output) (new : SceneView) → PlaysAll old steps outputs new → Played old book steps outputs new
played old book stands cluster_is [] outputs new plays =
    record { moments = []; steps_are = refl; shown_are = sym plays.0; plays = plays.1; after = book; is_book = refl; right = stands.right }
played old book stands cluster_is (made ∷ steps) outputs new (next, shown, others, first, more, are) =
    let one = written old book stands cluster_is shown next made first in
    let config : next.config ≡ old.config = config_stays old next made shown first in
    let then_stands : Stands next one.after =
    record { rule = plays_well old cluster_is stands.rule made shown next first; well = plays_followed old cluster_is stands.rule stands.well shown next made first; rise = one.rise; booked = one.booked; owners = one.owners; right = one.right } in
    let rest = played next one.after then_stands (subst IsCluster (sym config) cluster_is) steps others new more in
    let moment : Moment = record { step = made; shown = shown; executed = one.executions } in
    record {
      moments = moment ∷ rest.moments;
      steps_are = ap (λ (them : List Step). made ∷ them) rest.steps_are;
      shown_are = ap (λ (them : List Output). shown ++ them) rest.shown_are ∙ sym are;
      plays = (next, first, have_reasons old cluster_is stands.rule stands.well shown next made first, one.adds, rest.plays);
      after = rest.after;
      is_book = (one.after, one.writes, rest.is_book);
      right = rest.right;
    }

pub answers_are_final : FinalAnswers
answers_are_final config steps outputs scene cluster_is plays =
    let none : Stands (first_scene config) [] = record { rule = first_rule config; well = first_followed config; rise = tt; booked = tt; owners = λ number missing. refl; right = tt } in
    let done = played (first_scene config) [] none cluster_is steps outputs scene plays in
    record { moments = done.moments; steps_are = done.steps_are; shown_are = done.shown_are; plays = done.plays; book = done.after; is_book = done.is_book; right = done.right }

-- what is played keeps the rule, and all clients can follow what they are answered
record Reached (scene : SceneView) : Type 0 where
  cluster_is : IsCluster scene.config
  rule : KeepsRule scene
  well : AllFollowWell scene

reached : (old : SceneView) → Reached old → (steps : List Step) (outputs : List Output) (new : SceneView) → PlaysAll old steps outputs new → Reached new
reached old was [] outputs new plays = subst Reached (sym plays.1) was
reached old was (made ∷ steps) outputs new (next, shown, others, first, more, are) =
    reached next
    (record {
      cluster_is = subst IsCluster (sym (config_stays old next made shown first)) was.cluster_is;
      rule = plays_well old was.cluster_is was.rule made shown next first;
      well = plays_followed old was.cluster_is was.rule was.well shown next made first;
    })
    steps others new more

pub have_reasons_behind : AnswersHaveReasons
have_reasons_behind config steps outputs old cluster_is plays made shown new step =
    let then_reached = reached (first_scene config) (record { cluster_is = cluster_is; rule = first_rule config; well = first_followed config }) steps outputs old plays in
    have_reasons old then_reached.cluster_is then_reached.rule then_reached.well shown new made step

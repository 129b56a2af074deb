-- Whatever a world plays, its book can be written.
use Rattle.std.proofs.Common.{◌||◌, ◌≡◌, ◌∙◌, ◌&&◌, ◌++◌, ◌∷◌, ℕ, zero, suc, Bool, true, false, true≢false, cond, List, [], length, Option, None, Some, refl, sym, ap, subst, inl, inr}
use Rattle.std.proofs.lemmas.Bool.{cases_Bool}
use Rattle.std.specs.List.{AllByRecursion}
use Rattle.std.specs.Prelude.{MatchBool, slice_get}
use Rattle.connections.specs.declared.conn.Conn.{Conn}
use Rattle.smart_client.specs.Words.{is_refused}
use Rattle.world_run.specs.Executed.{Answered as Execution}
use Rattle.world_nodes.specs.NodeSteps.{Makes, Administers, Delivers, IsAdministered, IsDelivered, IsHeard, IsIdle, Reaches, Ticks, Turns, is_admin, message_at, served_conns}
use Rattle.world_nodes.specs.Nodes.{RunView, is_up}
use Rattle.world_nodes.specs.Outputs.{own_reply}
use Rattle.world_nodes.specs.declared.output.Output.{Output}
use Rattle.world_nodes.specs.declared.output.Output.TheVariants as output
use Rattle.world.specs.Asking.{AsksWell}
use Rattle.world.specs.Clients.{ClientView}
use Rattle.world.specs.declared.step.Step.{Step}
use Rattle.final_answers.specs.Book.{Book, IsRight, Writes, begun}
use Rattle.final_answers.proofs.Adding.{Adds, adds_first, adds_nothing, closes_adds}
use Rattle.final_answers.proofs.Booking.{Booked, IsBooked}
use Rattle.final_answers.proofs.ClientPlaces.{asks_at, numbered_at}
use Rattle.final_answers.proofs.Stepping.{silent_answers, writes_so}
use Rattle.final_answers.proofs.Tallies.{tally}
use Rattle.std.specs.List.{cons_option, find}
use Rattle.std.specs.Str.{str_eq_ignore_ascii_case, str_to_ascii_lowercase}
use Rattle.std.proofs.lemmas.Slice.Eq.{bytes_eq-Decides}
use Rattle.std.proofs.lemmas.Bool.{and_parts}
use Rattle.smart_client.specs.Words.{is_of_cluster}
use Rattle.std.specs.Prelude.{codes}
use Rattle.std.specs.Str.{bytes_eq}
use Rattle.bus.specs.declared.message.Message.{Message}
use Rattle.command_table.specs.Names.{name_text, names}
use Rattle.command_table.specs.declared.names.Name.{Name}
use Rattle.node_step.specs.declared.event.Event.{Event}
use Rattle.node_step.specs.declared.event.Event.TheVariants.{Open, Request, Deliver, Tick}
use Rattle.node_step.specs.declared.outputs.Outputs.{Outputs as NodeOutputs}
use Rattle.node_step.specs.declared.response.Response.{Response}
use Rattle.node_step.specs.declared.response.Response.TheVariants as response
use Rattle.reply_meaning.proofs.Laws.{not_executed}
use Rattle.reply_meaning.specs.Law.{Answers as NodeAnswers}
use Rattle.single_keyspace.proofs.Seen.{no_some, same_some}
use Rattle.world_run.specs.Executed.{answered_with, if_served}
use Rattle.world_run.specs.Run.Deed.{Made, Skipped}
use Rattle.world.specs.Clients.{client_at, place_of}
use Rattle.world.specs.Plays.{ClientStep, IsNothing, IsOfClient, IsOfNodes, IsOfSome}
use Rattle.world.specs.View.{SceneView}
use Rattle.final_answers.proofs.Adding.{done_by, enters_adds}
use Rattle.final_answers.proofs.Scenes.{AllBooked, IsNoneOf, Rise, Stands, all_after, none_before, owner_apart, rise_after}
use Rattle.final_answers.proofs.Stepping.{Silent, beside_silent}
use Rattle.final_answers.proofs.Tallies.{owned}

-- ---- what is left of a step

-- the step is written into the book
pub record Written (old : SceneView) (book : Book) (made : Step) (shown : List Output) (new : SceneView) : Type 0 where
  pub executions : List Execution
  pub adds : Adds old.run new.run executions
  pub after : Book
  pub writes : Writes (record { step = made; shown = shown; executed = executions }) book after
  pub rise : Rise new.clients
  pub booked : AllBooked after new.clients
  pub owners : (number : ℕ) → IsNoneOf number new.clients → tally (owned number) after ≡ 0
  pub right : AllByRecursion IsRight after

-- nothing is written
unwritten : (old new : SceneView) (book : Book) (made : Step) (shown : List Output) → Stands old book → begun made shown ≡ [] → Silent shown → Adds old.run new.run [] → new.clients ≡ old.clients → Written old book made shown new
unwritten old new book made shown stands none silent adds same = record {
  executions = [];
  adds = adds;
  after = book;
  writes = writes_so made shown [] book book book none refl (silent_answers shown book silent);
  rise = subst Rise (sym same) stands.rise;
  booked = subst (AllBooked book) (sym same) stands.booked;
  owners = subst (λ (clients : List ClientView). (number : ℕ) → IsNoneOf number clients → tally (owned number) book ≡ 0) (sym same) stands.owners;
  right = stands.right;
}

pub nothing_written : (old new : SceneView) (book : Book) (made : Step) (shown : List Output) → Stands old book → begun made (output.Nothing ∷ []) ≡ [] → IsNothing old shown new → Written old book made shown new
nothing_written old new book made shown stands none idle =
    unwritten old new book made shown stands (ap (begun made) idle.shows ∙ none) (subst Silent (sym idle.shows) tt)
    (adds_nothing old.run new.run (ap (λ (scene : SceneView). scene.run) idle.unchanged)) (ap (λ (scene : SceneView). scene.clients) idle.unchanged)

-- ---- steps of nodes

-- no command of an event that isn't a request
idle_turn : (old new : RunView) (node : ℕ) (event : Event) (shown : List Output) → ((made : NodeOutputs) → done_by (Made event made) ≡ []) → Turns old node event shown new → Adds old new []
idle_turn old new node event shown none turns =
    adds_first old turns.after new [] (subst (Adds old turns.after) (none turns.made) (enters_adds old turns.after node (Made event turns.made) turns.makes))
    (closes_adds turns.after new node (served_conns event turns.made) turns.closes)

own_silent : (node : ℕ) (reply : Response) (rest : List Output) → Silent rest → Silent (own_reply node reply ++ rest)
own_silent node (response.Replied answer) rest silent = silent
own_silent node response.Nothing rest silent = silent
own_silent node (response.Opened conn) rest silent = silent
own_silent node response.Parked rest silent = silent

turn_silent : (old new : RunView) (node : ℕ) (event : Event) (shown : List Output) → Turns old node event shown new → Silent shown
turn_silent old new node event shown turns =
    subst Silent (sym turns.shows) (own_silent node turns.made.response _ (beside_silent node (length old.sent) turns.made.sent turns.made))

-- what nodes do without a client executes nothing, and answers no client
abbrev Quietly : RunView → List Output → RunView → Type 0
Quietly old shown new = Adds old new [] × Silent shown

idle_quiet : (old new : RunView) (shown : List Output) → IsIdle old shown new → Quietly old shown new
idle_quiet old new shown idle = (adds_nothing old new idle.unchanged, subst Silent (sym idle.shows) tt)

-- an event that isn't a request, made or skipped
reach_quiet : (old new : RunView) (node : ℕ) (event : Event) (shown : List Output) → ((made : NodeOutputs) → done_by (Made event made) ≡ []) → Reaches old node event shown new → Quietly old shown new
reach_quiet old new node event shown none (inl turns) = (idle_turn old new node event shown none turns, turn_silent old new node event shown turns)
reach_quiet old new node event shown none (inr passed) = (enters_adds old new node Skipped passed.skips.enters, subst Silent (sym passed.shows) tt)

pub ticks_quiet : (old new : RunView) (node : ℕ) (shown : List Output) → Ticks old node shown new → Quietly old shown new
ticks_quiet old new node shown = by_up (is_up old node)
  where
    by_up : (up : Bool) → MatchBool up (Reaches old node Tick shown new) (IsIdle old shown new) → Quietly old shown new
    by_up true reaches = reach_quiet old new node Tick shown (λ made. refl) reaches
    by_up false idle = idle_quiet old new shown idle

pub delivers_quiet : (old new : RunView) (number : ℕ) (shown : List Output) → Delivers old number shown new → Quietly old shown new
delivers_quiet old new number shown = by_message (message_at old.sent number)
  where
    by_up : (message : Message) (up : Bool) → MatchBool up (Reaches old message.to (Deliver message) shown new) (IsIdle old shown new) → Quietly old shown new
    by_up message true reaches = reach_quiet old new message.to (Deliver message) shown (λ made. refl) reaches
    by_up message false idle = idle_quiet old new shown idle

    by_message : (message : Option Message) → IsDelivered old message shown new → Quietly old shown new
    by_message None idle = idle_quiet old new shown idle
    by_message (Some message) delivered = by_up message (is_up old message.to) delivered

-- what is executed by a request about the cluster
refused_adds : (old new : RunView) (node : ℕ) (conn : Conn) (words : List (List ℕ)) (made : NodeOutputs) → is_refused words ≡ true → Makes old node (Request conn words) made new → Adds old new []
refused_adds old new node conn words made refused makes =
    subst (Adds old new) (by_response made.response refl) (enters_adds old new node (Made (Request conn words) made) makes)
  where
    by_response : (reply : Response) → made.response ≡ reply → done_by (Made (Request conn words) made) ≡ []
    by_response (response.Replied answer) is =
        let answers : NodeAnswers makes.enters.step.before conn words answer =
        record { ticket = makes.enters.ticket; outputs = made; after = makes.enters.step.after; step = makes.enters.step.leads.1; response = is } in
        let idle = not_executed makes.enters.step.before conn words answer answers refused in
        ap (λ (r : Response). cons_option (if_served (answered_with words r)) []) is
        ∙ ap (λ (b : Bool). cons_option (cond b (Some (record { words = words; answer = answer })) None) []) idle
    by_response response.Nothing is = ap (λ (r : Response). cons_option (if_served (answered_with words r)) []) is
    by_response (response.Opened other) is = ap (λ (r : Response). cons_option (if_served (answered_with words r)) []) is
    by_response response.Parked is = ap (λ (r : Response). cons_option (if_served (answered_with words r)) []) is

-- an administrator's words are about the cluster
abbrev by_name : List ℕ → Bool
by_name lowered = is_of_cluster (find (λ (name : Name). bytes_eq lowered (str_to_ascii_lowercase (name_text name))) names)

admin_refused : (words : List (List ℕ)) → is_admin words ≡ true → is_refused words ≡ true
admin_refused [] is = absurd (true≢false (sym is))
admin_refused (name ∷ words) is =
    elim (cases_Bool (str_eq_ignore_ascii_case name (codes "cluster"))) [
      | inl cluster ↦ ap by_name ((bytes_eq-Decides (str_to_ascii_lowercase name) (str_to_ascii_lowercase (codes "cluster"))).0 cluster)
      | inr other ↦
          let migrate : str_eq_ignore_ascii_case name (codes "migrate") ≡ true = sym (ap (λ (b : Bool). b || str_eq_ignore_ascii_case name (codes "migrate")) other) ∙ is in
          ap by_name ((bytes_eq-Decides (str_to_ascii_lowercase name) (str_to_ascii_lowercase (codes "migrate"))).0 migrate)
    ]

pub administers_quiet : (old new : RunView) (node : ℕ) (words : List (List ℕ)) (shown : List Output) → Administers old node words shown new → Quietly old shown new
administers_quiet old new node words shown = by_may (is_up old node && is_admin words) refl
  where
    heard_so : (opened : RunView) (conn : Conn) → is_refused words ≡ true → IsHeard opened node conn words shown new → Quietly opened shown new
    heard_so opened conn refused (inl turns) = (
      adds_first opened turns.after new [] (refused_adds opened turns.after node conn words turns.made refused turns.makes)
          (closes_adds turns.after new node (served_conns (Request conn words) turns.made) turns.closes),
      turn_silent opened new node (Request conn words) shown turns,
    )
    heard_so opened conn refused (inr no_number) = (
      adds_first opened no_number.after new [] (enters_adds opened no_number.after node Skipped no_number.skips.enters) (closes_adds no_number.after new node (conn ∷ []) no_number.closes),
      subst Silent (sym no_number.shows) tt,
    )

    administered_so : is_refused words ≡ true → IsAdministered old node words shown new → Quietly old shown new
    administered_so refused (inl asked) =
        let heard = heard_so asked.opened asked.conn refused asked.hears in
        (adds_first old asked.opened new [] (enters_adds old asked.opened node (Made Open asked.opening) asked.opens) heard.0, heard.1)
    administered_so refused (inr away) = (enters_adds old new node Skipped away.skips.enters, subst Silent (sym away.shows) tt)

    by_may : (may : Bool) → (is_up old node && is_admin words) ≡ may → MatchBool may (IsAdministered old node words shown new) (IsIdle old shown new) → Quietly old shown new
    by_may true is made = administered_so (admin_refused words (and_parts (is_up old node) (is_admin words) is).1) made
    by_may false is idle = idle_quiet old new shown idle

-- ---- one client's step

pub booked_at : (book : Book) (clients : List ClientView) (place : ℕ) (client : ClientView) → slice_get clients place ≡ Some client → AllBooked book clients → IsBooked book client
booked_at book [] place client is all = absurd (no_some refl is)
booked_at book (first ∷ clients) zero client is all = subst (IsBooked book) (same_some refl is) all.0
booked_at book (first ∷ clients) (suc place) client is all = booked_at book clients place client is all.1

module _ (old : SceneView) (book : Book) (stands : Stands old book) (made : Step) (shown : List Output) (new : SceneView) where
  pub of_nodes : (does : RunView → List Output → RunView → Type 0) → begun made shown ≡ [] → ((run : RunView) → does old.run shown run → Quietly old.run shown run) → IsOfNodes does old shown new → Written old book made shown new
  of_nodes does none quiet of =
      let quietly = quiet of.run of.steps in
      unwritten old new book made shown stands none quietly.1 (subst (λ (scene : SceneView). Adds old.run scene.run []) (sym of.is) quietly.0) (ap (λ (scene : SceneView). scene.clients) of.is)

  pub of_client : (does : ClientStep) (clients : List ClientView) (place : ℕ) → Rise clients → AllBooked book clients → ((number : ℕ) → IsNoneOf number clients → tally (owned number) book ≡ 0)
      → (of : IsOfClient does clients place old shown new) → ((executions : List Execution) × Adds old.run of.run executions × Booked made shown executions book of.client of.after) → Written old book made shown new
  of_client does clients place rise all none of (executions, adds, booked) =
      subst (Written old book made shown) (sym of.is)
      (record {
        executions = executions;
        adds = adds;
        after = booked.new;
        writes = booked.writes;
        rise = rise_after of.client of.after booked.number_is clients place of.was rise;
        booked = all_after of.client of.after booked.number_is book booked.new booked.touches booked.booked clients place of.was rise all;
        owners = λ number missing.
            let before = none_before of.client of.after booked.number_is number clients place of.was missing in
            owner_apart of.client.number book booked.new booked.touches number before.1 ∙ none number before.0;
        right = booked.right stands.right;
      })

  -- the client that has begun
  pub of_some : (does : ClientStep) (number : ℕ) → begun made (output.Nothing ∷ []) ≡ []
      → ((client : ClientView) (run : RunView) (after : ClientView) → client.number ≡ number → IsBooked book client → AsksWell old.config.nodes old.run client → does old.run client shown run after
      → (executions : List Execution) × Adds old.run run executions × Booked made shown executions book client after)
      → (found : Option ClientView) → client_at number old.clients ≡ found → IsOfSome does number found old shown new → Written old book made shown new
  of_some does number none step_so None is idle = nothing_written old new book made shown stands none idle
  of_some does number none step_so (Some client) is of =
      of_client does old.clients (place_of number old.clients) stands.rise stands.booked stands.owners of
      (step_so of.client of.run of.after (numbered_at number old.clients client of.client is of.was) (booked_at book old.clients (place_of number old.clients) of.client of.was stands.booked)
      (asks_at old.config.nodes old.run old.clients (place_of number old.clients) of.client of.was stands.rule.clients) of.steps)

-- What requests of clients leave of their connections, and what the replies to them tell.
use Rattle.std.proofs.Common.{◌≡◌, ◌⊎◌, ◌<◌, ◌∙◌, ◌==◌, ◌&&◌, not, ℕ, zero, suc, Bool, true, false, true≢false, List, [], ◌∷◌, Contains, Option, None, Some, Result, Ok, get_or, length, refl, sym, ap, subst, inl, inr, arith}
use Rattle.std.proofs.lemmas.Bool.{and_parts, eq-eqb}
use Rattle.std.proofs.lemmas.List.{reverse-reverse}
use Rattle.std.proofs.lemmas.List.Sums.{position_or_len_is}
use Rattle.std.proofs.lemmas.Option.{get_or_from_slice_get, slice_get_within}
use Rattle.std.proofs.lemmas.Slice.Eq.{bytes_eq-Decides}
use Rattle.std.specs.List.{list_all}
use Rattle.std.specs.Prelude.{IfSome, slice_get}
use Rattle.cluster_config.specs.Config.{ClusterConfig, IsCluster, all_pairs, is_elsewhere}
use Rattle.cluster_config.specs.declared.config.NodeConfig.{NodeConfig}
use Rattle.command_table.specs.Table.{command_of}
use Rattle.command_table.specs.declared.command.ClusterCommand.TheVariants as cluster
use Rattle.command_table.specs.declared.command.Command.{Command}
use Rattle.command_table.specs.declared.command.Command.TheVariants.{Cluster}
use Rattle.command_table.specs.declared.error_line.ErrorLine.TheVariants.{Exhausted}
use Rattle.command_table.specs.declared.fault.CommandFault.{CommandFault}
use Rattle.connections.specs.declared.conn.Conn.{Conn}
use Rattle.node_step.specs.Orders.{done}
use Rattle.node_step.specs.Outcome.{error}
use Rattle.node_step.specs.Requests.{asking_for}
use Rattle.node_step.specs.State.{NodeState}
use Rattle.node_step.specs.declared.event.Event.TheVariants.{Request}
use Rattle.node_step.specs.declared.outputs.Outputs.{Outputs}
use Rattle.node_step.specs.declared.response.Answer.{Answer}
use Rattle.node_step.specs.declared.response.Response.{Response}
use Rattle.node_step.specs.declared.response.Response.TheVariants.{Nothing, Opened, Replied, Parked}
use Rattle.redirection.specs.Address.{Place}
use Rattle.redirection.specs.Redirection.{IsMove}
use Rattle.reply_meaning.proofs.Asks.{line_is_none, of_moves}
use Rattle.reply_meaning.proofs.Laws.{asking_is, welcome}
use Rattle.reply_meaning.proofs.Reasons.{have_reasons, need_offsets_alone}
use Rattle.reply_meaning.proofs.Words.{IsOfData, data_words}
use Rattle.reply_meaning.specs.Law.{Answers, HasNoOffset, IsOfClient, IsOfMove, Prepares}
use Rattle.reply_meaning.specs.Law.IsOfClient.{command as plain_command, numbers as plain_numbers, asks as plain_asks}
use Rattle.reply_meaning.specs.Law.Prepares.{numbers as prepares_numbers, asks as prepares_asks}
use Rattle.reply_meaning.specs.Reasons.{IsReason}
use Rattle.resp_values.specs.declared.reply.Reply.{Reply}
use Rattle.single_keyspace.proofs.Lists.{each_element}
use Rattle.single_keyspace.proofs.Seen.{set_here}
use Rattle.redirect.specs.declared.asked.Asking.{Asking}
use Rattle.redirect.specs.declared.asked.Asking.TheVariants.{No, Any, Of}
use Rattle.smart_client.specs.Words.{is_refused, numbered_words}
use Rattle.smart_client.specs.declared.call.Call.{Call}
use Rattle.smart_client.specs.declared.call.Stage.{Stage}
use Rattle.smart_client.specs.declared.call.Stage.TheVariants as stage
use Rattle.world_run.specs.Executed.{Redirection, answered, answered_with, decision_in, redirected, redirection_in}
use Rattle.world_run.specs.Run.{Entry, Goes, first_nodes}
use Rattle.world_run.specs.Run.Deed.{Made, Skipped}
use Rattle.world_nodes.specs.Allowed.{IsAllowed, IsTold, asking_at, asking_in, past_of}
use Rattle.world_nodes.specs.NodeSteps.{released_conns}
use Rattle.world_nodes.specs.Nodes.{HaveConfig, IsRunOf, RunView}
use Rattle.world_nodes.specs.Serving.{IsServed, IsSkipped, Serves, reply_in}
use Rattle.world_nodes.specs.declared.link.Link.{Link}
use Rattle.world_nodes.specs.declared.output.Output.{Output}
use Rattle.world_nodes.proofs.Connected.{IsAskingWords, IsCalm, asking_on, request_uses_up}
use Rattle.world_nodes.proofs.Leaving.{ChangedBy, Leaves, closes_leaves, entered_now, enters_leaves, entry_now, leaves_further, leaves_more, leaves_none, none_changed, past_is, skips_leaves, tells_now}
use Rattle.world.specs.Asking.{ComesFrom, Follows, HadNoOffset, IsAsking, IsReplied, IsSent, TellsTruth, WasAnswered, WasRefused}
use Rattle.world.specs.Clients.{is_at, node_at}
use Rattle.world.proofs.Stays.{no_stays, still_calm}

-- ---- addresses

is_there : (place : Place) (node : NodeConfig) → place ≡ record { host = node.host; port = node.port } → is_at place node ≡ true
is_there place node is =
    ap (λ (p : Place). is_at p node) is
    ∙ ap (λ (b : Bool). b && (node.port == node.port)) ((bytes_eq-Decides node.host node.host).1 refl)
    ∙ eq-eqb node.port node.port refl

-- the nodes before one have other addresses
others_before : (nodes : List NodeConfig) (number : ℕ) (node : NodeConfig) → all_pairs is_elsewhere nodes ≡ true → slice_get nodes number ≡ Some node → (before : ℕ) → before < number
    → is_at (record { host = node.host; port = node.port }) (get_or nodes before node) ≡ false
others_before [] number node apart is before below = absurd (cc)
others_before (first ∷ nodes) zero node apart is before below = absurd (omega (arith, below))
others_before (first ∷ nodes) (suc number) node apart is zero below =
    let parts = and_parts (list_all (is_elsewhere first) nodes) (all_pairs is_elsewhere nodes) apart in
    let among : Contains nodes node = (number, slice_get_within nodes number node is, get_or_from_slice_get nodes number node node is) in
    not_elsewhere (is_at (record { host = node.host; port = node.port }) first) (each_element (is_elsewhere first) nodes node parts.0 among)
  where
    not_elsewhere : (same : Bool) → not same ≡ true → same ≡ false
    not_elsewhere true is = absurd (true≢false (sym is))
    not_elsewhere false is = refl
others_before (first ∷ nodes) (suc number) node apart is (suc before) below =
    others_before nodes number node (and_parts (list_all (is_elsewhere first) nodes) (all_pairs is_elsewhere nodes) apart).1 is before (omega (arith, below))

-- a node is found by its address
pub found_by_address : (nodes : List NodeConfig) (number : ℕ) (node : NodeConfig) (place : Place) → all_pairs is_elsewhere nodes ≡ true → slice_get nodes number ≡ Some node
    → place ≡ record { host = node.host; port = node.port } → node_at nodes place ≡ number
found_by_address nodes number node place apart is there =
    let within : number < length nodes = slice_get_within nodes number node is in
    let here : Place = record { host = node.host; port = node.port } in
    ap (node_at nodes) there
    ∙ position_or_len_is (is_at here) nodes number node (omega (arith, within)) (others_before nodes number node apart is)
    (λ (below : number < length nodes). ap (is_at here) (get_or_from_slice_get nodes number node node is) ∙ is_there here node refl)

-- ---- words

-- a command about data is no ASKING
data_is_no_asking : (words : List (List ℕ)) → is_refused words ≡ false → IsAskingWords words → ⊥
data_is_no_asking words plain (number, is) = no_order (command_of words) is (data_words words plain)
  where
    no_order : (command : Result Command CommandFault) → command ≡ Ok (Cluster (cluster.Asking number)) → IsOfData command → ⊥
    no_order command is of = elim (subst IsOfData is of) [ ]

numbered_is_no_asking : (words : List (List ℕ)) → words ≡ numbered_words → IsAskingWords words → ⊥
numbered_is_no_asking words is (number, asks) =
    let command : command_of words ≡ Ok (Cluster cluster.Numbered) = ap command_of is in
    other (sym command ∙ asks)
  where
    other : ◌≡◌ {A = Result Command CommandFault} (Ok (Cluster cluster.Numbered)) (Ok (Cluster (cluster.Asking number))) → ⊥
    other same = cc

-- what ASKING allows is the move that it names
asking_allows : (asked : Option ℕ) (words : List (List ℕ)) (number : Option ℕ) (asking : Asking) → IsMove asked → IsAsking asked words → command_of words ≡ Ok (Cluster (cluster.Asking number))
    → asking ≡ asking_for number → Follows asked asking
asking_allows None words number asking move is command allows = absurd is
asking_allows (Some named) words number asking move is command allows =
    let read : command_of words ≡ Ok (Cluster (cluster.Asking (Some named))) = ap command_of is ∙ asking_is named move in
    let same : number ≡ Some named = same_number (sym command ∙ read) in
    subst (Follows (Some named)) (sym (allows ∙ ap asking_for same)) refl
  where
    same_number : {one other : Option ℕ} → ◌≡◌ {A = Result Command CommandFault} (Ok (Cluster (cluster.Asking one))) (Ok (Cluster (cluster.Asking other))) → one ≡ other
    same_number is = cc

-- ---- a request that a node answers

-- what a call sends is a client's words
pub words_of_client : (call : Call) (at : Stage) (words : List (List ℕ)) (asking : Asking) → is_refused call.words ≡ false → IsSent call at words asking → IsOfClient words
words_of_client call stage.Connecting words asking plain sent = absurd sent
words_of_client call stage.Introducing words asking plain sent = plain_numbers sent.0
words_of_client call stage.Asking words asking plain sent = by_number call.asking sent.0
  where
    by_number : (asked : Option ℕ) → IsAsking asked words → IsOfClient words
    by_number None is = absurd is
    by_number (Some number) is = plain_asks number is
words_of_client call stage.Sent words asking plain sent = plain_command (ap is_refused sent.0 ∙ plain)

-- what is changed is the connection of the request, by ASKING
abbrev pub AskedOn : Link → List (List ℕ) → Link → Type 0
AskedOn link words other = (other ≡ link) × IsAskingWords words

serves_changes : (node : ℕ) (conn : Conn) (words : List (List ℕ)) (outputs : Outputs) (link : Link) → ChangedBy node (Made (Request conn words) outputs) link
    → AskedOn (record { node = node; conn = conn }) words link
serves_changes node conn words outputs link (same, asked) = ((λ i. record { node = same i; conn = asked.0 i }), asked.1)

pub serves_leaves : (old new : RunView) (node : ℕ) (conn : Conn) (words : List (List ℕ)) (reply : Option Reply) (outputs : List Output) → Serves old node conn words reply outputs new
    → Leaves (AskedOn (record { node = node; conn = conn }) words) old new
serves_leaves old new node conn words reply outputs (inl served) =
    leaves_further _ old served.after new
    (leaves_more _ _ old served.after (serves_changes node conn words served.made) (enters_leaves old served.after node (Made (Request conn words) served.made) served.makes))
    (leaves_none _ served.after new (closes_leaves served.after new node (released_conns served.made.released) served.closes))
serves_leaves old new node conn words reply outputs (inr skipped) = leaves_none _ old new (skips_leaves old new node skipped.skips.enters)

in_some : {A : Type 0} {one other : A} → Some one ≡ Some other → one ≡ other
in_some is = cc

replied_in : (response : Response) (reply : Reply) → Some reply ≡ reply_in response → (answer : Answer) × (response ≡ Replied answer) × (answer.reply ≡ reply)
replied_in (Replied answer) reply is = (answer, refl, cc)
replied_in Nothing reply is = absurd (cc)
replied_in (Opened conn) reply is = absurd (cc)
replied_in Parked reply is = absurd (cc)

module _ (config : ClusterConfig) (cluster_is : IsCluster config) (old : RunView) (have : HaveConfig config old.nodes) (run_of : IsRunOf config old) (node : ℕ) (conn : Conn) (words : List (List ℕ)) (reply : Reply) (outputs : List Output) (new : RunView) where
  abbrev here : Link
  here = record { node = node; conn = conn }

  module _ (served : IsServed old node conn words (Some reply) outputs new) where
    given : (answer : Answer) × (served.made.response ≡ Replied answer) × (answer.reply ≡ reply)
    given = replied_in served.made.response reply served.replies

    after_is : slice_get served.after.nodes node ≡ Some served.makes.enters.step.after
    after_is =
        ap (λ (nodes : List NodeState). slice_get nodes node) served.makes.enters.step.is
        ∙ set_here old.nodes node served.makes.enters.step.before served.makes.enters.step.after served.makes.enters.step.was

    closes : Leaves none_changed served.after new
    closes = closes_leaves served.after new node (released_conns served.made.released) served.closes

    asking_then : asking_on served.makes.enters.step.after conn ≡ asking_at served.after here
    asking_then = sym (ap (λ (s : Option NodeState). asking_in s conn) after_is)

    -- what its connection allows then: nothing, or what ASKING says
    uses_up : (asking_at new here ≡ No) ⊎ ((number : Option ℕ) × (command_of words ≡ Ok (Cluster (cluster.Asking number))) × (asking_at new here ≡ asking_for number))
    uses_up =
        elim (request_uses_up served.makes.enters.ticket served.makes.enters.step.before served.makes.enters.step.after conn words served.made given.0 served.makes.enters.step.leads.1 given.1) [
          | inl none ↦ inl (no_stays (asking_at served.after here) (asking_at new here) later (sym asking_then ∙ none))
          | inr asked ↦
              elim later [
                | inl same ↦ inr (asked.0, asked.1, same ∙ sym asking_then ∙ asked.2)
                | inr none ↦ inl none
              ]
        ]
      where
        later : IsCalm (asking_at served.after here) (asking_at new here)
        later = still_calm none_changed served.after new closes here (λ none. none)

    answers : Answers served.makes.enters.step.before conn words given.0
    answers = record {
      ticket = served.makes.enters.ticket;
      outputs = served.made;
      after = served.makes.enters.step.after;
      step = served.makes.enters.step.leads.1;
      response = given.1;
    }

    -- and what an ASK tells
    told_truly : TellsTruth config.nodes (past_of new) words reply
    told_truly text slot place number is tells =
        let step = served.makes.enters.step in
        let moves : IsOfMove step.before slot place number (decision_in given.0.why) = of_moves step.before conn words given.0 text slot place number answers (given.2 ∙ is) tells in
        let config_is : slice_get config.nodes moves.to ≡ Some moves.config =
        ap (λ (c : ClusterConfig). slice_get c.nodes moves.to) (sym (have node step.before step.was)) ∙ moves.is_node in
        let found : node_at config.nodes place ≡ moves.to = found_by_address config.nodes moves.to moves.config place cluster_is.addresses config_is moves.is_there in
        let redirection : Redirection = record { words = words; to = moves.to; number = number } in
        let tells_it : redirection_in (answered (Made (Request conn words) served.made)) ≡ Some redirection =
        ap (λ (r : Response). redirection_in (answered_with words r)) given.1 ∙ ap (redirected words) moves.decision in
        subst (λ (to : ℕ). IsTold (past_of new) words to number) (sym found)
        (closes.told words moves.to number (tells_now old served.after node (Made (Request conn words) served.made) served.makes redirection tells_it))

    replied_if_served : (call : Call) (at : Stage) → is_refused call.words ≡ false → IsMove call.asking → IsSent call at words (asking_at old here)
        → IsReplied config.nodes (past_of new) call at reply (asking_at new here)
    replied_if_served call stage.Connecting plain move sent = absurd sent
    replied_if_served call stage.Introducing plain move sent =
        elim uses_up [
          | inl none ↦ none
          | inr asked ↦ absurd (numbered_is_no_asking words sent.0 (asked.0, asked.1))
        ]
    replied_if_served call stage.Asking plain move sent =
        elim uses_up [
          | inl none ↦ subst (Follows call.asking) (sym none) tt
          | inr asked ↦ asking_allows call.asking words asked.0 (asking_at new here) move sent.0 asked.1 asked.2
        ]
    replied_if_served call stage.Sent plain move sent = (
      elim uses_up [
        | inl none ↦ inl none
        | inr asked ↦ absurd (data_is_no_asking words (ap is_refused sent.0 ∙ plain) (asked.0, asked.1))
      ],
      subst (λ (ws : List (List ℕ)). TellsTruth config.nodes (past_of new) ws reply) sent.0 told_truly,
    )

    -- the entry of the step gives it
    was_answered : is_refused words ≡ false → WasAnswered config.nodes (past_of new) node words reply
    was_answered plain =
        let step = served.makes.enters.step in
        record {
          entry = entry_now old served.after node (Made (Request conn words) served.made) served.makes;
          among = closes.entered _ (entered_now old served.after node (Made (Request conn words) served.made) served.makes);
          there = refl;
          answer = given.0;
          gives = ap (answered_with words) given.1;
          same = given.2;
          reason = λ text is.
              subst (λ (c : ClusterConfig). IsReason c.nodes text given.0.why) (have node step.before step.was)
              (have_reasons step.before conn words given.0 text answers plain (given.2 ∙ is));
        }

    is_welcome : Prepares words → reply ≡ done
    is_welcome prepares = sym given.2 ∙ welcome served.makes.enters.step.before conn words given.0 answers prepares

    comes_if_served : (call : Call) (at : Stage) → is_refused call.words ≡ false → IsMove call.asking → IsSent call at words (asking_at old here) → ComesFrom config.nodes new here call at reply
    comes_if_served call stage.Connecting plain move sent = absurd sent
    comes_if_served call stage.Introducing plain move sent = is_welcome (prepares_numbers sent.0)
    comes_if_served call stage.Asking plain move sent = by_number call.asking move sent.0
      where
        by_number : (asked : Option ℕ) → IsMove asked → IsAsking asked words → reply ≡ done
        by_number None move is = absurd is
        by_number (Some number) move is = is_welcome (prepares_asks number move is)
    comes_if_served call stage.Sent plain move sent =
        inl (subst (λ (ws : List (List ℕ)). WasAnswered config.nodes (past_of new) node ws reply) sent.0 (was_answered (ap is_refused sent.0 ∙ plain)))

  module _ (skipped : IsSkipped old node conn words (Some reply) outputs new) where
    skip_leaves : Leaves none_changed old new
    skip_leaves = skips_leaves old new node skipped.skips.enters

    skip_calm : IsCalm (asking_at old here) (asking_at new here)
    skip_calm = still_calm none_changed old new skip_leaves here (λ none. none)

    exhausted : reply ≡ error Exhausted
    exhausted = in_some skipped.replies

    -- the node and its stream then
    abbrev before : NodeState
    before = skipped.skips.enters.enters.step.before

    had_none : HasNoOffset before conn words → HadNoOffset config (past_of new) here words
    had_none has = record {
      earlier = past_of old;
      later = [];
      ticket = skipped.skips.enters.enters.ticket;
      skipped = past_is old new node Skipped skipped.skips.enters;
      nodes = old.nodes;
      goes = subst (λ (entries : List Entry). Goes [] (first_nodes config) entries old.nodes) (sym (reverse-reverse old.entries)) run_of;
      state = before;
      was = skipped.skips.enters.enters.step.was;
      none = has.none;
    }

    was_refused : HasNoOffset before conn words → WasRefused new here words reply
    was_refused has = record { config = config; have = skip_leaves.configs config have; had = had_none has; same = exhausted }

    -- what is sent in front of a command needs no offset
    comes_if_skipped : (call : Call) (at : Stage) → is_refused call.words ≡ false → IsSent call at words (asking_at old here) → ComesFrom config.nodes new here call at reply
    comes_if_skipped call at plain sent =
        by_stage at sent (need_offsets_alone before conn words (words_of_client call at words (asking_at old here) plain sent) skipped.skips.why)
      where
        by_number : (asked : Option ℕ) → IsAsking asked words → is_refused words ≡ false → reply ≡ done
        by_number None is other = absurd is
        by_number (Some number) is other = absurd (true≢false (sym (ap is_refused is) ∙ other))

        by_stage : (at : Stage) → IsSent call at words (asking_at old here) → HasNoOffset before conn words → ComesFrom config.nodes new here call at reply
        by_stage stage.Connecting sent has = absurd sent
        by_stage stage.Introducing sent has = absurd (true≢false (sym (ap is_refused sent.0) ∙ has.plain))
        by_stage stage.Asking sent has = by_number call.asking sent.0 has.plain
        by_stage stage.Sent sent has = inr (subst (λ (ws : List (List ℕ)). WasRefused new here ws reply) sent.0 (was_refused has))

    replied_if_skipped : (call : Call) (at : Stage) → IsSent call at words (asking_at old here) → IsReplied config.nodes (past_of new) call at reply (asking_at new here)
    replied_if_skipped call stage.Connecting sent = absurd sent
    replied_if_skipped call stage.Introducing sent = no_stays (asking_at old here) (asking_at new here) skip_calm sent.1
    replied_if_skipped call stage.Asking sent = subst (Follows call.asking) (sym (no_stays (asking_at old here) (asking_at new here) skip_calm sent.1)) tt
    replied_if_skipped call stage.Sent sent = (inr exhausted, λ text slot place number is tells. absurd (line_is_none Exhausted text slot place number (sym exhausted ∙ is) tells))

  -- the reply to a request of a call
  pub replied_so : (call : Call) (at : Stage) → is_refused call.words ≡ false → IsMove call.asking → IsSent call at words (asking_at old here) → Serves old node conn words (Some reply) outputs new
      → IsReplied config.nodes (past_of new) call at reply (asking_at new here)
  replied_so call at plain move sent (inl served) = replied_if_served served call at plain move sent
  replied_so call at plain move sent (inr skipped) = replied_if_skipped skipped call at sent

  -- where it comes from: a node makes a step for what a client sends, or its stream has no offset for what the command writes
  pub comes_so : (call : Call) (at : Stage) → is_refused call.words ≡ false → IsMove call.asking → IsSent call at words (asking_at old here) → Serves old node conn words (Some reply) outputs new
      → ComesFrom config.nodes new here call at reply
  comes_so call at plain move sent (inl served) = comes_if_served served call at plain move sent
  comes_so call at plain move sent (inr skipped) = comes_if_skipped skipped call at plain sent

-- ---- a request that a client sends is one that it may send

pub sent_is_allowed : (past : List Entry) (words : List (List ℕ)) (node : ℕ) (call : Call) (at : Stage) (asking : Asking) → IfSome call.asking (IsTold past call.words node) → IsSent call at words asking
    → IsAllowed past words node asking
sent_is_allowed past words node call stage.Connecting asking told sent = absurd sent
sent_is_allowed past words node call stage.Introducing asking told sent = subst (IsAllowed past words node) (sym sent.1) tt
sent_is_allowed past words node call stage.Asking asking told sent = subst (IsAllowed past words node) (sym sent.1) tt
sent_is_allowed past words node call stage.Sent asking told sent =
    subst (λ (ws : List (List ℕ)). IsAllowed past ws node asking) (sym sent.0) (by_asking asking sent.1)
  where
    by_asking : (asking : Asking) → Follows call.asking asking → IsAllowed past call.words node asking
    by_asking No follows = tt
    by_asking Any follows = absurd follows
    by_asking (Of number) follows = subst (λ (asked : Option ℕ). IfSome asked (IsTold past call.words node)) follows told

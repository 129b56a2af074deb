-- Changes of a node, and a draft that is made.
use Rattle.std.proofs.Common.{◌≡◌, ◌≤◌, ◌+◌, ◌-◌, ℕ, List, [], ◌∷◌, length, Option, Some, None, true≢false, refl, sym, ap, ◌∙◌, subst, arith}
use Rattle.bus.specs.Stream.{StreamView, written}
use Rattle.bus.specs.declared.message.Body.{Body}
use Rattle.migrate.specs.Acknowledging.{frozen_keys}
use Rattle.slot_state.specs.Moves.{move_of}
use Rattle.slot_state.specs.declared.copy_id.CopyId.{CopyId}
use Rattle.keyspace.specs.Keyspace.{Keyspace}
use Rattle.keyspace.specs.declared.plans.Plan.{Plan}
use Rattle.node_parts.specs.Becomes.{Becomes, CanBeMade, freed}
use Rattle.node_parts.specs.Drafts.{Comes, Drafts, HasNothing, IsDraftOf, MayCount, Promotes, Records, at_epoch, sends, stamped_draft}
use Rattle.node_parts.specs.Making.{CanMake, GoesOn, IsApplied, IsMade}
use Rattle.node_parts.specs.Succession.{promoted_by, succeeded_by}
use Rattle.node_parts.specs.declared.succession.Succession.{Succession}
use Rattle.node_parts.specs.declared.change.Change.{Change}
use Rattle.node_parts.specs.declared.change.Change.TheVariants.{Nothing, Asks, Allows, Numbers, Keys, Imports, Migrates, Ends, Parks, Freezes, Installs, Frees, Notes, Loses, Wishes, Pauses, Learns, Ages}
use Rattle.node_parts.specs.declared.draft.Draft.{Draft}
use Rattle.node_parts.proofs.Commits.{committed_lies, committed_one}
use Rattle.node_step.specs.Outcome.{Outcome, outputs_of, replied, replied_sending, silent}
use Rattle.node_step.specs.declared.response.Response.TheVariants.{Replied}
use Rattle.node_step.specs.declared.response.Why.{Why}
use Rattle.resp_values.specs.declared.reply.Reply.{Reply}
use Rattle.node_step.specs.Requests.{using_up}
use Rattle.node_step.specs.State.{NodeState, kept_in}
use Rattle.node_step.specs.Streams.{MayGiveUp, Requests, with_written}
use Rattle.repl_stream.specs.Written.{WrittenView, no_writes}
use Rattle.resp2.specs.Stream.{stream_spelling}
use Rattle.node_step.specs.declared.outputs.Outputs.{Outputs}

-- a change that leads somewhere can be made
pub can_be_made : (old : NodeState) (plan : Plan) (change : Change) (new : NodeState) → Becomes old plan change new → CanBeMade old plan change
can_be_made old plan (Keys conn slot) new is = committed_lies slot plan old.keyspace new.keyspace is.keys
can_be_made old plan Nothing new is = tt
can_be_made old plan (Asks conn) new is = tt
can_be_made old plan (Allows conn asking) new is = tt
can_be_made old plan (Numbers conn) new is = tt
can_be_made old plan (Imports conn slot from number) new is = is.none
can_be_made old plan (Migrates conn slot to number) new is = is.none
can_be_made old plan (Ends conn slot epoch) new is = tt
can_be_made old plan (Parks conn wait) new is = tt
can_be_made old plan (Freezes conn keys wait) new is = tt
can_be_made old plan (Installs slot copy) new is = tt
can_be_made old plan (Frees id) new is = tt
can_be_made old plan (Notes from slot number epoch) new is = tt
can_be_made old plan (Loses from claim lost) new is = tt
can_be_made old plan (Wishes conn) new is = tt
can_be_made old plan (Pauses replica) new is = tt
can_be_made old plan (Learns handing) new is = tt
can_be_made old plan Ages new is = tt

-- it leads to one state alone
pub leads_to_one : (old : NodeState) (plan : Plan) (change : Change) (m n : NodeState) → Becomes old plan change m → Becomes old plan change n → m ≡ n
leads_to_one old plan (Keys conn slot) m n one other =
    one.state ∙ ap (λ (keyspace : Keyspace). record (using_up old conn) { keyspace = keyspace }) (committed_one slot plan old.keyspace m.keyspace n.keyspace one.keys other.keys) ∙ sym other.state
leads_to_one old plan Nothing m n one other = one ∙ sym other
leads_to_one old plan (Asks conn) m n one other = one ∙ sym other
leads_to_one old plan (Allows conn asking) m n one other = one ∙ sym other
leads_to_one old plan (Numbers conn) m n one other = one ∙ sym other
leads_to_one old plan (Imports conn slot from number) m n one other = one.state ∙ sym other.state
leads_to_one old plan (Migrates conn slot to number) m n one other = one.state ∙ sym other.state
leads_to_one old plan (Ends conn slot epoch) m n one other = one ∙ sym other
leads_to_one old plan (Parks conn wait) m n one other = one ∙ sym other
leads_to_one old plan (Freezes conn keys wait) m n one other = one ∙ sym other
leads_to_one old plan (Installs slot copy) m n one other = one ∙ sym other
leads_to_one old plan (Frees id) m n one other = one ∙ sym other
leads_to_one old plan (Notes from slot number epoch) m n one other = one ∙ sym other
leads_to_one old plan (Loses from claim lost) m n one other = one ∙ sym other
leads_to_one old plan (Wishes conn) m n one other = one ∙ sym other
leads_to_one old plan (Pauses replica) m n one other = one ∙ sym other
leads_to_one old plan (Learns handing) m n one other = one ∙ sym other
leads_to_one old plan Ages m n one other = one ∙ sym other

-- the epoch stays where frozen keys go
at_any_epoch : (old : NodeState) (epoch : ℕ) (id : CopyId) (keys : Option (List (List ℕ)))
    → at_epoch (freed old id keys) epoch ≡ freed (at_epoch old epoch) id keys
at_any_epoch old epoch id None = refl
at_any_epoch old epoch id (Some keys) = refl

-- no change touches the node's number, the epoch, who copies whom, or the stream
pub record KeepsOwn (old new : NodeState) : Type 0 where
  pub number : new.number ≡ old.number
  pub epoch : new.current_epoch ≡ old.current_epoch
  pub masters : new.masters ≡ old.masters
  pub stream : new.stream ≡ old.stream

freed_keeps : (old : NodeState) (id : CopyId) (keys : Option (List (List ℕ))) → KeepsOwn old (freed old id keys)
freed_keeps old id None = record { number = refl; epoch = refl; masters = refl; stream = refl }
freed_keeps old id (Some keys) = record { number = refl; epoch = refl; masters = refl; stream = refl }

as_other : (old new other : NodeState) → new ≡ other → KeepsOwn old other → KeepsOwn old new
as_other old new other is keeps = subst (λ (node : NodeState). KeepsOwn old node) (sym is) keeps

pub keeps_own : (old : NodeState) (plan : Plan) (change : Change) (new : NodeState) → Becomes old plan change new → KeepsOwn old new
keeps_own old plan (Keys conn slot) new is = as_other old new _ is.state (record { number = refl; epoch = refl; masters = refl; stream = refl })
keeps_own old plan Nothing new is = as_other old new _ is (record { number = refl; epoch = refl; masters = refl; stream = refl })
keeps_own old plan (Asks conn) new is = as_other old new _ is (record { number = refl; epoch = refl; masters = refl; stream = refl })
keeps_own old plan (Allows conn asking) new is = as_other old new _ is (record { number = refl; epoch = refl; masters = refl; stream = refl })
keeps_own old plan (Numbers conn) new is = as_other old new _ is (record { number = refl; epoch = refl; masters = refl; stream = refl })
keeps_own old plan (Imports conn slot from number) new is = as_other old new _ is.state (record { number = refl; epoch = refl; masters = refl; stream = refl })
keeps_own old plan (Migrates conn slot to number) new is = as_other old new _ is.state (record { number = refl; epoch = refl; masters = refl; stream = refl })
keeps_own old plan (Ends conn slot epoch) new is = as_other old new _ is (record { number = refl; epoch = refl; masters = refl; stream = refl })
keeps_own old plan (Parks conn wait) new is = as_other old new _ is (record { number = refl; epoch = refl; masters = refl; stream = refl })
keeps_own old plan (Freezes conn keys wait) new is = as_other old new _ is (record { number = refl; epoch = refl; masters = refl; stream = refl })
keeps_own old plan (Installs slot copy) new is = as_other old new _ is (record { number = refl; epoch = refl; masters = refl; stream = refl })
keeps_own old plan (Frees id) new is = as_other old new _ is (freed_keeps old id (frozen_keys (move_of old.moves id.slot)))
keeps_own old plan (Notes from slot number epoch) new is = as_other old new _ is (record { number = refl; epoch = refl; masters = refl; stream = refl })
keeps_own old plan (Loses from claim lost) new is = as_other old new _ is (record { number = refl; epoch = refl; masters = refl; stream = refl })
keeps_own old plan (Wishes conn) new is = as_other old new _ is (record { number = refl; epoch = refl; masters = refl; stream = refl })
keeps_own old plan (Pauses replica) new is = as_other old new _ is (record { number = refl; epoch = refl; masters = refl; stream = refl })
keeps_own old plan (Learns None) new is = as_other old new _ is (record { number = refl; epoch = refl; masters = refl; stream = refl })
keeps_own old plan (Learns (Some handing)) new is = as_other old new _ is (record { number = refl; epoch = refl; masters = refl; stream = refl })
keeps_own old plan Ages new is = as_other old new _ is (record { number = refl; epoch = refl; masters = refl; stream = refl })

-- the epoch is none of its parts
pub beside_epoch : (old new : NodeState) (epoch : ℕ) (plan : Plan) (change : Change) → Becomes old plan change new → Becomes (at_epoch old epoch) plan change (at_epoch new epoch)
beside_epoch old new epoch plan (Keys conn slot) is = record { keys = is.keys; state = ap (λ node. at_epoch node epoch) is.state }
beside_epoch old new epoch plan Nothing is = ap (λ node. at_epoch node epoch) is
beside_epoch old new epoch plan (Asks conn) is = ap (λ node. at_epoch node epoch) is
beside_epoch old new epoch plan (Allows conn asking) is = ap (λ node. at_epoch node epoch) is
beside_epoch old new epoch plan (Numbers conn) is = ap (λ node. at_epoch node epoch) is
beside_epoch old new epoch plan (Imports conn slot from number) is = record { none = is.none; state = ap (λ node. at_epoch node epoch) is.state }
beside_epoch old new epoch plan (Migrates conn slot to number) is = record { none = is.none; state = ap (λ node. at_epoch node epoch) is.state }
beside_epoch old new epoch plan (Ends conn slot own) is = ap (λ node. at_epoch node epoch) is
beside_epoch old new epoch plan (Parks conn wait) is = ap (λ node. at_epoch node epoch) is
beside_epoch old new epoch plan (Freezes conn keys wait) is = ap (λ node. at_epoch node epoch) is
beside_epoch old new epoch plan (Installs slot copy) is = ap (λ node. at_epoch node epoch) is
beside_epoch old new epoch plan (Frees id) is = ap (λ node. at_epoch node epoch) is ∙ at_any_epoch old epoch id (frozen_keys (move_of old.moves id.slot))
beside_epoch old new epoch plan (Notes from slot number drained) is = ap (λ node. at_epoch node epoch) is
beside_epoch old new epoch plan (Loses from claim lost) is = ap (λ node. at_epoch node epoch) is
beside_epoch old new epoch plan (Wishes conn) is = ap (λ node. at_epoch node epoch) is
beside_epoch old new epoch plan (Pauses replica) is = ap (λ node. at_epoch node epoch) is
beside_epoch old new epoch plan (Learns None) is = ap (λ node. at_epoch node epoch) is
beside_epoch old new epoch plan (Learns (Some handing)) is = ap (λ node. at_epoch node epoch) is
beside_epoch old new epoch plan Ages is = ap (λ node. at_epoch node epoch) is

-- a change beside a stream that grows
pub made_at_epoch : (old new : NodeState) (epoch : ℕ) (plan : Plan) (change : Change) (bytes : List ℕ) → IsMade old plan change bytes new → IsMade (at_epoch old epoch) plan change bytes (at_epoch new epoch)
made_at_epoch old new epoch plan change bytes is = record {
  after = at_epoch is.after epoch;
  changes = beside_epoch old is.after epoch plan change is.changes;
  goes_on = is.goes_on;
  state = ap (λ node. at_epoch node epoch) is.state;
}

-- what was taken out of a draft before doesn't bear on it
pub applied_alike : (old : NodeState) (draft other : Draft) (new : NodeState) → other.epoch ≡ draft.epoch → other.written ≡ draft.written → other.plan ≡ draft.plan → other.change ≡ draft.change
    → other.succession ≡ draft.succession → IsApplied old other new → IsApplied old draft new
applied_alike old draft other new epoch written plan change succession is = record {
  made = is.made;
  makes =
      subst (λ e. IsMade (at_epoch old e) draft.plan draft.change draft.written.bytes is.made) epoch
      (subst (λ (w : List ℕ). IsMade (at_epoch old other.epoch) draft.plan draft.change w is.made) (ap (λ (w : WrittenView). w.bytes) written)
      (subst (λ (p : Plan). IsMade (at_epoch old other.epoch) p draft.change other.written.bytes is.made) plan
      (subst (λ (c : Change). IsMade (at_epoch old other.epoch) other.plan c other.written.bytes is.made) change is.makes)));
  state = is.state ∙ ap (λ (s : Option Succession). succeeded_by s is.made) succession;
}

-- how many bytes the stream gives up in front
pub record GivesUp (old : NodeState) (outcome : Outcome) (requests : Requests) (new : NodeState) : Type 0 where
  pub dropped : ℕ
  pub within : MayGiveUp old requests dropped
  pub state : new ≡ (with_written outcome requests dropped).state

gives_up : (old after new : NodeState) (outcome : Outcome) (requests : Requests) → after ≡ outcome.state → after.stream ≡ old.stream
    → GoesOn (kept_in old.config) (stream_spelling requests) after.stream new.stream → new ≡ record after { stream = new.stream } → GivesUp old outcome requests new
gives_up old after new outcome [] same own goes state = record {
  dropped = 0;
  within = omega arith;
  state = state ∙ ap (λ s. record after { stream = s }) goes ∙ same;
}
gives_up old after new outcome (request ∷ requests) same own goes state = record {
  dropped = goes.dropped;
  within = subst (λ (s : StreamView). goes.dropped ≤ length s.held.bytes + length (stream_spelling (request ∷ requests)) - kept_in old.config) own goes.within;
  state =
      state ∙ ap (λ s. record after { stream = s }) goes.stream
      ∙ ap (λ (n : NodeState). record n { stream = written goes.dropped (stream_spelling (request ∷ requests)) n.stream }) same;
}

-- what is sent, and by whom, doesn't depend on that
sent_alike : (outcome : Outcome) (requests : Requests) (dropped : ℕ) → (with_written outcome requests 0).sent ≡ (with_written outcome requests dropped).sent
sent_alike outcome [] dropped = refl
sent_alike outcome (request ∷ requests) dropped = refl

outputs_alike : (ticket : ℕ) (outcome : Outcome) (requests : Requests) (dropped : ℕ)
    → sends outcome.state.number ticket outcome.state.current_epoch outcome.response outcome.released (with_written outcome requests dropped).sent outcome.promoted ≡ outputs_of ticket (with_written outcome requests dropped)
outputs_alike ticket outcome [] dropped = refl
outputs_alike ticket outcome (request ∷ requests) dropped = refl

-- nothing is not counted
may_count : (old : NodeState) (draft : Draft) → draft.written ≡ no_writes → MayCount old draft.written
may_count old draft none counted = absurd (true≢false (sym counted ∙ ap (λ (w : WrittenView). w.is_counted) none))

-- a draft that is made comes to what may come
pub made_comes : (ticket : ℕ) (old : NodeState) (May : Outcome → Type 0) (draft : Draft) (outputs : Outputs) (new : NodeState) → IsDraftOf old May draft → outputs ≡ stamped_draft old ticket draft
    → IsApplied old draft new → Comes ticket May outputs new
made_comes ticket old May draft outputs new is are applied =
    let outcome = is.outcome in
    let records = is.records in
    let made = applied.makes in
    let same : new ≡ applied.made = applied.state ∙ ap (λ (s : Option Succession). succeeded_by s applied.made) records.stays in
    let own = keeps_own (at_epoch old draft.epoch) draft.plan draft.change outcome.state records.state in
    let bodies : List (ℕ × Body) = draft.bodies.items in
    let none : promoted_by old draft.succession ≡ outcome.promoted = ap (promoted_by old) records.stays ∙ sym records.promoted in
    let given : GivesUp old outcome is.requests applied.made =
    gives_up old made.after applied.made outcome is.requests (leads_to_one (at_epoch old draft.epoch) draft.plan draft.change made.after outcome.state made.changes records.state)
    ((keeps_own (at_epoch old draft.epoch) draft.plan draft.change made.after made.changes).stream)
    (subst (λ bytes. GoesOn (kept_in old.config) bytes made.after.stream applied.made.stream) records.written made.goes_on) made.state in
    record {
      outcome = with_written outcome is.requests given.dropped;
      may = is.may_come given.dropped given.within;
      outputs_are =
          are ∙ ap (λ r. sends old.number ticket draft.epoch r draft.released bodies (promoted_by old draft.succession)) records.response
          ∙ ap (λ r. sends old.number ticket draft.epoch outcome.response r bodies (promoted_by old draft.succession)) records.released
          ∙ ap (λ b. sends old.number ticket draft.epoch outcome.response outcome.released b (promoted_by old draft.succession)) (records.sent ∙ sent_alike outcome is.requests given.dropped)
          ∙ ap (sends old.number ticket draft.epoch outcome.response outcome.released (with_written outcome is.requests given.dropped).sent) none
          ∙ ap (λ n. sends n ticket draft.epoch outcome.response outcome.released (with_written outcome is.requests given.dropped).sent outcome.promoted) (sym own.number)
          ∙ ap (λ e. sends outcome.state.number ticket e outcome.response outcome.released (with_written outcome is.requests given.dropped).sent outcome.promoted) (sym own.epoch)
          ∙ outputs_alike ticket outcome is.requests given.dropped;
      state = same ∙ given.state;
    }

-- so does the draft of a promotion
after_promotion : (old : NodeState) (succession : Option Succession) → ((succeeded_by succession old).number ≡ old.number) × ((succeeded_by succession old).current_epoch ≡ old.current_epoch)
after_promotion old None = (refl, refl)
after_promotion old (Some succession) = (refl, refl)

nothing_made : (old new : NodeState) (draft : Draft) → draft.epoch ≡ old.current_epoch → draft.change ≡ Nothing → draft.written ≡ no_writes
    → IsMade (at_epoch old draft.epoch) draft.plan draft.change draft.written.bytes new → new ≡ old
nothing_made old new draft own none empty made =
    let same : made.after ≡ old = subst (λ (c : Change). Becomes (at_epoch old draft.epoch) draft.plan c made.after) none made.changes ∙ ap (at_epoch old) own in
    let stays : new.stream ≡ made.after.stream = subst (λ (w : WrittenView). GoesOn (kept_in old.config) w.bytes made.after.stream new.stream) empty made.goes_on in
    made.state ∙ ap (λ (s : StreamView). record made.after { stream = s }) stays ∙ same

pub promotion_comes : (ticket : ℕ) (old : NodeState) (May : Outcome → Type 0) (outcome : Outcome) (draft : Draft) (outputs : Outputs) (new : NodeState) → May outcome → Promotes old outcome draft
    → outputs ≡ stamped_draft old ticket draft → IsApplied old draft new → Comes ticket May outputs new
promotion_comes ticket old May outcome draft outputs new may is are applied =
    let bodies : List (ℕ × Body) = draft.bodies.items in
    let made : applied.made ≡ old = nothing_made old applied.made draft is.epoch is.change is.written applied.makes in
    let own = after_promotion old draft.succession in
    record {
      outcome = outcome;
      may = may;
      outputs_are =
          are ∙ ap (λ r. sends old.number ticket draft.epoch r draft.released bodies (promoted_by old draft.succession)) is.response
          ∙ ap (λ r. sends old.number ticket draft.epoch outcome.response r bodies (promoted_by old draft.succession)) is.released
          ∙ ap (λ b. sends old.number ticket draft.epoch outcome.response outcome.released b (promoted_by old draft.succession)) is.sent
          ∙ ap (sends old.number ticket draft.epoch outcome.response outcome.released outcome.sent) is.promoted
          ∙ ap (λ n. sends n ticket draft.epoch outcome.response outcome.released outcome.sent outcome.promoted) (sym own.0 ∙ ap (λ (n : NodeState). n.number) (sym is.state))
          ∙ ap (λ e. sends outcome.state.number ticket e outcome.response outcome.released outcome.sent outcome.promoted) (is.epoch ∙ sym own.1 ∙ ap (λ (n : NodeState). n.current_epoch) (sym is.state));
      state = applied.state ∙ ap (λ (n : NodeState). succeeded_by draft.succession n) made ∙ sym is.state;
    }

-- and it can be made
pub draft_can_be_made : (old : NodeState) (May : Outcome → Type 0) (draft : Draft) → IsDraftOf old May draft → CanMake old draft
draft_can_be_made old May draft is = (can_be_made (at_epoch old draft.epoch) draft.plan draft.change is.outcome.state is.records.state, is.records.counted)

pub promotion_can_be_made : (old : NodeState) (outcome : Outcome) (draft : Draft) → Promotes old outcome draft → CanMake old draft
promotion_can_be_made old outcome draft is = (subst (λ (c : Change). CanBeMade old draft.plan c) (sym is.change) tt, may_count old draft is.written)

-- a draft that writes nothing
pub records_nothing : (old : NodeState) (outcome : Outcome) (draft : Draft) → Drafts old outcome draft → Records old outcome [] draft
records_nothing old outcome draft drafts = record {
  response = drafts.response;
  released = drafts.released;
  sent = drafts.sent;
  promoted = drafts.promoted;
  written = ap (λ (w : WrittenView). w.bytes) drafts.written;
  counted = may_count old draft drafts.written;
  stays = drafts.stays;
  state = drafts.state;
}

-- a draft with nothing in it is that of a step in which nothing comes out, and nothing changes
pub drafts_nothing : (old : NodeState) (draft : Draft) → HasNothing old draft → Drafts old (silent old) draft
drafts_nothing old draft is =
    record {
      response = is.response;
      released = is.released;
      sent = is.sent;
      promoted = refl;
      written = is.written;
      stays = is.succession;
      state =
          subst (λ change. Becomes (at_epoch old draft.epoch) draft.plan change old) (sym is.change)
          (subst (λ epoch. old ≡ at_epoch old epoch) (sym is.epoch) refl);
    }

-- what a change makes of a node it makes of the node in its own epoch
pub in_own_epoch : (old : NodeState) (epoch : ℕ) (plan : Plan) (change : Change) (after : NodeState) → epoch ≡ old.current_epoch → Becomes old plan change after → Becomes (at_epoch old epoch) plan change after
in_own_epoch old epoch plan change after own leads = subst (λ e. Becomes (at_epoch old e) plan change after) (sym own) leads

module _ (old : NodeState) (draft replied_draft : Draft) (why : Why) (reply : Reply) (change : Change) (after : NodeState)
    (nothing : HasNothing old draft) (replies : replied_draft ≡ record draft { response = Replied (record { why = why; reply = reply }) })
    (leads : Becomes old draft.plan change after) where
  -- a reply and a change, written one after the other
  pub drafts_reply : (new : Draft) → new ≡ record replied_draft { change = change } → Drafts old (replied after why reply) new
  drafts_reply new changes =
      subst (λ d. Drafts old (replied after why reply) d) (sym (changes ∙ ap (λ (d : Draft). record d { change = change }) replies))
      (record {
        response = refl;
        released = nothing.released;
        sent = nothing.sent;
        promoted = refl;
        written = nothing.written;
        stays = nothing.succession;
        state = in_own_epoch old draft.epoch draft.plan change after nothing.epoch leads;
      })

  -- the same with messages between them
  pub drafts_sending : (bodies : List (ℕ × Body)) (said new : Draft) → said.bodies.items ≡ bodies → said.response ≡ replied_draft.response → said.released ≡ replied_draft.released
      → said.epoch ≡ replied_draft.epoch → said.written ≡ replied_draft.written → said.plan ≡ replied_draft.plan → said.succession ≡ replied_draft.succession
      → new ≡ record said { change = change } → Drafts old (replied_sending after why reply bodies) new
  drafts_sending bodies said new says response released epoch written plan succession changes =
      subst (λ d. Drafts old (replied_sending after why reply bodies) d) (sym changes)
      (record {
        response = response ∙ ap (λ (d : Draft). d.response) replies;
        released = released ∙ ap (λ (d : Draft). d.released) replies ∙ nothing.released;
        sent = says;
        promoted = refl;
        written = written ∙ ap (λ (d : Draft). d.written) replies ∙ nothing.written;
        stays = succession ∙ ap (λ (d : Draft). d.succession) replies ∙ nothing.succession;
        state = subst (λ p. Becomes (at_epoch old said.epoch) p change after) (sym (plan ∙ ap (λ (d : Draft). d.plan) replies))
            (in_own_epoch old said.epoch draft.plan change after (epoch ∙ ap (λ (d : Draft). d.epoch) replies ∙ nothing.epoch) leads);
      })

-- Further entries of a world.
use Rattle.std.proofs.Common.{◌≡◌, ℕ, Bool, List, drop, length, [], ◌∷◌, ◌++◌, Contains, refl, sym, ap, subst, ◌∙◌, inl, inr, append-nil, append_assoc}
use Rattle.std.specs.Prelude.{reverse, slice_get, slice_set, Some, zero, suc, Result, Ok, Err, IfOk}
use Rattle.std.proofs.lemmas.List.{length-set, reverse-append}
use Rattle.std.proofs.lemmas.List.Elements.{Contains-append_cases, Contains-append_left, Contains-append_right}
use Rattle.std.proofs.lemmas.Grind.{flat_map-append}
use Rattle.std.proofs.lemmas.Option.{slice_get_within, get_or_from_slice_get}
use Rattle.bus.specs.declared.message.Message.{Message}
use Rattle.connections.specs.declared.conn.Conn.{Conn}
use Rattle.node_step.specs.Numbers.{NoNumberLeft}
use Rattle.node_step.specs.State.{NodeState}
use Rattle.node_step.specs.declared.event.Event.{Event}
use Rattle.node_step.specs.declared.event.Event.TheVariants.{Open, Close, Request, Deliver, Tick}
use Rattle.node_step.specs.declared.outputs.Outputs.{Outputs}
use Rattle.node_step.specs.declared.outputs.Release.{Release}
use Rattle.world_run.specs.Executed.{KeepsAsking, MayAsk, answered}
use Rattle.world_run.specs.Run.{Deed, Entry, Goes, MayHappen, sent_by, sent_in}
use Rattle.world_run.specs.Run.Deed.{Made, Skipped}
use Rattle.world_nodes.specs.Allowed.{MayTake}
use Rattle.world_nodes.specs.Entered.{EntersAt, SkipsAt, Steps}
use Rattle.world_nodes.specs.NodeSteps.{IsUnasked, Skips, Closes, Enters, Makes, message_at, released_conns, served_conns}
use Rattle.world_nodes.specs.Nodes.{GoesOn, RemembersSent, RunView}
use Rattle.world_nodes.specs.Outputs.{shown, shown_from}
use Rattle.world_nodes.specs.declared.output.Output.{Output}
use Rattle.world_nodes.proofs.Allowing.{taken_may_ask}
use Rattle.world_nodes.proofs.Runs.{goes-append}
use Rattle.std.proofs.Math.Seq.{drop-append_seam}

-- ---- runs in two parts

pub keeps-append : (past : List Entry) (first others : List Entry) → KeepsAsking past first → KeepsAsking (reverse first ++ past) others → KeepsAsking past (first ++ others)
keeps-append past [] others keeps more = more
keeps-append past (entry ∷ first) others keeps more =
    let behind : reverse (entry ∷ first) ++ past ≡ reverse first ++ (entry ∷ past) =
    ap (λ (entries : List Entry). entries ++ past) (reverse-append (entry ∷ []) first) ∙ append_assoc (reverse first) (entry ∷ []) past in (
      keeps.0,
      keeps-append (entry ∷ past) first others keeps.1 (subst (λ (entries : List Entry). KeepsAsking entries others) behind more),
    )

pub goes_on_refl : (run : RunView) → GoesOn run run
goes_on_refl run = record { entries = []; added = sym (append-nil run.entries); goes = refl; keeps = tt }

pub goes_further : (old mid new : RunView) → GoesOn old mid → GoesOn mid new → GoesOn old new
goes_further old mid new first others =
    let behind : reverse mid.entries ≡ reverse first.entries ++ reverse old.entries =
    ap reverse first.added ∙ reverse-append old.entries first.entries in
    record {
      entries = first.entries ++ others.entries;
      added = others.added ∙ ap (λ (entries : List Entry). entries ++ others.entries) first.added ∙ append_assoc old.entries first.entries others.entries;
      goes = goes-append (reverse old.entries) old.nodes mid.nodes new.nodes first.entries others.entries first.goes
          (subst (λ (entries : List Entry). Goes entries mid.nodes others.entries new.nodes) behind others.goes);
      keeps = keeps-append (reverse old.entries) first.entries others.entries first.keeps (subst (λ (entries : List Entry). KeepsAsking entries others.entries) behind others.keeps);
    }

-- the nodes stay as many as they are
goes_length : (past : List Entry) (old new : List NodeState) (entries : List Entry) → Goes past old entries new → length new ≡ length old
goes_length past old new [] same = ap length same
goes_length past old new (entry ∷ entries) goes =
    goes_length (entry ∷ past) goes.0 new entries goes.2 ∙ ap length goes.1.is ∙ length-set old entry.node goes.1.after

pub goes_on_length : (old new : RunView) → GoesOn old new → length new.nodes ≡ length old.nodes
goes_on_length old new on = goes_length (reverse old.entries) old.nodes new.nodes on.entries on.goes

-- ---- one entry

pub enters_goes_on : (old new : RunView) (node : ℕ) (deed : Deed) → EntersAt old.entries old.nodes node deed new.entries new.nodes → MayAsk (reverse old.entries) node (answered deed) → GoesOn old new
enters_goes_on old new node deed enters asks = record {
  entries = (record { node = node; ticket = enters.ticket; deed = deed }) ∷ [];
  added = enters.entered;
  goes = (new.nodes, enters.step, refl);
  keeps = (asks, tt);
}

-- what a run that was seen as it was goes on with
abbrev seen : List NodeState → List Bool → List Message → List Entry → RunView
seen nodes stopped sent entries = record { nodes = nodes; stopped = stopped; sent = sent; entries = entries }

pub skipped_goes_on : (old inside : RunView) (nodes : List NodeState) (stopped : List Bool) (sent : List Message) (entries : List Entry) (node : ℕ) (event : Event) → inside ≡ old
    → SkipsAt inside.entries inside.nodes node event entries nodes → GoesOn old (record { nodes = nodes; stopped = stopped; sent = sent; entries = entries })
skipped_goes_on old inside nodes stopped sent entries node event is skips =
    subst (λ (run : RunView). GoesOn run (seen nodes stopped sent entries)) is (enters_goes_on inside (seen nodes stopped sent entries) node Skipped skips.enters tt)

pub made_goes_on : (old inside : RunView) (nodes : List NodeState) (stopped : List Bool) (sent : List Message) (entries : List Entry) (node : ℕ) (event : Event) (outputs : Outputs) → inside ≡ old
    → MayTake old node event → EntersAt inside.entries inside.nodes node (Made event outputs) entries nodes → GoesOn old (record { nodes = nodes; stopped = stopped; sent = sent; entries = entries })
made_goes_on old inside nodes stopped sent entries node event outputs is may enters =
    let entered : EntersAt old.entries old.nodes node (Made event outputs) entries nodes = subst (λ (run : RunView). EntersAt run.entries run.nodes node (Made event outputs) entries nodes) is enters in
    enters_goes_on old (seen nodes stopped sent entries) node (Made event outputs) entered (taken_may_ask old node event outputs entries nodes may entered)

-- a step of one node, among the others
pub made_at : (past : List Entry) (old : List NodeState) (node : ℕ) (event : Event) (outputs : Outputs) (entries : List Entry) (new : List NodeState) (before after : NodeState)
    → slice_get old node ≡ Some before → MayHappen (reverse past) event → Steps past before node (Made event outputs) entries after
    → new ≡ slice_set old node after → EntersAt past old node (Made event outputs) entries new
made_at past old node event outputs entries new before after was may steps is = record {
  ticket = steps.ticket;
  numbered = steps.numbered;
  step = record { before = before; after = after; was = was; leads = (may, steps.does); is = is };
  entered = steps.entered;
}

-- a node that made no step, among the others
pub skipped_at : (past : List Entry) (old : List NodeState) (node : ℕ) (event : Event) (entries : List Entry) (new : List NodeState) (before after : NodeState)
    → slice_get old node ≡ Some before → NoNumberLeft before event → Steps past before node Skipped entries after → new ≡ slice_set old node after → SkipsAt past old node event entries new
skipped_at past old node event entries new before after was why steps is = record {
  enters = record {
    ticket = steps.ticket;
    numbered = steps.numbered;
    step = record { before = before; after = after; was = was; leads = steps.does; is = is };
    entered = steps.entered;
  };
  why = why;
}

-- so a run that was seen as it was skips the event
pub skips_so : (old inside : RunView) (nodes : List NodeState) (entries : List Entry) (node : ℕ) (event : Event) → inside ≡ old → SkipsAt inside.entries inside.nodes node event entries nodes
    → Skips old node event (record inside { nodes = nodes; entries = entries })
skips_so old inside nodes entries node event is skips =
    subst (λ (run : RunView). Skips run node event (record inside { nodes = nodes; entries = entries })) is
    (record {
      enters = record { enters = skips.enters; is = ap (λ (sent : List Message). record inside { nodes = nodes; sent = sent; entries = entries }) (sym (append-nil inside.sent)) };
      why = skips.why;
    })

pub sent_by-push : (entries : List Entry) (entry : Entry) → sent_by (entries ++ entry ∷ []) ≡ sent_by entries ++ sent_in entry.deed
sent_by-push entries entry =
    flat_map-append (λ (e : Entry). sent_in e.deed) entries (entry ∷ []) ∙ ap (λ (messages : List Message). sent_by entries ++ messages) (append-nil (sent_in entry.deed))

pub enters_remembers : (old new : RunView) (node : ℕ) (deed : Deed) → Enters old node deed new → RemembersSent old → RemembersSent new
enters_remembers old new node deed entered remembers =
    let entry : Entry = record { node = node; ticket = entered.enters.ticket; deed = deed } in
    ap (λ (run : RunView). run.sent) entered.is ∙ ap (λ (messages : List Message). messages ++ sent_in deed) remembers
    ∙ sym (sent_by-push old.entries entry) ∙ sym (ap sent_by entered.enters.entered)

-- ---- messages that were sent

pub sent_reversed : (entries : List Entry) (message : Message) → Contains (sent_by entries) message → Contains (sent_by (reverse entries)) message
sent_reversed [] message among = among
sent_reversed (entry ∷ entries) message among =
    let turned : sent_by (reverse (entry ∷ entries)) ≡ sent_by (reverse entries) ++ sent_in entry.deed =
    ap sent_by (reverse-append (entry ∷ []) entries) ∙ sent_by-push (reverse entries) entry in
    subst (λ (messages : List Message). Contains messages message) (sym turned)
    (elim (Contains-append_cases (sent_in entry.deed) (sent_by entries) message among) [
      | inl now ↦ Contains-append_right (sent_by (reverse entries)) (sent_in entry.deed) message now
      | inr earlier ↦ Contains-append_left (sent_by (reverse entries)) (sent_in entry.deed) message (sent_reversed entries message earlier)
    ])

-- a message that is among those that were sent may arrive
pub may_arrive : (run : RunView) (number : ℕ) (message : Message) → RemembersSent run → Some message ≡ message_at run.sent number → MayHappen (reverse run.entries) (Deliver message)
may_arrive run zero message remembers is = absurd (cc)
may_arrive run (suc before) message remembers is =
    let among : Contains run.sent message =
    (before, slice_get_within run.sent before message (sym is), get_or_from_slice_get run.sent before message message (sym is)) in
    sent_reversed run.entries message (subst (λ (messages : List Message). Contains messages message) remembers among)

-- ---- connections closed one after another

pub closes-append : (old mid new : RunView) (node : ℕ) (first others : List Conn) → Closes old node first mid → Closes mid node others new → Closes old node (first ++ others) new
closes-append old mid new node [] others same closes = subst (λ (run : RunView). Closes run node others new) same closes
closes-append old mid new node (conn ∷ first) others closes more = (closes.0, closes.1, closes.2, closes-append closes.0 mid new node first others closes.3 more)

-- and one more
pub closes_one_more : (old mid new : RunView) (node : ℕ) (first : List Release) (release : Release) → Closes old node (released_conns first) mid → Closes mid node (release.conn ∷ []) new
    → Closes old node (released_conns (first ++ release ∷ [])) new
closes_one_more old mid new node [] release same closes = subst (λ (run : RunView). Closes run node (release.conn ∷ []) new) same closes
closes_one_more old mid new node (earlier ∷ first) release closes more = (closes.0, closes.1, closes.2, closes_one_more closes.0 mid new node first release closes.3 more)

-- a step for which no connection asked has none of its own
pub closes_served : (event : Event) (outputs : Outputs) (after new : RunView) (node : ℕ) → IsUnasked event → Closes after node (released_conns outputs.released) new
    → Closes after node (served_conns event outputs) new
closes_served Open outputs after new node unasked closes = absurd unasked
closes_served (Request conn words) outputs after new node unasked closes = absurd unasked
closes_served (Close conn) outputs after new node unasked closes = absurd unasked
closes_served (Deliver message) outputs after new node unasked closes = closes
closes_served Tick outputs after new node unasked closes = closes

-- the messages behind those that were sent before are those of the step
pub shown_since : (old after : RunView) (node : ℕ) (event : Event) (made : Outputs) (first : ℕ) (outputs : List Output) → Makes old node event made after → first ≡ length old.sent
    → outputs ≡ shown_from node first (drop first after.sent) made → outputs ≡ shown node old.sent made
shown_since old after node event made first outputs makes is gives =
    gives ∙ ap (λ (n : ℕ). shown_from node n (drop n after.sent) made) is
    ∙ ap (λ (messages : List Message). shown_from node (length old.sent) messages made)
    (ap (λ (run : RunView). drop (length old.sent) run.sent) makes.is ∙ drop-append_seam old.sent made.sent)

-- ---- results

-- what two clauses say of a result holds together
pub both_at_ok : {X Y : Type 0} (result : Result X Y) (P Q R : X → Type 0) → ((x : X) → P x → Q x → R x) → IfOk result P → IfOk result Q → IfOk result R
both_at_ok (Ok x) P Q R together one other = together x one other
both_at_ok (Err fault) P Q R together one other = tt

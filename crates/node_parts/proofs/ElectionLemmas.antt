-- What elections are about, and the rest of a node.
use Rattle.std.proofs.Common.{◌≡◌, ◌==◌, ℕ, List, Bool, true, false, Option, Some, None, cond, refl, sym, ap, ◌∙◌}
use Rattle.bus.specs.Stream.{StreamView, promoted}
use Rattle.bus.specs.declared.bodies.Handing.{Handing}
use Rattle.bus.specs.declared.bodies.Replaced.{Replaced}
use Rattle.bus.specs.declared.message.Message.{Message}
use Rattle.bus.specs.declared.stream_id.StreamId.{StreamId}
use Rattle.election.specs.Health.{Candidate, no_candidate}
use Rattle.node_parts.specs.Electing.{KeepsRest, election_of, with_election}
use Rattle.node_parts.specs.Noting.{note_dropped, note_of_former, with_note, without_master}
use Rattle.node_parts.specs.Succession.{replacement, succeeded_by}
use Rattle.node_parts.specs.declared.succession.Succession.{Succession}
use Rattle.node_step.specs.Failing.{a_tick_older, hearing, judging}
use Rattle.node_step.specs.Handovers.{may_take_over}
use Rattle.node_step.specs.Messages.{knowing, ready}
use Rattle.node_step.specs.Promotion.{in_place_of, own_stream}
use Rattle.node_step.specs.Roles.{following, is_just, replaced_in, succeeded, with_master, without_note}
use Rattle.node_step.specs.State.{NodeState, no_handover, own_master}
use Rattle.node_step.specs.Voting.{begun_so, in_election, noted_begun}
use Rattle.slot_table.specs.declared.entry.SlotEntry.{SlotEntry}

-- ---- what is put back

-- whatever a tick judges and begins is of elections alone
pub tick_keeps_rest : (old : NodeState) (epoch : Option ℕ) → KeepsRest old (in_election (a_tick_older old) epoch)
tick_keeps_rest old None = refl
tick_keeps_rest old (Some epoch) = by_plan (may_take_over (a_tick_older old))
  where
    aged : NodeState
    aged = a_tick_older old

    by_plan : (planned : Bool)
        → with_election (record aged { current_epoch = epoch; candidate = begun_so planned aged.candidate epoch; handover = noted_begun planned aged.handover }) (election_of old) ≡ old
    by_plan true = refl
    by_plan false = refl

-- what any message tells is of elections alone, but for the note that is dropped
heard_back : (old : NodeState) (message : Message) → with_note (with_election (ready old message) (election_of old)) (note_dropped old message.from (replaced_in message.body)) ≡ old
heard_back old message = by_claim (replaced_in message.body)
  where
    heard : NodeState
    heard = hearing (knowing old message.epoch) message.from message.body

    with_noted : (note : Option Handing) → old.handover.note ≡ note → with_note (record old { handover = record old.handover { note = None } }) note ≡ old
    with_noted None none = ap (λ (note : Option Handing). record old { handover = record old.handover { note = note } }) (sym none)
    with_noted (Some handing) some = ap (λ (note : Option Handing). record old { handover = record old.handover { note = note } }) (sym some)

    by_former : (former : Bool) (masters : List (Option ℕ)) (candidate : Candidate)
        → with_note (with_election (judging (record heard { masters = masters; candidate = candidate; handover = cond former (without_note old.handover) old.handover })) (election_of old))
        (cond former old.handover.note None) ≡ old
    by_former true masters candidate = with_noted old.handover.note refl
    by_former false masters candidate = refl

    by_sender : (own : Bool) (replaced : Replaced)
        → with_note (with_election (judging (cond own heard (with_master heard replaced.master message.from))) (election_of old)) (cond own None (note_of_former old replaced.master)) ≡ old
    by_sender true replaced = refl
    by_sender false replaced = by_former (is_just (own_master old) replaced.master) (succeeded heard.masters replaced.master message.from) (cond (is_just (own_master heard) replaced.master) no_candidate heard.candidate)

    by_claim : (replaced : Option Replaced)
        → with_note (with_election (judging (following heard message.from replaced)) (election_of old)) (note_dropped old message.from replaced) ≡ old
    by_claim None = refl
    by_claim (Some replaced) = by_sender (message.from == old.number) replaced

-- a message that was heard and not taken leaves nothing
pub heard_put_back : (old heard taken back new : NodeState) (message : Message) (dropped : Option Handing) → heard ≡ ready old message → KeepsRest heard taken
    → back ≡ with_election taken (election_of old) → dropped ≡ note_dropped old message.from (replaced_in message.body) → new ≡ with_note back dropped → new ≡ old
heard_put_back old heard taken back new message dropped hears keeps puts drops is =
    is ∙ ap (λ (note : Option Handing). with_note back note) drops
    ∙ ap (λ (n : NodeState). with_note n (note_dropped old message.from (replaced_in message.body)))
    (puts ∙ ap (λ (n : NodeState). with_election n (election_of old)) keeps ∙ ap (λ (n : NodeState). with_election n (election_of old)) hears)
    ∙ heard_back old message

-- one after the other
pub rest_kept_on : (old between new : NodeState) → KeepsRest old between → KeepsRest between new → KeepsRest old new
rest_kept_on old between new first then = ap (λ node. with_election node (election_of old)) then ∙ first

-- ---- another node takes a master's place

pub replaces : (now without inside : NodeState) (masters : List (Option ℕ)) (former next : ℕ) → without ≡ without_master now former → inside ≡ without → masters ≡ succeeded inside.masters former next
    → record inside { masters = masters } ≡ with_master now former next
replaces now without inside masters former next is same follow =
    ap (λ (m : List (Option ℕ)). record inside { masters = m }) follow
    ∙ ap (λ (node : NodeState). record node { masters = succeeded node.masters former next }) (same ∙ is)

-- and this node does
pub succeeds : (inside now : NodeState) (table : List (Option SlotEntry)) (master epoch : ℕ) (masters : List (Option ℕ)) (candidate : Candidate) (replaced : Replaced) (id : StreamId) (stream : StreamView)
    → inside ≡ now → masters ≡ succeeded inside.masters master inside.number → candidate ≡ no_candidate → replaced ≡ replacement inside master epoch → id ≡ own_stream inside epoch → stream ≡ promoted id inside.stream
    → record inside { table = table; masters = masters; candidate = candidate; handover = no_handover; stream = stream; replaced = Some replaced } ≡ in_place_of now master epoch table
succeeds inside now table master epoch masters candidate replaced id stream same follow over place names goes =
    ap (λ (m : List (Option ℕ)). record inside { table = table; masters = m; candidate = candidate; handover = no_handover; stream = stream; replaced = Some replaced }) follow
    ∙ ap (λ (c : Candidate). record inside { table = table; masters = succeeded inside.masters master inside.number; candidate = c; handover = no_handover; stream = stream; replaced = Some replaced }) over
    ∙ ap (λ (r : Replaced). record inside { table = table; masters = succeeded inside.masters master inside.number; candidate = no_candidate; handover = no_handover; stream = stream; replaced = Some r }) place
    ∙ ap (λ (v : StreamView).
    record inside { table = table; masters = succeeded inside.masters master inside.number; candidate = no_candidate; handover = no_handover; stream = v; replaced = Some (replacement inside master epoch) })
    (goes ∙ ap (λ (i : StreamId). promoted i inside.stream) names)
    ∙ ap (λ (node : NodeState). in_place_of node master epoch table) same

-- by the succession that was taken out
pub by_the_taken : (new between : NodeState) (taken succession : Option Succession) → taken ≡ succession → new ≡ succeeded_by taken between → new ≡ succeeded_by succession between
by_the_taken new between taken succession same is = is ∙ ap (λ (s : Option Succession). succeeded_by s between) same

-- What holds of handovers is kept by each event of a node that isn't promoted by it, and by a planned promotion.
use Rattle.std.proofs.Common.{◌≡◌, ◌≢◌, ℕ, List, Option, Some, None, refl, sym, ap, subst, ◌∙◌}
use Rattle.std.specs.Prelude.{option_map, slice_get, slice_set}
use Rattle.bus.specs.declared.message.Body.{Body}
use Rattle.bus.specs.declared.bodies.ElectionBody.TheVariants as of_election
use Rattle.bus.specs.declared.bodies.SlotsBody.TheVariants as of_slots
use Rattle.bus.specs.declared.bodies.StreamBody.TheVariants as of_stream
use Rattle.bus.specs.declared.message.Body.TheVariants as body
use Rattle.bus.specs.declared.bodies.Handing.{Handing}
use Rattle.bus.specs.declared.message.Message.{Message}
use Rattle.bus.specs.declared.bodies.Replaced.{Replaced}
use Rattle.handovers.proofs.Keeping.{Kept, begins-keeps, follows_next-keeps, goes_on-keeps, notes-keeps, pauses-keeps, succeeds-keeps}
use Rattle.handovers.specs.Events.{Begins, ChangesPeer, FollowsNext, GoesOn, Notes, Pauses, Succeeds}
use Rattle.handovers.specs.Peers.{Peer}
use Rattle.handovers.specs.Peers.Said.{Took}
use Rattle.handovers.specs.Stands.{IsTrue, PeerStands}
use Rattle.node_step.specs.Roles.{replaced_in}
use Rattle.node_step.specs.State.{NodeState, own_master}
use Rattle.single_keyspace.proofs.Peering.{Ages, Does, Goes, Heard}
use Rattle.single_keyspace.proofs.Seen.{no_some, set_apart, set_here}
use Rattle.single_keyspace.specs.Handing.{newest_of, peer_at, peer_of, peers, planned_epoch, said_in, took}

-- whose place the sender took is said
pub said_so : (said : Body) (replaced : Replaced) → replaced_in said ≡ Some replaced → said_in said ≡ Took replaced.master
said_so (body.Slots (of_slots.Claim slots by)) replaced is = ap took is
said_so (body.Slots (of_slots.Copy id pairs)) replaced is = absurd (no_some refl is)
said_so (body.Slots (of_slots.Ack id)) replaced is = absurd (no_some refl is)
said_so (body.Slots (of_slots.Drained slot number epoch)) replaced is = absurd (no_some refl is)
said_so (body.Report suspects) replaced is = absurd (no_some refl is)
said_so (body.Election (of_election.Candidacy request)) replaced is = absurd (no_some refl is)
said_so (body.Election (of_election.Grant epoch)) replaced is = absurd (no_some refl is)
said_so (body.Stream (of_stream.Sync sync)) replaced is = absurd (no_some refl is)
said_so (body.Stream (of_stream.Piece piece)) replaced is = absurd (no_some refl is)
said_so (body.Stream (of_stream.Snapshot snapshot)) replaced is = absurd (no_some refl is)
said_so (body.Election (of_election.Pause stream)) replaced is = absurd (no_some refl is)
said_so (body.Election (of_election.Paused handing)) replaced is = absurd (no_some refl is)

module _ (nodes : List NodeState) (each : (number : ℕ) → PeerStands newest_of (peers nodes) number) (n : ℕ) (before : NodeState) (there : slice_get nodes n ≡ Some before) (number : before.number ≡ n) (after : NodeState) where
  abbrev next : List NodeState
  next = slice_set nodes n after

  its_peer : peers nodes n ≡ peer_of before
  its_peer = ap peer_at there

  changes : ChangesPeer (peers nodes) (peers next) n (peer_of after)
  changes = record {
    here = ap peer_at (set_here nodes n before after there);
    there = λ other apart. ap peer_at (set_apart nodes n after other apart);
  }

  -- what a node hands over to a replica stays the same
  abbrev pub StandsStill : Type 0
  StandsStill = (replica : ℕ) → before.paused ≡ Some replica → (peers nodes replica).master ≢ None → (peer_of after).hands ≡ (peer_of before).hands

  pub goes_keeps : StandsStill → Goes before after → Kept newest_of (peers nodes) (peers next)
  goes_keeps still goes =
      let goes_on : GoesOn (peers nodes) (peer_of before) (peer_of after) = record {
        master = goes.master;
        current = goes.current;
        paused = goes.paused;
        note = goes.note;
        planned = goes.planned;
        replaced = ap (λ (o : Option Replaced). option_map (λ (r : Replaced). r.master) o) goes.replaced;
        still = still;
      } in
      goes_on-keeps newest_of each changes (subst (λ (p : Peer Handing). GoesOn (peers nodes) p (peer_of after)) (sym its_peer) goes_on)

  module _ (message : Message) (said : IsTrue newest_of (peers nodes) message.from n message.epoch (said_in message.body)) where
    heard_keeps : StandsStill → Heard message before after → Kept newest_of (peers nodes) (peers next)
    heard_keeps still (Heard.goes goes) = goes_keeps still goes
    heard_keeps still (Heard.follows replaced is apart follows) =
        follows_next-keeps newest_of each changes replaced.master message.from (λ same. apart (same ∙ sym number))
        (subst (IsTrue newest_of (peers nodes) message.from n message.epoch) (said_so message.body replaced is) said)
        (subst (λ (p : Peer Handing). FollowsNext replaced.master message.from p (peer_of after)) (sym its_peer) follows)

    pub message_keeps : StandsStill → Does message before after → Kept newest_of (peers nodes) (peers next)
    message_keeps still (Does.hears heard) = heard_keeps still heard
    message_keeps still (Does.pauses stream is pauses) =
        pauses-keeps newest_of each changes message.from message.epoch (subst (IsTrue newest_of (peers nodes) message.from n message.epoch) (ap said_in is) said)
        (subst (λ (p : Peer Handing). Pauses message.from p (peer_of after)) (sym its_peer) pauses)
    message_keeps still (Does.notes handing is notes) =
        notes-keeps newest_of each changes message.from message.epoch handing (subst (IsTrue newest_of (peers nodes) message.from n message.epoch) (ap said_in is) said)
        (subst (λ (p : Peer Handing). Notes handing message.epoch p (peer_of after)) (sym its_peer) notes)

  pub tick_keeps : StandsStill → Ages before after → Kept newest_of (peers nodes) (peers next)
  tick_keeps still (Ages.stays goes) = goes_keeps still goes
  tick_keeps still (Ages.begins handing begins) = begins-keeps newest_of each changes handing (subst (λ (p : Peer Handing). Begins handing p (peer_of after)) (sym its_peer) begins)

  -- a planned promotion, of a node that may have counted a vote and has heard more of epochs
  pub promotion_keeps : (handing : Handing) (master epoch : ℕ) → own_master before ≡ Some master → before.handover.note ≡ Some handing → planned_epoch before.candidate ≡ Some epoch
      → own_master after ≡ None → after.paused ≡ before.paused → after.handover.note ≡ None → planned_epoch after.candidate ≡ None → (replaced : Replaced) → after.replaced ≡ Some replaced → replaced.master ≡ master
      → Kept newest_of (peers nodes) (peers next)
  promotion_keeps handing master epoch follows noted planned none paused no_note no_plan replaced took_place former =
      let succeeds : Succeeds handing master epoch (peer_of before) (peer_of after) = record {
        follows = follows;
        noted = noted;
        elected = planned;
        master = none;
        paused = paused;
        note = no_note;
        planned = no_plan;
        replaced = ap (λ (o : Option Replaced). option_map (λ (r : Replaced). r.master) o) took_place ∙ ap Some former;
      } in
      succeeds-keeps newest_of each changes handing master epoch (subst (λ (p : Peer Handing). Succeeds handing master epoch p (peer_of after)) (sym its_peer) succeeds)

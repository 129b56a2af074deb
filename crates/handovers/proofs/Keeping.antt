-- What holds of handovers is kept by each event.
use Rattle.std.proofs.Common.{◌≡◌, ◌≢◌, ◌<◌, ◌≤◌, ◌+◌, ◌⊎◌, ℕ, Option, Some, None, sym, ap, subst, ◌∙◌, inl, inr, arith}
use Rattle.handovers.specs.Events.{Begins, ChangesPeer, FollowsNext, GoesOn, Notes, Pauses, Succeeds}
use Rattle.handovers.specs.Peers.{Peer, Peers}
use Rattle.handovers.specs.Peers.Said.{Asks, Hands}
use Rattle.handovers.specs.Stands.{HasReplaced, IsNoted, IsTrue, PeerStands}
use Rattle.handovers.proofs.Growing.{Grows, GrowsAt, grows_at, led_kept, no_some, note_kept, peers_kept, replaced_kept, same_some}

-- each node stands, and what stays true is so by what grows
pub record Kept {H : Type 0} (newest : H → ℕ) (old new : Peers H) : Type 0 where
  pub grows : Grows old new
  pub each : (j : ℕ) → PeerStands newest new j

module _ {H : Type 0} (newest : H → ℕ) {old new : Peers H} (each : (j : ℕ) → PeerStands newest old j) {n : ℕ} {peer : Peer H} (changes : ChangesPeer old new n peer) where
  kept_by : GrowsAt old n peer → (Grows old new → PeerStands newest new n) → Kept newest old new
  kept_by at here = let grows : Grows old new = grows_at changes at in record { grows = grows; each = peers_kept changes newest grows each (here grows) }

  replica_apart : {m : ℕ} → (old n).master ≡ Some m → (x : ℕ) → (old n).paused ≡ Some x → ⊥
  replica_apart follows x paused = no_some ((each n).pauses x paused) follows

  masters : {m : Option ℕ} → peer.master ≡ m → (new n).master ≡ m
  masters is = ap (λ (v : Peer H). v.master) changes.here ∙ is

  paused_was : peer.paused ≡ (old n).paused → (x : ℕ) → (new n).paused ≡ Some x → (old n).paused ≡ Some x
  paused_was same x is = sym same ∙ sym (ap (λ (v : Peer H). v.paused) changes.here) ∙ is

  replaced_was : {z : ℕ} → peer.replaced ≡ (old n).replaced → (new n).replaced ≡ Some z → (old n).replaced ≡ Some z
  replaced_was same is = sym same ∙ sym (ap (λ (v : Peer H). v.replaced) changes.here) ∙ is

  -- the node goes on, with more known of epochs, and maybe an election less
  pub goes_on-keeps : GoesOn old (old n) peer → Kept newest old new
  goes_on-keeps goes = kept_by
      (record {
        master = λ none. goes.master ∙ none;
        paused = λ x is. goes.paused ∙ is;
        follows = λ m is. inl (goes.master ∙ is);
        led = λ j paused is. inr (goes.master ∙ is);
        still = goes.still;
      })
      (λ grows.
      let was = each n in
      let current : (old n).current ≤ (new n).current = subst (λ (v : Peer H). (old n).current ≤ v.current) (sym changes.here) goes.current in
      let notes : (new n).note ≡ (old n).note = ap (λ (v : Peer H). v.note) changes.here ∙ goes.note in
      record {
        pauses = λ x is. masters goes.master ∙ was.pauses x (paused_was goes.paused x is);
        led = λ x is. let before : (old n).paused ≡ Some x = paused_was goes.paused x is in led_kept newest grows n x before (was.led x before);
        noted = λ handed is. note_kept newest grows n handed (masters goes.master) current (was.noted handed (sym notes ∙ is));
        elected = λ epoch is.
            let now : peer.planned ≡ Some epoch = sym (ap (λ (v : Peer H). v.planned) changes.here) ∙ is in
            elim goes.planned [
              | inl same ↦ let above = was.elected epoch (sym same ∙ now) in record { handed = above.handed; note = notes ∙ above.note; above = above.above }
              | inr none ↦ absurd (no_some none now)
            ];
        replaced = λ z is. replaced_kept newest grows n z (was.replaced z (replaced_was goes.replaced is));
      })

  -- a claim of another node, which took the place of the node's master
  pub follows_next-keeps : (former next : ℕ) → next ≢ n → HasReplaced old next former → FollowsNext former next (old n) peer → Kept newest old new
  follows_next-keeps former next apart took follows = kept_by
      (record {
        master = λ none. absurd (no_some none follows.follows);
        paused = λ x is. follows.paused ∙ is;
        follows = λ m is. inr (record { replica = next; is = subst (λ (i : ℕ). (old i).paused ≡ Some next) (same_some follows.follows is) took.paused });
        led = λ j paused is. absurd (apart (same_some took.paused (subst (λ (i : ℕ). (old i).paused ≡ Some n) (same_some is follows.follows) paused)));
        still = λ x paused replica. absurd (replica_apart follows.follows x paused);
      })
      (λ grows.
      let was = each n in
      record {
        pauses = λ x is. absurd (replica_apart follows.follows x (paused_was follows.paused x is));
        led = λ x is. absurd (replica_apart follows.follows x (paused_was follows.paused x is));
        noted = λ handed is. absurd (no_some follows.note (sym (ap (λ (v : Peer H). v.note) changes.here) ∙ is));
        elected = λ epoch is. absurd (no_some follows.planned (sym (ap (λ (v : Peer H). v.planned) changes.here) ∙ is));
        replaced = λ z is. let took_place = was.replaced z (replaced_was follows.replaced is) in absurd (no_some took_place.master follows.follows);
      })

  -- a master is asked by its replica
  pub pauses-keeps : (replica epoch : ℕ) → IsTrue newest old replica n epoch Asks → Pauses replica (old n) peer → Kept newest old new
  pauses-keeps replica epoch asked pauses =
      let follows : (old n).paused ≡ None → (old replica).master ≡ Some n =
      λ none. elim asked [ inl paused ↦ absurd (no_some none paused.is) | inr is ↦ is ] in
      kept_by
      (record {
        master = λ none. pauses.master ∙ none;
        paused = λ x is. elim pauses.free [ inl none ↦ absurd (no_some none is) | inr some ↦ pauses.paused ∙ sym some ∙ is ];
        follows = λ m is. inl (pauses.master ∙ is);
        led = λ j paused is. inr (pauses.master ∙ is);
        still = λ x paused far. pauses.hands;
      })
      (λ grows.
      let was = each n in
      let none : (new n).master ≡ None = masters (pauses.master ∙ pauses.is_master) in
      let current : (old n).current ≤ (new n).current = subst (λ (v : Peer H). (old n).current ≤ v.current) (sym changes.here) pauses.current in
      let notes : (new n).note ≡ (old n).note = ap (λ (v : Peer H). v.note) changes.here ∙ pauses.note in
      let now : (x : ℕ) → (new n).paused ≡ Some x → x ≡ replica = λ x is. same_some (sym (ap (λ (v : Peer H). v.paused) changes.here) ∙ is) pauses.paused in
      let led_by : ((new replica).master ≡ None) ⊎ ((new replica).master ≡ Some n) =
      elim pauses.free [
        | inl free ↦ elim (grows.follows replica n (follows free)) [
          | inl still ↦ inr still
          | inr paused ↦ inr (ap (λ (v : Peer H). v.master) (changes.there replica (λ same. no_some pauses.is_master (subst (λ (i : ℕ). (old i).master ≡ Some n) same (follows free)))) ∙ follows free)
        ]
        | inr some ↦ led_kept newest grows n replica some (was.led replica some)
      ] in
      record {
        pauses = λ x is. none;
        led = λ x is. subst (λ (i : ℕ). ((new i).master ≡ None) ⊎ ((new i).master ≡ Some n)) (sym (now x is)) led_by;
        noted = λ handed is. note_kept newest grows n handed (masters pauses.master) current (was.noted handed (sym notes ∙ is));
        elected = λ e is.
            let above = was.elected e (sym pauses.planned ∙ sym (ap (λ (v : Peer H). v.planned) changes.here) ∙ is) in
            record { handed = above.handed; note = notes ∙ above.note; above = above.above };
        replaced = λ z is. replaced_kept newest grows n z (was.replaced z (replaced_was pauses.replaced is));
      })

  -- a replica is told what its master hands over
  pub notes-keeps : (from epoch : ℕ) (handed : H) → IsTrue newest old from n epoch (Hands handed) → Notes handed epoch (old n) peer → Kept newest old new
  notes-keeps from epoch handed said notes =
      let was = each n in
      let follows : (old n).master ≡ Some from = elim ((each from).led n said.0) [ inl none ↦ absurd (notes.is_replica none) | inr some ↦ some ] in
      let still : (old from).hands ≡ handed = said.1 notes.is_replica in
      kept_by
      (record {
        master = λ none. notes.master ∙ none;
        paused = λ x is. notes.paused ∙ is;
        follows = λ m is. inl (notes.master ∙ is);
        led = λ j paused is. inr (notes.master ∙ is);
        still = λ x paused far. absurd (replica_apart follows x paused);
      })
      (λ grows.
      let knows : epoch ≤ (new n).current = subst (λ (v : Peer H). epoch ≤ v.current) (sym changes.here) notes.knows in
      record {
        pauses = λ x is. absurd (replica_apart follows x (paused_was notes.paused x is));
        led = λ x is. absurd (replica_apart follows x (paused_was notes.paused x is));
        noted = λ other is.
            let same : handed ≡ other = same_some notes.note (sym (ap (λ (v : Peer H). v.note) changes.here) ∙ is) in
            subst (IsNoted newest new n) same (record {
              from = from;
              master = masters (notes.master ∙ follows);
              paused = grows.paused from n said.0;
              still = grows.still from n said.0 (λ none. no_some none (masters (notes.master ∙ follows))) ∙ still;
              epoch = (let named = said.2 in omega (arith, named, knows));
            });
        elected = λ e is.
            let above = was.elected e (sym notes.planned ∙ sym (ap (λ (v : Peer H). v.planned) changes.here) ∙ is) in
            let noted = was.noted above.handed above.note in
            let before : (old from).hands ≡ above.handed = subst (λ (i : ℕ). (old i).hands ≡ above.handed) (same_some noted.master follows) noted.still in
            record {
              handed = handed;
              note = ap (λ (v : Peer H). v.note) changes.here ∙ notes.note;
              above = subst (λ (h : H). newest h < e) (sym before ∙ still) above.above;
            };
        replaced = λ z is. replaced_kept newest grows n z (was.replaced z (replaced_was notes.replaced is));
      })

  -- an election for a handover begins
  pub begins-keeps : (handed : H) → Begins handed (old n) peer → Kept newest old new
  begins-keeps handed begins =
      let was = each n in
      let noted = was.noted handed begins.noted in
      kept_by
      (record {
        master = λ none. begins.master ∙ none;
        paused = λ x is. begins.paused ∙ is;
        follows = λ m is. inl (begins.master ∙ is);
        led = λ j paused is. inr (begins.master ∙ is);
        still = λ x paused far. absurd (replica_apart noted.master x paused);
      })
      (λ grows.
      let current : (new n).current ≡ (old n).current + 1 = ap (λ (v : Peer H). v.current) changes.here ∙ begins.current in
      let notes : (new n).note ≡ (old n).note = ap (λ (v : Peer H). v.note) changes.here ∙ begins.note in
      record {
        pauses = λ x is. absurd (replica_apart noted.master x (paused_was begins.paused x is));
        led = λ x is. absurd (replica_apart noted.master x (paused_was begins.paused x is));
        noted = λ other is. note_kept newest grows n other (masters begins.master) (omega (arith, current)) (was.noted other (sym notes ∙ is));
        elected = λ e is.
            let epoch : (old n).current + 1 ≡ e = same_some begins.planned (sym (ap (λ (v : Peer H). v.planned) changes.here) ∙ is) in
            let known = noted.epoch in
            record { handed = handed; note = notes ∙ begins.noted; above = omega (arith, known, epoch) };
        replaced = λ z is. replaced_kept newest grows n z (was.replaced z (replaced_was begins.replaced is));
      })

  -- a replica takes the place of its master, which handed over to it
  pub succeeds-keeps : (handed : H) (former epoch : ℕ) → Succeeds handed former epoch (old n) peer → Kept newest old new
  succeeds-keeps handed former epoch succeeds =
      let was = each n in
      let noted = was.noted handed succeeds.noted in
      let paused : (old former).paused ≡ Some n = subst (λ (i : ℕ). (old i).paused ≡ Some n) (same_some noted.master succeeds.follows) noted.paused in
      kept_by
      (record {
        master = λ none. succeeds.master;
        paused = λ x is. succeeds.paused ∙ is;
        follows = λ m is. inr (record { replica = n; is = subst (λ (i : ℕ). (old i).paused ≡ Some n) (same_some succeeds.follows is) paused });
        led = λ j follows is. inl succeeds.master;
        still = λ x is far. absurd (replica_apart succeeds.follows x is);
      })
      (λ grows. record {
        pauses = λ x is. absurd (replica_apart succeeds.follows x (paused_was succeeds.paused x is));
        led = λ x is. absurd (replica_apart succeeds.follows x (paused_was succeeds.paused x is));
        noted = λ other is. absurd (no_some succeeds.note (sym (ap (λ (v : Peer H). v.note) changes.here) ∙ is));
        elected = λ e is. absurd (no_some succeeds.planned (sym (ap (λ (v : Peer H). v.planned) changes.here) ∙ is));
        replaced = λ z is.
            let same : former ≡ z = same_some succeeds.replaced (sym (ap (λ (v : Peer H). v.replaced) changes.here) ∙ is) in
            subst (HasReplaced new n) same (record { master = masters succeeds.master; paused = grows.paused former n paused });
      })

-- what a planned promotion stands on: the master hands over to the node, and just what the node noted; and the election is above that
pub record IsHandedOver {H : Type 0} (newest : H → ℕ) (peers : Peers H) (node : ℕ) (handed : H) (epoch : ℕ) : Type 0 where
  pub from : ℕ
  pub follows : (peers node).master ≡ Some from
  pub paused : (peers from).paused ≡ Some node
  pub master : (peers from).master ≡ None
  pub hands : (peers from).hands ≡ handed
  pub above : newest handed < epoch

pub is_handed_over : {H : Type 0} (newest : H → ℕ) {peers : Peers H} → ((j : ℕ) → PeerStands newest peers j) → (node epoch : ℕ) (handed : H) → (peers node).note ≡ Some handed → (peers node).planned ≡ Some epoch
    → IsHandedOver newest peers node handed epoch
is_handed_over newest {peers} each node epoch handed note planned =
    let noted = (each node).noted handed note in
    let above = (each node).elected epoch planned in
    record {
      from = noted.from;
      follows = noted.master;
      paused = noted.paused;
      master = (each noted.from).pauses node noted.paused;
      hands = noted.still;
      above = subst (λ h. newest h < epoch) (same_some above.note note) above.above;
    }

-- What never goes back in handovers, and what stays true by that.
use Rattle.std.proofs.Common.{◌≡◌, ◌≢◌, ◌≤◌, ◌⊎◌, ℕ, Option, Some, None, sym, ap, subst, ◌∙◌, inl, inr, arith}
use Rattle.std.proofs.lemmas.Bool.{cases_eq}
use Rattle.handovers.specs.Events.{ChangesPeer}
use Rattle.handovers.specs.Peers.{Peer, Peers, Said}
use Rattle.handovers.specs.Peers.Said.{Asks, Hands, Took, Nothing}
use Rattle.handovers.specs.Stands.{HasReplaced, IsNoted, IsPaused, IsTrue, PeerStands}

pub no_some : {A : Type 0} {o : Option A} {x : A} → o ≡ None → o ≡ Some x → ⊥
no_some none some = cc

pub same_some : {A : Type 0} {o : Option A} {x y : A} → o ≡ Some x → o ≡ Some y → x ≡ y
same_some one two = cc

-- masters stay masters, and who hands over does so for good; a replica follows its master, or that one hands over, and whoever is handed over
-- to is a master then, or follows still; and who hands over to a replica stands still
pub record Grows {H : Type 0} (old new : Peers H) : Type 0 where
  pub master : (j : ℕ) → (old j).master ≡ None → (new j).master ≡ None
  pub paused : (j x : ℕ) → (old j).paused ≡ Some x → (new j).paused ≡ Some x
  pub follows : (j m : ℕ) → (old j).master ≡ Some m → ((new j).master ≡ Some m) ⊎ IsPaused (new m)
  pub led : (j x : ℕ) → (old j).paused ≡ Some x → (old x).master ≡ Some j → ((new x).master ≡ None) ⊎ ((new x).master ≡ Some j)
  pub still : (j x : ℕ) → (old j).paused ≡ Some x → (new x).master ≢ None → (new j).hands ≡ (old j).hands

module _ {H : Type 0} (newest : H → ℕ) {old new : Peers H} (grows : Grows old new) where
  pub replaced_kept : (x z : ℕ) → HasReplaced old x z → HasReplaced new x z
  replaced_kept x z was = record { master = grows.master x was.master; paused = grows.paused z x was.paused }

  pub true_kept : (from to epoch : ℕ) (said : Said H) → IsTrue newest old from to epoch said → IsTrue newest new from to epoch said
  true_kept from to epoch Asks was =
      elim was [
        | inl paused ↦ inl (record { replica = paused.replica; is = grows.paused to paused.replica paused.is })
        | inr follows ↦ elim (grows.follows from to follows) [ inl still ↦ inr still | inr paused ↦ inl paused ]
      ]
  true_kept from to epoch (Hands handed) was =
      (grows.paused from to was.0, λ replica. grows.still from to was.0 replica ∙ was.1 (λ none. replica (grows.master to none)), was.2)
  true_kept from to epoch (Took former) was = replaced_kept from former was
  true_kept from to epoch Nothing was = tt

  -- a note that stays
  pub note_kept : (j : ℕ) (handed : H) → (new j).master ≡ (old j).master → (old j).current ≤ (new j).current → IsNoted newest old j handed → IsNoted newest new j handed
  note_kept j handed masters current noted = record {
    from = noted.from;
    master = masters ∙ noted.master;
    paused = grows.paused noted.from j noted.paused;
    still = grows.still noted.from j noted.paused (λ none. no_some none (masters ∙ noted.master)) ∙ noted.still;
    epoch = (let known = noted.epoch in omega (arith, known, current));
  }

  pub led_kept : (j x : ℕ) → (old j).paused ≡ Some x → ((old x).master ≡ None) ⊎ ((old x).master ≡ Some j) → ((new x).master ≡ None) ⊎ ((new x).master ≡ Some j)
  led_kept j x paused was = elim was [ inl none ↦ inl (grows.master x none) | inr some ↦ grows.led j x paused some ]

  -- a node that is as it was
  pub node_kept : (j : ℕ) → new j ≡ old j → PeerStands newest old j → PeerStands newest new j
  node_kept j same was =
      let masters : (new j).master ≡ (old j).master = ap (λ (v : Peer H). v.master) same in
      let pauses : (new j).paused ≡ (old j).paused = ap (λ (v : Peer H). v.paused) same in
      let notes : (new j).note ≡ (old j).note = ap (λ (v : Peer H). v.note) same in
      let currents : (old j).current ≤ (new j).current = subst (λ (v : Peer H). (old j).current ≤ v.current) (sym same) (omega arith) in
      record {
        pauses = λ x paused. masters ∙ was.pauses x (sym pauses ∙ paused);
        led = λ x paused. let before : (old j).paused ≡ Some x = sym pauses ∙ paused in led_kept j x before (was.led x before);
        noted = λ handed is. note_kept j handed masters currents (was.noted handed (sym notes ∙ is));
        elected = λ epoch is.
            let above = was.elected epoch (sym (ap (λ (v : Peer H). v.planned) same) ∙ is) in
            record { handed = above.handed; note = notes ∙ above.note; above = above.above };
        replaced = λ z is. replaced_kept j z (was.replaced z (sym (ap (λ (v : Peer H). v.replaced) same) ∙ is));
      }

-- one node changes
pub record GrowsAt {H : Type 0} (old : Peers H) (n : ℕ) (peer : Peer H) : Type 0 where
  pub master : (old n).master ≡ None → peer.master ≡ None
  pub paused : (x : ℕ) → (old n).paused ≡ Some x → peer.paused ≡ Some x
  pub follows : (m : ℕ) → (old n).master ≡ Some m → (peer.master ≡ Some m) ⊎ IsPaused (old m)
  pub led : (j : ℕ) → (old j).paused ≡ Some n → (old n).master ≡ Some j → (peer.master ≡ None) ⊎ (peer.master ≡ Some j)
  pub still : (x : ℕ) → (old n).paused ≡ Some x → (old x).master ≢ None → peer.hands ≡ (old n).hands

module _ {H : Type 0} {old new : Peers H} {n : ℕ} {peer : Peer H} (changes : ChangesPeer old new n peer) where
  pub everywhere : (P : ℕ → Type 0) → P n → ((j : ℕ) → j ≢ n → P j) → (j : ℕ) → P j
  everywhere P here there j =
      elim (cases_eq j n) [
        | inl same ↦ subst P (sym same) here
        | inr other ↦ there j other
      ]

  paused_so : GrowsAt old n peer → (j x : ℕ) → (old j).paused ≡ Some x → (new j).paused ≡ Some x
  paused_so at = everywhere (λ j. (x : ℕ) → (old j).paused ≡ Some x → (new j).paused ≡ Some x)
      (λ x is. ap (λ (v : Peer H). v.paused) changes.here ∙ at.paused x is)
      (λ j other x is. ap (λ (v : Peer H). v.paused) (changes.there j other) ∙ is)

  masters_so : GrowsAt old n peer → (j : ℕ) → (old j).master ≡ None → (new j).master ≡ None
  masters_so at = everywhere (λ j. (old j).master ≡ None → (new j).master ≡ None)
      (λ is. ap (λ (v : Peer H). v.master) changes.here ∙ at.master is)
      (λ j other is. ap (λ (v : Peer H). v.master) (changes.there j other) ∙ is)

  pub grows_at : GrowsAt old n peer → Grows old new
  grows_at at = record {
    master = masters_so at;
    paused = paused_so at;
    follows = everywhere (λ j. (m : ℕ) → (old j).master ≡ Some m → ((new j).master ≡ Some m) ⊎ IsPaused (new m))
        (λ m is. elim (at.follows m is) [
          | inl still ↦ inl (ap (λ (v : Peer H). v.master) changes.here ∙ still)
          | inr paused ↦ inr (record { replica = paused.replica; is = paused_so at m paused.replica paused.is })
        ])
        (λ j other m is. inl (ap (λ (v : Peer H). v.master) (changes.there j other) ∙ is));
    led = λ j x. everywhere (λ x. (old j).paused ≡ Some x → (old x).master ≡ Some j → ((new x).master ≡ None) ⊎ ((new x).master ≡ Some j))
        (λ paused is. elim (at.led j paused is) [
          | inl none ↦ inl (ap (λ (v : Peer H). v.master) changes.here ∙ none)
          | inr some ↦ inr (ap (λ (v : Peer H). v.master) changes.here ∙ some)
        ])
        (λ x other paused is. inr (ap (λ (v : Peer H). v.master) (changes.there x other) ∙ is)) x;
    still = everywhere (λ j. (x : ℕ) → (old j).paused ≡ Some x → (new x).master ≢ None → (new j).hands ≡ (old j).hands)
        (λ x paused replica. ap (λ (v : Peer H). v.hands) changes.here ∙ at.still x paused (λ none. replica (masters_so at x none)))
        (λ j other x paused replica. ap (λ (v : Peer H). v.hands) (changes.there j other));
  }

  -- each node stands, where the one that changes does
  pub peers_kept : (newest : H → ℕ) → Grows old new → ((j : ℕ) → PeerStands newest old j) → PeerStands newest new n → (j : ℕ) → PeerStands newest new j
  peers_kept newest grows each here = everywhere (PeerStands newest new) here (λ j other. node_kept newest grows j (changes.there j other) (each j))

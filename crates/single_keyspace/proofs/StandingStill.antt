-- A master that hands over stands still: what it hands over stays the same, as long as nobody took its place.
use Rattle.std.proofs.Common.{◌≡◌, ◌≢◌, ◌==◌, ◌&&◌, ℕ, List, true, Option, Some, None, Contains, refl, sym, ap, subst, ◌∙◌, inl, inr, arith}
use Rattle.std.proofs.lemmas.Bool.{and_parts, cond-false, eqb-true, ltb-true, ne_eqb, or_cases}
use Rattle.std.specs.Prelude.{is_some, nat_lt}
use Rattle.bus.specs.declared.message.Body.{Body}
use Rattle.bus.specs.declared.bodies.SlotsBody.TheVariants as of_slots
use Rattle.bus.specs.declared.message.Body.TheVariants as body
use Rattle.bus.specs.declared.message.Message.{Message}
use Rattle.bus.specs.declared.bodies.Replaced.{Replaced}
use Rattle.keyspace.specs.Keyspace.{Keyspace}
use Rattle.keyspace.specs.declared.value.Value.{Value}
use Rattle.one_slot.proofs.ViewLemmas.{named_or_not}
use Rattle.one_slot.specs.Sent.Sent.{Claimed}
use Rattle.one_slot.specs.Slot.{IsAtMost}
use Rattle.one_slot.specs.View.{View}
use Rattle.slot_state.specs.Moves.{move_of}
use Rattle.slot_table.specs.Claims.{claimed, is_above, merged}
use Rattle.slot_table.specs.Runs.{runs_of}
use Rattle.slot_table.specs.Table.{claim_at, entry_at, epoch_in, owner_at, owner_in}
use Rattle.slot_table.specs.declared.entry.SlotEntry.{SlotEntry}
use Rattle.slot_table.specs.declared.runs.Run.{Run}
use Rattle.node_step.proofs.Merging.{claimed_owner, merged_cases}
use Rattle.node_step.specs.Handovers.{handing_of}
use Rattle.node_step.specs.Outcome.{Outcome}
use Rattle.node_step.specs.State.{NodeState}
use Rattle.node_step.specs.Step.{MayCome}
use Rattle.node_step.specs.declared.event.Event.{Event}
use Rattle.node_step.specs.declared.event.Event.TheVariants.{Open, Close, Request, Deliver, Tick}
use Rattle.world_run.specs.Run.{Entry, MayHappen, sent_by}
use Rattle.single_keyspace.proofs.Replicas.{IdleStands}
use Rattle.single_keyspace.proofs.Seen.{SlotWas, same_some}
use Rattle.single_keyspace.proofs.Still.{KeepsBy, stream_still}
use Rattle.single_keyspace.proofs.Tabling.{TableIs}
use Rattle.single_keyspace.specs.Stands.{NodeStands, Says}

not_above : (top claim : SlotEntry) → IsAtMost top claim → is_above claim (Some top) ≡ true → ⊥
not_above top claim most above =
    elim (or_cases (nat_lt top.epoch claim.epoch) (top.epoch == claim.epoch && nat_lt top.owner claim.owner) above) [
      | inl newer ↦ omega (arith, ltb-true top.epoch claim.epoch newer, most.epoch)
      | inr both ↦
          let parts = and_parts (top.epoch == claim.epoch) (nat_lt top.owner claim.owner) both in
          omega (arith, most.owner (sym (eqb-true top.epoch claim.epoch parts.0)), ltb-true top.owner claim.owner parts.1)
    ]

no_epoch : (n : ℕ) (entry : Option SlotEntry) → owner_in entry ≢ Some n → epoch_in n entry ≡ None
no_epoch n None other = refl
no_epoch n (Some entry) other = cond-false (entry.owner == n) (Some entry.epoch) None (ne_eqb entry.owner n (λ same. other (ap Some same)))

module _ {past : List Entry} {n : ℕ} {before : NodeState} {one : Keyspace} (was : (slot : ℕ) → SlotWas past n before one slot) (stands : NodeStands n before)
    (idle : (slot : ℕ) → move_of before.moves slot ≡ None) where
  -- no claim is above an own slot's entry
  module _ (message : Message) (among : Contains (sent_by past) message) (runs : List (Run ℕ)) (replaced : Option Replaced) (says : message.body ≡ body.Slots (of_slots.Claim runs replaced)) (slot : ℕ) where
    claim_most : (entry : SlotEntry) → claimed runs message.from slot ≡ Some entry → IsAtMost (was slot).top entry
    claim_most entry is =
        let owner : entry.owner ≡ message.from = claimed_owner runs message.from slot entry is in
        let its : claimed runs message.from slot ≡ Some (record { epoch = entry.epoch; owner = message.from }) = is ∙ ap (λ (o : ℕ). Some (record { epoch = entry.epoch; owner = o })) owner in
        subst (λ (o : ℕ). IsAtMost (was slot).top (record { epoch = entry.epoch; owner = o })) (sym owner)
        ((was slot).history.sent message (Claimed message.from entry.epoch) among
        (subst (λ (b : Body). Says slot message.from message.to b (Claimed message.from entry.epoch)) (sym says) (entry.epoch, its, refl)))

    own_is_top : owner_at before.table slot ≡ Some n → entry_at before.table slot ≡ Some (was slot).top
    own_is_top named = by_place (named_top)
      where
        named_top : n ≡ (was slot).top.owner
        named_top =
            elim (named_or_not (Some n) (was slot).top.owner) [
              | inl same ↦ same_some refl same
              | inr far ↦
                  absurd (((was slot).holds.others n (λ same. far (ap Some same))).owned (ap (λ (v : View Value). owner_in v.entry) (was slot).here ∙ named)
                  (ap (λ (v : View Value). v.move) (was slot).here ∙ idle slot))
            ]

        by_place : n ≡ (was slot).top.owner → entry_at before.table slot ≡ Some (was slot).top
        by_place same =
            ap (λ (v : View Value). v.entry) (sym (was slot).here) ∙ subst (λ (i : ℕ). ((was slot).seen i).entry ≡ Some (was slot).top) (sym same) (was slot).holds.holder.entry

    own_stays : owner_at before.table slot ≡ Some n → entry_at (merged before.table runs message.from) slot ≡ entry_at before.table slot
    own_stays named =
        elim (merged_cases before.table runs message.from slot stands.slots) [
          | inl stays ↦ stays
          | inr taken ↦ absurd (not_above (was slot).top taken.0 (claim_most taken.0 taken.1) (ap (is_above taken.0) (sym (own_is_top named)) ∙ taken.2))
        ]

    claim_stays : message.from ≢ n → claim_at (merged before.table runs message.from) n slot ≡ claim_at before.table n slot
    claim_stays apart =
        elim (named_or_not (owner_at before.table slot) n) [
          | inl named ↦ ap (epoch_in n) (own_stays named)
          | inr other ↦
              elim (merged_cases before.table runs message.from slot stands.slots) [
                | inl stays ↦ ap (epoch_in n) stays
                | inr taken ↦
                    ap (epoch_in n) taken.3
                    ∙ no_epoch n (Some taken.0) (λ same. apart (sym (claimed_owner runs message.from slot taken.0 taken.1) ∙ same_some refl same))
                    ∙ sym (no_epoch n (entry_at before.table slot) other)
              ]
        ]

  claims_same : (event : Event) → MayHappen past event → (new : NodeState) → TableIs event before new → claim_at new.table n ≡ claim_at before.table n
  claims_same event happens new (TableIs.same is) = ap (λ t. claim_at t n) is
  claims_same event happens new (TableIs.ends slot moving is) = absurd (moving (idle slot))
  claims_same event happens new (TableIs.learns message runs replaced is says apart now) =
      ap (λ t. claim_at t n) now
      ∙ (λ i slot. claim_stays message (subst (λ (e : Event). MayHappen past e) is happens) runs replaced says slot (λ same. apart (same ∙ sym stands.number_is)) i)

  module _ (replica : ℕ) (paused : before.paused ≡ Some replica) where
    idles : IdleStands n before
    idles = record { number_is = stands.number_is; slots = stands.slots; bars = inr (ap is_some paused); rests = λ slot named. ap is_some paused; idle = idle }

    keeps_own : (event : Event) → MayHappen past event → KeepsBy before idles stands.is_master event
    keeps_own (Deliver message) happens = λ runs other is slot named.
        ap owner_in (own_stays message happens runs is.0 is.1 slot (named ∙ ap Some stands.number_is)) ∙ named
    keeps_own Open happens = tt
    keeps_own (Close conn) happens = tt
    keeps_own (Request conn words) happens = tt
    keeps_own Tick happens = tt

    pub hands_same : (event : Event) (outcome : Outcome) → MayHappen past event → MayCome before event outcome → TableIs event before outcome.state → outcome.state.number ≡ n → handing_of outcome.state ≡ handing_of before
    hands_same event outcome happens may table number =
        let stream : outcome.state.stream ≡ before.stream = stream_still before idles stands.is_master event outcome may (keeps_own event happens) in
        let claims : claim_at outcome.state.table outcome.state.number ≡ claim_at before.table before.number =
        ap (claim_at outcome.state.table) number ∙ claims_same event happens outcome.state table ∙ ap (claim_at before.table) (sym stands.number_is) in
        λ i. record { stream = (stream i).held.id; offset = (stream i).offset; slots = runs_of (claims i) }

use Rattle.std.proofs.Common.{arith, ◌∙◌, ◌≡◌, ◌<◌, sym, ap, ℕ, List, ◌++◌, append-nil, true, []}
use Rattle.std.specs.List.{Any}
use Rattle.slot_table.specs.Claims.{taken}
use Rattle.slot_table.specs.Remembered.{LiesIn}
use Rattle.slot_table.proofs.MergeLemmas.{next_taken, taken_nothing, taken_in}
use Rattle.slot_table.proofs.KnownLemmas.{takes_nothing, says_nothing}
use Rattle.slot_table.proofs.merging.taken_slots.Goals as goal
use Rattle.slot_table.proofs.merging.taken_slots.Goals.{then-not-is_in_known+in_ok-list_taken, else-not-is_in_known}

pub loop-run-init : goal.loop-run-init
loop-run-init c = ap (λ (slots : List ℕ). slots ++ taken c.args.entries.now c.args.claim.now c.args.owner) c.new-slots.ensures.items

pub loop-run-preserved : goal.loop-run-preserved
loop-run-preserved c =
    let table = c.args.entries.now in
    let known = c.args.known.now in
    let owner = c.args.owner in
    let run = c.run-item.result in
    let old : List ℕ = c.loop-run.slots.items in
    elim c.if-not-is_in_known.branch [
      | then-not-is_in_known+in_ok-list_taken w ↦
          next_taken table c.args.claim.now owner c.loop-run.run-index run old _ c.requires.rising (omega arith) c.run-item.is w.list_taken.ensures.first w.list_taken.ensures.last
          (ap (λ v. v.items) w.slots-is ∙ w.in_ok-list_taken.ensures.listed) c.loop-run.invariant
      | else-not-is_in_known w ↦
          let is : c.is_in_known.result ≡ true = w.if-not-is_in_known.false in
          let last : run.slots.last < 16384 = c.is_in_known.ensures.last is in
          let lies : Any (LiesIn run) known = c.is_in_known.ensures.lies is in
          let none : taken_in table run.slots (record { epoch = run.value; owner = owner }) ≡ [] = takes_nothing table known owner run c.requires.in_order lies (says_nothing table known owner c.requires.known) last in
          next_taken table c.args.claim.now owner c.loop-run.run-index run old _ c.requires.rising (omega arith) c.run-item.is c.is_in_known.ensures.first last
          (ap (λ v. v.items) w.slots-is ∙ sym (append-nil old) ∙ ap (λ (xs : List ℕ). old ++ xs) (sym none)) c.loop-run.invariant
    ]

pub returns : goal.returns
returns c =
    sym (append-nil c.loop-run.slots.items)
    ∙ ap (λ (rest : List ℕ). c.loop-run.slots.items ++ rest) (sym (taken_nothing c.args.entries.now c.args.claim.now c.args.owner c.loop-run.run-index (omega arith)))
    ∙ c.loop-run.invariant

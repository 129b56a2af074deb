-- Turns of a loop, each of which moves a byte or is counted as failed.
use Rattle.std.proofs.Common.{◌≡◌, ◌<◌, ◌≤◌, ◌+◌, ◌-◌, ◌^◌, ◌⊎◌, ◌++◌, inl, inr, ℕ, List, length, min, sym, subst, ◌∙◌, arith}
use Rattle.std.proofs.Math.Nat.{le-min, min-le_right}
use Rattle.std.proofs.lemmas.List.{length-append}
use Rattle.resp2.specs.Counting.{HasRisen}
use Rattle.exchange.specs.Exchange.{HasFailed}

-- so many turns moved as many bytes at least, or one of them failed
abbrev pub Counts : ℕ → ℕ → ℕ → ℕ → Type 0
Counts turns moved old new = ((turns ≤ moved) × (new ≡ old)) ⊎ HasFailed old new

pub failed_once : (old new : ℕ) → HasRisen old new → HasFailed old new
failed_once old new risen = omega arith

pub failed_again : (old mid new : ℕ) → HasFailed old mid → HasRisen mid new → HasFailed old new
failed_again old mid new failed risen =
    subst (λ n. min (old + 1) (2 ^ 64 - 1) ≤ n) (sym risen) (le-min (omega arith) (min-le_right (old + 1) (2 ^ 64 - 1)))

-- a turn failed
pub turn_failed : (turns moved old mid new : ℕ) → Counts turns moved old mid → HasRisen mid new → HasFailed old new
turn_failed turns moved old mid new (inl well) risen = failed_once old new (subst (λ n. HasRisen n new) well.1 risen)
turn_failed turns moved old mid new (inr failed) risen = failed_again old mid new failed risen

-- a turn moved some bytes
pub turn_moved : (turns moved more old mid new : ℕ) → Counts turns moved old mid → 0 < more → new ≡ mid → Counts (turns + 1) (moved + more) old new
turn_moved turns moved more old mid new (inl well) some same = inl (omega arith, same ∙ well.1)
turn_moved turns moved more old mid new (inr failed) some same = inr (subst (λ n. HasFailed old n) (sym same) failed)

-- there were more turns than bytes
pub turns_over : (turns moved old new : ℕ) → Counts turns moved old new → moved < turns → HasFailed old new
turns_over turns moved old new (inl well) over = absurd (omega arith)
turns_over turns moved old new (inr failed) over = failed

-- one moved some bytes, and then the writer failed
pub turn_broken : (turns moved old mid between new : ℕ) → Counts turns moved old mid → between ≡ mid → HasRisen between new → HasFailed old new
turn_broken turns moved old mid between new counts same risen = turn_failed turns moved old mid new counts (subst (λ n. HasRisen n new) same risen)

-- a read gave these
pub read_moved : (turns : ℕ) (came more : List ℕ) (old mid new : ℕ) → Counts turns (length came) old mid → 0 < length more → new ≡ mid
    → Counts (turns + 1) (length (came ++ more)) old new
read_moved turns came more old mid new counts some same =
    subst (λ n. Counts (turns + 1) n old new) (sym (length-append came more)) (turn_moved turns (length came) (length more) old mid new counts some same)

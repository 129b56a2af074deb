-- The kinds of errors that are refusals, one by one.
use Rattle.std.proofs.Common.{◌≡◌, ℕ, false, List}
use Rattle.std.proofs.lemmas.Bool.{or_parts}
use Rattle.std.specs.Prelude.{codes}
use Rattle.reply_meaning.specs.Reasons.{is_of_kind}
use Rattle.reply_meaning.specs.Refusal.{begins_so}

-- the error is of none of them
pub record IsOther (text : List ℕ) : Type 0 where
  pub moved : is_of_kind text (codes "MOVED") ≡ false
  pub ask : is_of_kind text (codes "ASK") ≡ false
  pub again : is_of_kind text (codes "TRYAGAIN") ≡ false
  pub two_slots : is_of_kind text (codes "CROSSSLOT") ≡ false
  pub down : is_of_kind text (codes "CLUSTERDOWN") ≡ false
  pub memory : is_of_kind text (codes "OOM") ≡ false
  pub number : is_of_kind text (codes "EXHAUSTED") ≡ false

pub other_so : (text : List ℕ) → begins_so text ≡ false → IsOther text
other_so text is =
    let moved = or_parts (is_of_kind text (codes "MOVED")) _ is in
    let ask = or_parts (is_of_kind text (codes "ASK")) _ moved.1 in
    let again = or_parts (is_of_kind text (codes "TRYAGAIN")) _ ask.1 in
    let two_slots = or_parts (is_of_kind text (codes "CROSSSLOT")) _ again.1 in
    let down = or_parts (is_of_kind text (codes "CLUSTERDOWN")) _ two_slots.1 in
    let memory = or_parts (is_of_kind text (codes "OOM")) _ down.1 in
    let number = or_parts (is_of_kind text (codes "EXHAUSTED")) _ memory.1 in
    record { moved = moved.0; ask = ask.0; again = again.0; two_slots = two_slots.0; down = down.0; memory = memory.0; number = number.0 }

-- A master has no master.
use Rattle.std.proofs.Common.{◌≡◌, ℕ, true, false, Option, Some, None, refl}
use Rattle.std.proofs.lemmas.Bool.{both_ways}
use Rattle.std.specs.Prelude.{is_some}
use Rattle.node_step.specs.Roles.{is_just}

pub no_messages_from_master : (master : Option ℕ) (from : ℕ) → is_some master ≡ false → is_just master from ≡ false
no_messages_from_master None from is = refl
no_messages_from_master (Some m) from is = absurd (both_ways true is refl)

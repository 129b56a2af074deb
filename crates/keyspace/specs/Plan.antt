-- A plan: changes that are decided and not made yet (ours).
use Rattle.std.specs.Prelude.{◌≡◌, ℕ, nat_lt, Bool, List, Option, Some, None}
use Rattle.std.specs.FinMap as map
use Rattle.keyspace.specs.Keyspace.{Keyspace, with_appended, with_fields}
use Rattle.keyspace.specs.Changes.{Changes, applied}
use Rattle.keyspace.specs.Putting.{with_pairs}
use Rattle.keyspace.specs.declared.plans.LastStep.{LastStep}
use Rattle.keyspace.specs.declared.plans.LastStep.TheVariants.{Append, Fields, Pairs}
use Rattle.keyspace.specs.declared.plans.Plan.{Plan}

-- a step made
abbrev pub with_step : Keyspace → LastStep → Keyspace
with_step keyspace (Append key bytes) = with_appended keyspace key bytes
with_step keyspace (Fields key changes) = with_fields keyspace key changes
with_step keyspace (Pairs pairs) = with_pairs keyspace pairs.items

-- the values put, and then the step made
abbrev pub with_both : Keyspace → Changes → LastStep → Keyspace
with_both keyspace values step = with_step (applied keyspace values) step

-- the last step made, if there is one
abbrev pub with_last : Keyspace → Option LastStep → Keyspace
with_last keyspace None = keyspace
with_last keyspace (Some step) = with_step keyspace step

-- the keyspace once the plan is committed: first the values, then the last step
unfoldable pub committed : Keyspace → Plan → Keyspace
committed keyspace plan = with_last (applied keyspace plan.values) plan.last

-- the plan ends with the step, which follows its values
abbrev pub EndsWith : Plan → Plan → LastStep → Type 0
EndsWith old new step = (keyspace : Keyspace) → committed keyspace new ≡ with_both keyspace old.values step

-- the values alone leave what the plan left
abbrev pub Settles : Keyspace → Plan → Plan → Type 0
Settles keyspace old new = applied keyspace new.values ≡ committed keyspace old

-- the new values make the step, too
abbrev pub AddsStep : Keyspace → Changes → Changes → LastStep → Type 0
AddsStep keyspace old new step = applied keyspace new ≡ with_both keyspace old step

-- a key is there once the plan is committed
abbrev pub leaves_keys : Keyspace → Plan → Bool
leaves_keys keyspace plan = nat_lt 0 (map.len (committed keyspace plan))

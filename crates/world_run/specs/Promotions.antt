-- Promotions in a run (Redis Cluster specification, "Replica election and promotion").
use Rattle.std.specs.Prelude.{ℕ, Bool, false, not, List, [], ◌∷◌, Option, Some, None, option_map, if◌then◌else◌}
use Rattle.std.specs.List.{filter_map}
use Rattle.node_step.specs.declared.promotion.Promotion.{Promotion}
use Rattle.world_run.specs.Run.{Deed, Entry}
use Rattle.world_run.specs.Run.Deed.{Made, Skipped}

-- the promotion that an entry tells
abbrev pub promoted_in : Deed → Option Promotion
promoted_in (Made event outputs) = outputs.promoted
promoted_in Skipped = None

-- a node was promoted
pub record Promoted : Type 0 where
  pub node : ℕ
  pub promotion : Promotion

abbrev pub promotion_at : Entry → Option Promoted
promotion_at entry = option_map (λ promotion. record { node = entry.node; promotion = promotion }) (promoted_in entry.deed)

-- all promotions, in order
abbrev pub promotions : List Entry → List Promoted
promotions entries = filter_map promotion_at entries

-- ---- up to the first unplanned one

-- where the former master didn't hand over, replies are those of one keyspace no longer: writes that it executed may be lost
abbrev pub ends_one_keyspace : Option Promotion → Bool
ends_one_keyspace None = false
ends_one_keyspace (Some promotion) = not promotion.planned

-- the entries before the first such promotion; all of them, if there is none
abbrev pub until_promotion : List Entry → List Entry
until_promotion [] = []
until_promotion (entry ∷ entries) = if ends_one_keyspace (promoted_in entry.deed) then [] else entry ∷ until_promotion entries

-- The two ends of a link (ours).
use Rattle.std.specs.Prelude.{◌≡◌, List, length}
use Rattle.atomic_table.specs.Seated.{TableId}
use Rattle.crossbeam_queue.specs.Passes.{Pass}
use Rattle.link_ends.specs.declared.rule.Known.{Known}
use Rattle.link_ends.specs.Rule.{EndsWith}

-- what a pass knows
abbrev pub known_to : {T : Type 0} → Pass T (Known T) → Known T
known_to pass = pass.me.0.client

-- the end that sends: its link, and what it sent
pub record SenderView (T : Type 0) : Type 0 where
  pub link : TableId
  pub sent : List T

-- the end that receives: its link, and what it received
pub record ReceiverView (T : Type 0) : Type 0 where
  pub link : TableId
  pub received : List T

-- the last messages that were sent wait, as many as there is room for
abbrev pub WasFull : {T : Type 0} → List T → Type 0
WasFull sent = (waiting : List _) × (length waiting ≡ 1024) × EndsWith sent waiting

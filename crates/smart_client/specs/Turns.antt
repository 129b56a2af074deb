-- What a function that makes a turn gives and leaves.
use Rattle.std.specs.Prelude.{◌≡◌, ◌<◌, ◌≤◌, ◌⊎◌, length, Option, Result, Ok, Err, IsTrue, IfSome, All}
use Rattle.redirection.specs.declared.redirection.Redirection.{Redirection}
use Rattle.smart_client.specs.State.{ClientState}
use Rattle.smart_client.specs.Step.{Tells, Turn, takes_memory}
use Rattle.smart_client.specs.Step.Turn.{Goes, Ends, Reads}
use Rattle.smart_client.specs.declared.action.Action.{Action}
use Rattle.smart_client.specs.declared.call.Call.{Call}
use Rattle.smart_client.specs.Limits.{most_redirections}
use Rattle.smart_client.specs.declared.ended.Ended.{Ended}
use Rattle.smart_client.specs.declared.fault.ClientFault.TheVariants.{Memory}

-- the call goes to a node that is known, and its counts are within their limits
pub record IsCall (client : ClientState) (call : Call) : Type 0 where
  pub known : call.to < length client.peers
  pub redirections : call.redirections ≤ most_redirections
  pub repeats : call.repeats ≤ client.limit

-- a node is known to begin with, each slot has its place, and owners are known
pub record IsClient (client : ClientState) : Type 0 where
  pub some : 0 < length client.peers
  pub slots : length client.owners ≡ 16384
  pub owners : All (λ owner. IfSome owner (λ place. place < length client.peers)) client.owners
  pub call : IfSome client.call (IsCall client)

-- memory was refused, and nothing changed
abbrev pub WantsMemory : ClientState → Result Action Ended → ClientState → Type 0
WantsMemory old (Ok done) new = ⊥
WantsMemory old (Err ended) new = (ended.answer ≡ Err Memory) × (new ≡ old)

-- the turn is made
abbrev pub Does : Turn → ClientState → Result Action Ended → ClientState → Type 0
Does (Goes client action) old (Ok done) new = (done ≡ action) × (new ≡ client)
Does (Goes client action) old (Err ended) new = ⊥
Does (Ends answer) old (Ok done) new = ⊥
Does (Ends answer) old (Err ended) new = (ended.answer ≡ answer) × (new ≡ old)
Does (Reads text turn_by) old result new = (redirection : Option Redirection) × Tells text redirection × Does (turn_by redirection) old result new

-- it is made, or memory is refused that it takes
abbrev pub Makes : Turn → ClientState → Result Action Ended → ClientState → Type 0
Makes turn old result new = Does turn old result new ⊎ (IsTrue (takes_memory turn) × WantsMemory old result new)

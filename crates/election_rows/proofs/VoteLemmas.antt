-- Votes and promotions, as a node drafts them.
use Rattle.std.proofs.Common.{◌≡◌, ℕ, Bool, List, [], Some, ap, subst, ◌∙◌}
use Rattle.bus.specs.declared.message.Body.{Body}
use Rattle.bus.specs.declared.bodies.SlotsBody.TheVariants.{Claim}
use Rattle.bus.specs.declared.message.Body.TheVariants.{Slots}
use Rattle.bus.specs.declared.bodies.Replaced.{Replaced}
use Rattle.election.specs.declared.voter.VoteRequest.{VoteRequest}
use Rattle.node_parts.specs.Drafts.{Drafts, Promotes}
use Rattle.node_parts.specs.Succession.{promoting, replacement}
use Rattle.node_parts.specs.declared.draft.Draft.{Draft}
use Rattle.node_parts.specs.declared.succession.Succession.{Succession}
use Rattle.node_step.specs.Orders.{others, to_all}
use Rattle.node_step.specs.Outcome.{Outcome, silent}
use Rattle.node_step.specs.Promotion.{promotion_to}
use Rattle.node_step.specs.State.{NodeState}
use Rattle.node_step.specs.Voting.{grant_to}
use Rattle.node_step.specs.declared.outputs.Release.{Release}
use Rattle.slot_table.specs.Runs.{runs_of}
use Rattle.slot_table.specs.Table.{claim_at}

-- a vote
pub vote_drafted : (node : NodeState) (request : VoteRequest) (granted : Bool) (released : List Release) (bodies : List (ℕ × Body)) (draft : Draft) → released ≡ [] → bodies ≡ grant_to request granted
    → Drafts node (record (silent node) { released = released; sent = bodies }) draft → Drafts node (record (silent node) { sent = grant_to request granted }) draft
vote_drafted node request granted released bodies draft none words drafts =
    subst (λ (sent : List (ℕ × Body)). Drafts node (record (silent node) { released = []; sent = sent }) draft) words
    (subst (λ (r : List Release). Drafts node (record (silent node) { released = r; sent = bodies }) draft) none drafts)

-- the messages of a promotion
pub promotion_drafted : (node : NodeState) (succession : Succession) (replaced : Replaced) (bodies : List (ℕ × Body)) (draft : Draft) → replaced ≡ replacement node succession.master succession.epoch
    → bodies ≡ to_all (others node) (Slots (Claim (runs_of (claim_at succession.table node.number)) (Some replaced))) → Promotes node (promoting node bodies succession) draft
    → Promotes node (promotion_to node succession.master succession.epoch succession.planned succession.table) draft
promotion_drafted node succession replaced bodies draft place words promotes =
    subst (λ (sent : List (ℕ × Body)). Promotes node (promoting node sent succession) draft)
    (words ∙ ap (λ (r : Replaced). to_all (others node) (Slots (Claim (runs_of (claim_at succession.table node.number)) (Some r)))) place) promotes

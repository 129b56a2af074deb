-- What is written by a step changes neither its answer nor anything of the node but its stream.
use Rattle.std.proofs.Common.{◌≡◌, ℕ, [], ◌∷◌, refl}
use Rattle.node_step.specs.Outcome.{Outcome}
use Rattle.node_step.specs.Streams.{Requests, with_written}

pub with_written_response : (outcome : Outcome) (requests : Requests) (dropped : ℕ) → (with_written outcome requests dropped).response ≡ outcome.response
with_written_response outcome [] dropped = refl
with_written_response outcome (request ∷ requests) dropped = refl

pub with_written_released : (outcome : Outcome) (requests : Requests) (dropped : ℕ) → (with_written outcome requests dropped).released ≡ outcome.released
with_written_released outcome [] dropped = refl
with_written_released outcome (request ∷ requests) dropped = refl

pub with_written_promoted : (outcome : Outcome) (requests : Requests) (dropped : ℕ) → (with_written outcome requests dropped).promoted ≡ outcome.promoted
with_written_promoted outcome [] dropped = refl
with_written_promoted outcome (request ∷ requests) dropped = refl

pub with_written_state : (outcome : Outcome) (requests : Requests) (dropped : ℕ)
    → (with_written outcome requests dropped).state ≡ record outcome.state { stream = (with_written outcome requests dropped).state.stream }
with_written_state outcome [] dropped = refl
with_written_state outcome (request ∷ requests) dropped = refl

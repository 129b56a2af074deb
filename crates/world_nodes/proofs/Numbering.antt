-- Messages with their numbers.
use Rattle.std.proofs.Common.{◌≡◌, ◌+◌, ◌<◌, ℕ, List, ◌∷◌, drop, length, get_or, ap}
use Rattle.std.proofs.lemmas.List.{drop_more}
use Rattle.bus.specs.declared.message.Message.{Message}
use Rattle.world_nodes.specs.Outputs.{numbered}
use Rattle.world_nodes.specs.declared.output.Output.TheVariants.{Sent}

-- one message more
pub numbered_more : (sent : List Message) (at : ℕ) (d : Message) → at < length sent
    → numbered at (drop at sent) ≡ Sent (at + 1) (get_or sent at d) ∷ numbered (at + 1) (drop (at + 1) sent)
numbered_more sent at d below = ap (numbered at) (drop_more sent at d below)

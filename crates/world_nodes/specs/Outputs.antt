-- What comes out of a step of a node, as the world shows it (ours).
use Rattle.std.specs.Prelude.{ℕ, ◌+◌, List, [], ◌∷◌, ◌++◌, map, length, Option, Some, None}
use Rattle.bus.specs.declared.message.Message.{Message}
use Rattle.node_step.specs.declared.outputs.Outputs.{Outputs as NodeOutputs}
use Rattle.node_step.specs.declared.outputs.Release.{Release}
use Rattle.node_step.specs.declared.promotion.Promotion.{Promotion}
use Rattle.node_step.specs.declared.response.Response.{Response}
use Rattle.node_step.specs.declared.response.Response.TheVariants.{Nothing, Opened, Replied, Parked}
use Rattle.world_nodes.specs.declared.output.Output.{Output}
use Rattle.world_nodes.specs.declared.output.Output.TheVariants.{Admin, Sent, Promoted}

-- the reply to the request that the step was made for, if it came
abbrev pub own_reply : ℕ → Response → List Output
own_reply node (Replied answer) = Admin node answer.reply ∷ []
own_reply node Nothing = []
own_reply node (Opened conn) = []
own_reply node Parked = []

-- the reply to a request that waited
abbrev pub released_reply : ℕ → Release → Output
released_reply node release = Admin node release.reply

-- messages with their numbers, where so many were sent before
abbrev pub numbered : ℕ → List Message → List Output
numbered before [] = []
numbered before (message ∷ messages) = Sent (before + 1) message ∷ numbered (before + 1) messages

-- that the node became a master, if it did
abbrev pub promotion_of : ℕ → Option Promotion → List Output
promotion_of node None = []
promotion_of node (Some promotion) = Promoted node promotion ∷ []

-- what comes out beside the reply to the request: replies to those that waited, then messages, then a promotion
abbrev pub beside_from : ℕ → ℕ → List Message → NodeOutputs → List Output
beside_from node before messages outputs = map (released_reply node) outputs.released ++ numbered before messages ++ promotion_of node outputs.promoted

-- replies first, then messages, then a promotion
abbrev pub shown_from : ℕ → ℕ → List Message → NodeOutputs → List Output
shown_from node before messages outputs = own_reply node outputs.response ++ beside_from node before messages outputs

-- those of a step, where these messages were sent before
abbrev pub shown : ℕ → List Message → NodeOutputs → List Output
shown node before outputs = shown_from node (length before) outputs.sent outputs

abbrev pub beside : ℕ → List Message → NodeOutputs → List Output
beside node before outputs = beside_from node (length before) outputs.sent outputs

-- Outputs that hold no reply, no message and no promotion (ours).
use Rattle.std.specs.Prelude.{◌≡◌, [], None}
use Rattle.node_step.specs.declared.outputs.Outputs.{Outputs}
use Rattle.node_step.specs.declared.response.Response.{Response}
use Rattle.node_step.specs.declared.response.Response.TheVariants.{Nothing, Opened, Replied, Parked}

-- the response has no reply
abbrev pub HasNoReply : Response → Type 0
HasNoReply Nothing = Unit {0}
HasNoReply (Opened _) = Unit {0}
HasNoReply (Replied _) = ⊥
HasNoReply Parked = Unit {0}

-- neither have the other outputs, no message is sent, and the node isn't promoted
pub record IsPlain (outputs : Outputs) : Type 0 where
  pub response : HasNoReply outputs.response
  pub released : outputs.released ≡ []
  pub sent : outputs.sent ≡ []
  pub promoted : outputs.promoted ≡ None

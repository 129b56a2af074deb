-- Which commands a node serves, and how.
use Rattle.std.specs.Prelude.{◌≡◌, ℕ, List, map, is_some}
use Rattle.std.specs.FinMap as fin_map
use Rattle.resp_values.specs.declared.reply.Reply.{Reply}
use Rattle.node_step.specs.State.{NodeState}
use Rattle.node_step.specs.declared.response.Response.{Response}
use Rattle.node_step.specs.declared.response.Response.TheVariants.{Replied}
use Rattle.node_step.specs.declared.response.Why.TheVariants.{Decided}
use Rattle.redirect.specs.Asked.{Asked}
use Rattle.redirect.specs.Decision.{decision}
use Rattle.redirect.specs.declared.asked.Asking.TheVariants.{No}
use Rattle.redirect.specs.declared.decision.Decision.TheVariants.{Serve}

-- a command with these keys on a connection that sent no ASKING
abbrev pub asked_at : NodeState → List (List ℕ) → Asked
asked_at state keys = record { keys = keys; there = map (λ key. is_some (fin_map.get state.keyspace key)) keys; asking = No; paused = is_some state.paused }

-- the node decides to serve such a command
abbrev pub IsServedBy : NodeState → List (List ℕ) → Type 0
IsServedBy state keys = decision state.table state.moves state.number (asked_at state keys) ≡ Serve

-- a command was executed, with this reply
abbrev pub served : Reply → Response
served reply = Replied (record { why = Decided Serve; reply = reply })

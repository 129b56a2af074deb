-- Numbers that only grow, and have an end (ours).
use Rattle.std.specs.Prelude.{◌≡◌, ◌+◌, ◌^◌, ◌&&◌, nat_lt, length, Bool, true, false, [], ◌∷◌}
use Rattle.resp2.specs.Stream.{stream_spelling}
use Rattle.command_table.specs.Table.{command_of}
use Rattle.connections.specs.Connections.{IsUsedUp}
use Rattle.bus.specs.Stream.{end_of}
use Rattle.node_step.specs.Failing.{a_tick_older}
use Rattle.node_step.specs.Messages.{ready, written_by_message}
use Rattle.node_step.specs.Requests.{has_number, using_up}
use Rattle.node_step.specs.State.{NodeState}
use Rattle.node_step.specs.Step.{written}
use Rattle.node_step.specs.Streams.{Requests}
use Rattle.node_step.specs.Ticks.{older}
use Rattle.node_step.specs.Voting.{has_due_epoch}
use Rattle.node_step.specs.declared.event.Event.{Event}
use Rattle.node_step.specs.declared.event.Event.TheVariants.{Open, Close, Request, Deliver, Tick}

-- the stream has an offset behind what is put there
abbrev pub has_offset : NodeState → Requests → Bool
has_offset node [] = true
has_offset node (request ∷ requests) = nat_lt (end_of node.stream.held + length (stream_spelling (request ∷ requests))) (2 ^ 64)

-- the event needs a number that has no next one: the generation of a connection, the number of a copy, an epoch, an offset
abbrev pub NoNumberLeft : NodeState → Event → Type 0
NoNumberLeft node Open = IsUsedUp node.connections
NoNumberLeft node (Request conn words) = (has_number (using_up node conn) (command_of words) && has_offset node (written node conn words)) ≡ false
NoNumberLeft node (Close conn) = ⊥
NoNumberLeft node (Deliver message) = has_offset node (written_by_message (ready node message) message.from message.body) ≡ false
NoNumberLeft node Tick = has_due_epoch (a_tick_older (older node)) ≡ false

-- All bytes that were ever put behind each stream (Redis documentation, "Redis replication", "Replication ID explained").
use Rattle.std.specs.Prelude.{ℕ, ◌==◌, List, [], ◌++◌, take, Option, Some, None, if◌then◌else◌}
use Rattle.command_table.specs.Table.{command_of}
use Rattle.resp2.specs.Stream.{stream_spelling}
use Rattle.bus.specs.Stream.{is_same}
use Rattle.bus.specs.declared.stream_id.StreamId.{StreamId}
use Rattle.true_streams.specs.Full.{FullStreams}
use Rattle.node_step.specs.Messages.{ready, written_by_message}
use Rattle.node_step.specs.State.{NodeState}
use Rattle.node_step.specs.Streams.{Requests, written_by_request}
use Rattle.node_step.specs.declared.event.Event.TheVariants.{Open, Close, Request, Deliver, Tick}
use Rattle.node_step.specs.declared.promotion.Promotion.{Promotion}
use Rattle.world_run.specs.Promotions.{promoted_in}
use Rattle.world_run.specs.Run.{Deed}
use Rattle.world_run.specs.Run.Deed.{Made, Skipped}

-- ---- what is written

-- the requests that a step of a node in that state writes
abbrev pub written_in : NodeState → Deed → Requests
written_in before (Made (Request conn words) outputs) = written_by_request words (command_of words) outputs.response
written_in before (Made (Deliver message) outputs) =
    if message.to == before.number then written_by_message (ready before message) message.from message.body else []
written_in before (Made Open outputs) = []
written_in before (Made (Close conn) outputs) = []
written_in before (Made Tick outputs) = []
written_in before Skipped = []

-- ---- whole streams

-- none yet
abbrev pub no_streams : FullStreams
no_streams id = []

-- more bytes behind one of them
abbrev pub longer : FullStreams → StreamId → List ℕ → FullStreams
longer full id bytes other = if is_same other id then full other ++ bytes else full other

-- the stream of a promoted node begins as the one that it followed, up to its offset
abbrev pub begun_from : FullStreams → Promotion → StreamId → FullStreams
begun_from full promotion id other = if is_same other id then take promotion.offset (full promotion.stream) else full other

abbrev pub after_promotion : FullStreams → NodeState → Deed → Option Promotion → FullStreams
after_promotion full before deed None = longer full before.stream.held.id (stream_spelling (written_in before deed))
after_promotion full before deed (Some promotion) = begun_from full promotion (record { node = before.number; epoch = promotion.epoch })

-- after an entry of a node in that state
abbrev pub streams_after : FullStreams → NodeState → Deed → FullStreams
streams_after full before deed = after_promotion full before deed (promoted_in deed)

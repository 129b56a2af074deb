-- A promoted node goes on from the stream of its master (Redis documentation, "Replication ID explained"; Redis Cluster specification,
-- "Replica election and promotion").
use Rattle.std.specs.Prelude.{◌≡◌, ◌≤◌, ⊤, ℕ, false, List, [], ◌∷◌, Contains, length, take, drop, slice_get, Option, Some, None}
use Rattle.bus.specs.Stream.{received}
use Rattle.bus.specs.declared.message.Body.{Body}
use Rattle.bus.specs.declared.bodies.StreamBody.TheVariants.{Piece, Snapshot}
use Rattle.bus.specs.declared.message.Body.TheVariants.{Stream}
use Rattle.bus.specs.declared.message.Message.{Message}
use Rattle.cluster_config.specs.Config.{ClusterConfig}
use Rattle.true_streams.specs.Full.{Follows, FullStreams, IsStateAt, IsTruePiece, IsTrueSnapshot}
use Rattle.node_step.specs.Replicas.{follower_of}
use Rattle.node_step.specs.State.{NodeState, is_replica}
use Rattle.node_step.specs.declared.promotion.Promotion.{Promotion}
use Rattle.world_run.specs.Promotions.{promoted_in}
use Rattle.world_run.specs.Run.{Entry, Goes, IsRun, first_nodes, sent_by}
use Rattle.promoted_prefix.specs.Written.{no_streams, streams_after}

-- the offset ends a whole request of the stream that was followed, and the keyspace is what the requests up to it leave; the bytes that
-- are kept are those of the stream up to there
pub record GoesOn (followed : List ℕ) (offset : ℕ) (after : NodeState) : Type 0 where
  pub state : IsStateAt followed offset after.keyspace
  pub first : after.stream.held.first ≤ offset
  pub kept : after.stream.held.bytes ≡ drop after.stream.held.first (take offset followed)

abbrev pub BeginsSo : FullStreams → NodeState → Option Promotion → Type 0
BeginsSo full after None = ⊤
BeginsSo full after (Some promotion) = GoesOn (full promotion.stream) promotion.offset after

-- each promotion of these entries does, by all that was written before it
abbrev pub EachGoesOn : FullStreams → (past : List Entry) (old : List NodeState) (entries : List Entry) (new : List NodeState) → Goes past old entries new → Type 0
EachGoesOn full past old [] new goes = ⊤
EachGoesOn full past old (entry ∷ entries) new goes =
    BeginsSo full goes.1.after (promoted_in entry.deed) × EachGoesOn (streams_after full goes.1.before entry.deed) (entry ∷ past) goes.0 entries new goes.2

-- that is so of these entries, whichever nodes they lead to
abbrev pub PromotionsGoOn : ClusterConfig → List Entry → Type 0
PromotionsGoOn config entries = (run : IsRun config entries) → EachGoesOn no_streams [] (first_nodes config) entries run.last run.goes

-- and so of each run
abbrev pub PromotedPrefix : Type 0
PromotedPrefix = (config : ClusterConfig) (entries : List Entry) → PromotionsGoOn config entries

-- ---- in each moment

-- all bytes that were ever put behind each stream, by these entries too
abbrev pub full_after : FullStreams → (past : List Entry) (old : List NodeState) (entries : List Entry) (new : List NodeState) → Goes past old entries new → FullStreams
full_after full past old [] new goes = full
full_after full past old (entry ∷ entries) new goes = full_after (streams_after full goes.1.before entry.deed) (entry ∷ past) goes.0 entries new goes.2

-- a node follows the stream that it names, and a master has all of it
pub record IsOnStream (full : FullStreams) (node : NodeState) : Type 0 where
  pub follows : Follows (full node.stream.held.id) (follower_of node)
  pub whole : is_replica node ≡ false → received node.stream ≡ length (full node.stream.held.id)

-- what a message says of streams is true
abbrev pub IsTrueSaid : FullStreams → Body → Type 0
IsTrueSaid full (Stream (Piece piece)) = IsTruePiece full piece
IsTrueSaid full (Stream (Snapshot snapshot)) = IsTrueSnapshot full snapshot
IsTrueSaid full other = ⊤

-- each node does, and each piece and each snapshot is true
pub record AreOnStreams (full : FullStreams) (sent : List Message) (nodes : List NodeState) : Type 0 where
  pub each : (n : ℕ) (node : NodeState) → slice_get nodes n ≡ Some node → IsOnStream full node
  pub said : (message : Message) → Contains sent message → IsTrueSaid full message.body

-- that is so at the end of each run, so in each moment of one
abbrev pub NodesFollowStreams : Type 0
NodesFollowStreams = (config : ClusterConfig) (entries : List Entry) (run : IsRun config entries)
    → AreOnStreams (full_after no_streams [] (first_nodes config) entries run.last run.goes) (sent_by entries) run.last

-- What holds of the spellings of requests and of replies, whoever reads or writes them (the laws are ours; the spellings are those
-- of the RESP protocol).
use Rattle.std.specs.Prelude.{◌≡◌, ℕ, List, ◌++◌, All}
use Rattle.resp_header.specs.declared.fault.Fault.TheVariants.{Protocol, TooLong}
use Rattle.resp_values.specs.declared.reply.Reply.{Reply}
use Rattle.resp_values.specs.Reply.{reply_spelling}
use Rattle.resp2.specs.ReplyReader.{ReplyKeepsLimits, replies_spelling, HasFirstBadReplyByte, HasNoReply, IsUnfinishedReply}
use Rattle.resp_values.specs.Request.{request_spelling, KeepsLimits}
use Rattle.resp2.specs.Stream.{stream_spelling, IsUnfinished, HasFirstBadByte, HasNoRequest}

-- bytes begin with one request at most, perhaps one without words, and its end is where the next begins
abbrev pub NoSpellingBeginsAnother : Type 0
NoSpellingBeginsAnother =
    (one other : List (List ℕ)) (rest more : List ℕ) → KeepsLimits one → KeepsLimits other
    → request_spelling one ++ rest ≡ request_spelling other ++ more → (one ≡ other) × (rest ≡ more)

-- bytes that want more have no whole request in front
abbrev pub NoUnfinishedIsWhole : Type 0
NoUnfinishedIsWhole = (bytes : List ℕ) → IsUnfinished bytes → HasNoRequest bytes

-- the bytes are these requests, and then no whole one
pub record IsStream (bytes : List ℕ) (requests : List (List (List ℕ))) (rest : List ℕ) : Type 0 where
  pub spelled : bytes ≡ stream_spelling requests ++ rest
  pub each : All KeepsLimits requests
  pub none : HasNoRequest rest

-- so it doesn't matter in which pieces the bytes came
abbrev pub StreamIsReadInOneWay : Type 0
StreamIsReadInOneWay =
    (bytes : List ℕ) (requests others : List (List (List ℕ))) (rest more : List ℕ)
    → IsStream bytes requests rest → IsStream bytes others more → (requests ≡ others) × (rest ≡ more)

-- ---- what stands in front of bytes

-- a whole request stands in front of these bytes
pub record HasRequest (bytes : List ℕ) : Type 0 where
  pub words : List (List ℕ)
  pub rest : List ℕ
  pub limits : KeepsLimits words
  pub spelled : bytes ≡ request_spelling words ++ rest

-- what bytes can have in front: a request, the beginning of one, or one with a bad byte, which breaks the protocol or
-- makes a count, a length or the whole request pass its limit
pub data Front : Type 0 where
  Whole : Front
  Unfinished : Front
  Malformed : Front
  Overlong : Front

abbrev pub HasFront : Front → List ℕ → Type 0
HasFront Whole bytes = HasRequest bytes
HasFront Unfinished bytes = IsUnfinished bytes
HasFront Malformed bytes = HasFirstBadByte Protocol bytes × HasNoRequest bytes
HasFront Overlong bytes = HasFirstBadByte TooLong bytes × HasNoRequest bytes

-- one of the four, and no other
pub record HasOneFront (bytes : List ℕ) : Type 0 where
  pub front : Front
  pub has : HasFront front bytes
  pub only : (other : Front) → HasFront other bytes → other ≡ front

-- so each rule of the bytes says what a reader does with any bytes at all
abbrev pub BytesHaveOneFront : Type 0
BytesHaveOneFront = (bytes : List ℕ) → HasOneFront bytes

-- ---- replies

-- bytes begin with one reply at most, and its end is where the next begins
abbrev pub NoReplyBeginsAnother : Type 0
NoReplyBeginsAnother =
    (one other : Reply) (rest more : List ℕ) → ReplyKeepsLimits one → ReplyKeepsLimits other
    → reply_spelling one ++ rest ≡ reply_spelling other ++ more → (one ≡ other) × (rest ≡ more)

-- the bytes are these replies, and then no whole one
pub record AreReplies (bytes : List ℕ) (replies : List Reply) (rest : List ℕ) : Type 0 where
  pub spelled : bytes ≡ replies_spelling replies ++ rest
  pub each : All ReplyKeepsLimits replies
  pub none : HasNoReply rest

-- so it doesn't matter in which pieces the bytes came
abbrev pub RepliesAreReadInOneWay : Type 0
RepliesAreReadInOneWay =
    (bytes : List ℕ) (replies others : List Reply) (rest more : List ℕ)
    → AreReplies bytes replies rest → AreReplies bytes others more → (replies ≡ others) × (rest ≡ more)

-- a whole reply stands in front of these bytes
pub record HasReply (bytes : List ℕ) : Type 0 where
  pub reply : Reply
  pub rest : List ℕ
  pub limits : ReplyKeepsLimits reply
  pub spelled : bytes ≡ reply_spelling reply ++ rest

-- what bytes can have in front: a reply, the beginning of one, or a byte that none can have there
pub data ReplyFront : Type 0 where
  WholeReply : ReplyFront
  PartOfReply : ReplyFront
  NoneOfReply : ReplyFront

abbrev pub HasReplyFront : ReplyFront → List ℕ → Type 0
HasReplyFront WholeReply bytes = HasReply bytes
HasReplyFront PartOfReply bytes = IsUnfinishedReply bytes
HasReplyFront NoneOfReply bytes = HasFirstBadReplyByte bytes × HasNoReply bytes

-- one of the three, and no other
pub record HasOneReplyFront (bytes : List ℕ) : Type 0 where
  pub front : ReplyFront
  pub has : HasReplyFront front bytes
  pub only : (other : ReplyFront) → HasReplyFront other bytes → other ≡ front

-- so each rule of the bytes says what a reader of replies does with any bytes at all
abbrev pub BytesHaveOneReplyFront : Type 0
BytesHaveOneReplyFront = (bytes : List ℕ) → HasOneReplyFront bytes

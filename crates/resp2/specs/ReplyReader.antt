-- What a reader of replies holds, which replies it takes, and what its answers say of the bytes.
use Rattle.std.specs.Prelude.{◌≡◌, ◌≢◌, ◌<◌, ◌≤◌, ◌-◌, ◌^◌, ℕ, ℤ, pos, negsuc, suc, List, ◌++◌, length, All, IsTrue, None, Some}
use Rattle.std.specs.List.{flat_map}
use Rattle.resp_values.specs.Array.{depth_of}
use Rattle.resp_values.specs.Line.{is_one_line}
use Rattle.resp_values.specs.Reply.{elements_of, is_reply, reply_spelling}
use Rattle.resp2.specs.Reader.{ReaderState}
use Rattle.resp_values.specs.declared.array.Element.{Element}
use Rattle.resp_values.specs.declared.array.Element.TheVariants.{Simple, Error, Integer, Bulk, Null, Array}
use Rattle.resp_header.specs.declared.fault.Fault.{Fault}
use Rattle.resp_header.specs.declared.fault.Fault.TheVariants.{Protocol, TooLong, Memory}
use Rattle.resp_values.specs.declared.reply.Reply.{Reply}
use Rattle.resp2.specs.Limits.{most_depth, most_count}

-- ---- which replies

-- a number of 64 bits with its sign (RESP protocol, "Integers")
abbrev pub Is64Bits : ℤ → Type 0
Is64Bits (pos n) = n ≤ 2 ^ 63 - 1
Is64Bits (negsuc n) = suc n ≤ 2 ^ 63

-- a text is one line, an integer has 64 bits, and no count or length is too great. These last limits are ours
abbrev pub ElementKeepsLimits : Element → Type 0
ElementKeepsLimits (Simple text) = IsTrue (is_one_line text)
ElementKeepsLimits (Error text) = IsTrue (is_one_line text)
ElementKeepsLimits (Integer number) = Is64Bits number
ElementKeepsLimits (Bulk bytes) = length bytes ≤ most_count
ElementKeepsLimits Null = Unit {0}
ElementKeepsLimits (Array len) = len ≤ most_count

-- so does each element of the reply, and arrays don't nest too deep. That limit is ours too
pub record ReplyKeepsLimits (reply : Reply) : Type 0 where
  pub whole : IsTrue (is_reply reply)
  pub shallow : depth_of (elements_of reply) ≤ most_depth
  pub each : All ElementKeepsLimits (elements_of reply)

-- ---- beginnings

-- what a server sends: replies, one after another
abbrev pub replies_spelling : List Reply → List ℕ
replies_spelling replies = flat_map reply_spelling replies

-- more bytes may make a list of replies of these bytes
pub record IsReplyBeginning (bytes : List ℕ) : Type 0 where
  pub replies : List Reply
  pub rest : List ℕ
  pub each : All ReplyKeepsLimits replies
  pub spelled : bytes ++ rest ≡ replies_spelling replies

-- the last byte of `front` is the first after which no list of replies can follow
pub record HasFirstBadReplyByte (bytes : List ℕ) : Type 0 where
  pub front : List ℕ
  pub rest : List ℕ
  pub split : bytes ≡ front ++ rest
  pub bad : ¬ IsReplyBeginning front
  pub first : (shorter : List ℕ) (more : List ℕ) → front ≡ shorter ++ more → 0 < length more → IsReplyBeginning shorter

-- no whole reply stands in front of these bytes
abbrev pub HasNoReply : List ℕ → Type 0
HasNoReply bytes = (reply : Reply) (rest : List ℕ) → ReplyKeepsLimits reply → bytes ≢ reply_spelling reply ++ rest

-- more bytes, and at least one, make one reply of these bytes
pub record IsUnfinishedReply (bytes : List ℕ) : Type 0 where
  pub reply : Reply
  pub rest : List ℕ
  pub limits : ReplyKeepsLimits reply
  pub wanted : 0 < length rest
  pub spelled : bytes ++ rest ≡ reply_spelling reply

-- ---- what an answer says

-- a reply stood whole in front, and the bytes behind it are left
pub record HandsOutReply (old : ReaderState) (reply : Reply) (new : ReaderState) : Type 0 where
  pub sound : old.fault ≡ None
  pub limits : ReplyKeepsLimits reply
  pub consumed : old.pending ≡ reply_spelling reply ++ new.pending
  pub still_sound : new.fault ≡ None

-- the bytes are the beginning of a reply, and all of them stay
pub record WaitsForReply (old new : ReaderState) : Type 0 where
  pub sound : old.fault ≡ None
  pub unfinished : IsUnfinishedReply old.pending
  pub unchanged : new ≡ old

-- a bad byte stands where a reply is expected, and its fault is kept for good
pub record BreaksReply (old new : ReaderState) : Type 0 where
  pub first : HasFirstBadReplyByte old.pending
  pub none : HasNoReply old.pending
  pub unread : new.pending ≡ old.pending
  pub kept : new.fault ≡ Some Protocol

-- want of memory changes nothing, and a fault of the bytes is where they have it
abbrev pub FailsReplyBy : Fault → ReaderState → ReaderState → Type 0
FailsReplyBy Memory old new = new ≡ old
FailsReplyBy Protocol old new = BreaksReply old new
FailsReplyBy TooLong old new = ⊥

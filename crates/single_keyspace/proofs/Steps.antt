-- What a step of a node leaves of all slots.
use Rattle.std.proofs.Common.{◌≡◌, ℕ, List, [], ◌∷◌, Option, Some, None, refl, sym, subst}
use Rattle.command_table.specs.Table.{command_of}
use Rattle.keyspace.specs.Commands.{exec_words}
use Rattle.keyspace.specs.Keyspace.{Keyspace}
use Rattle.one_slot.specs.Events.{IsAsked}
use Rattle.node_step.specs.Orders.{to_all}
use Rattle.node_step.specs.Outcome.{Outcome}
use Rattle.node_step.specs.Roles.{replicas_of}
use Rattle.node_step.specs.State.{NodeState}
use Rattle.node_step.specs.Streams.{Requests, with_written}
use Rattle.world_run.specs.Executed.{Answered, Redirection, if_served, redirection_in}
use Rattle.world_run.specs.Run.{Entry}
use Rattle.single_keyspace.specs.Slots.{view_of}
use Rattle.single_keyspace.specs.Stands.{BeginsIn, NodeStands, keys_in}
use Rattle.single_keyspace.proofs.Lists.{contains_nothing}
use Rattle.single_keyspace.proofs.Seen.{no_some, SlotWas, HoldsAfter, holds_untouched}
use Rattle.single_keyspace.proofs.Sendings.{AreJustified, both_justified, to_all_justified}

-- the one keyspace after a request, if that was executed
abbrev pub next_of : Keyspace → Option Answered → Keyspace
next_of one None = one
next_of one (Some answered) = (exec_words one answered.words).after

-- the reply is that of the one keyspace
abbrev pub RepliesAs : Keyspace → Option Answered → Type 0
RepliesAs one None = Unit {0}
RepliesAs one (Some answered) = answered.answer.reply ≡ (exec_words one answered.words).reply

pub record StepStands {past : List Entry} {n : ℕ} {before : NodeState} {one : Keyspace} (was : (slot : ℕ) → SlotWas past n before one slot) (answer : Option Answered) (outcome : Outcome) : Type 0 where
  pub node : NodeStands n outcome.state
  pub holds : (slot : ℕ) → HoldsAfter (was slot) outcome.state (next_of one (if_served answer))
  pub sent : AreJustified past n outcome.state outcome.sent
  pub told : (redirection : Redirection) → redirection_in answer ≡ Some redirection → (slot : ℕ) → BeginsIn slot (keys_in (command_of redirection.words))
      → IsAsked (view_of outcome.state slot) redirection.to redirection.number (keys_in (command_of redirection.words))
  pub replies : RepliesAs one (if_served answer)

pub nothing_sent : (past : List Entry) (n : ℕ) (node : NodeState) → AreJustified past n node []
nothing_sent past n node to body among = absurd (contains_nothing (to, body) among)

module _ {past : List Entry} {n : ℕ} {before : NodeState} {one : Keyspace} (was : (slot : ℕ) → SlotWas past n before one slot) where
  -- nothing is executed, and nobody is sent on
  pub quiet : (answer : Option Answered) → if_served answer ≡ None → redirection_in answer ≡ None → (outcome : Outcome) → NodeStands n outcome.state
      → ((slot : ℕ) → HoldsAfter (was slot) outcome.state one) → AreJustified past n outcome.state outcome.sent → StepStands was answer outcome
  quiet answer not_served not_sent_on outcome node holds sent = record {
    node = node;
    holds = λ slot. subst (λ o. HoldsAfter (was slot) outcome.state (next_of one o)) (sym not_served) (holds slot);
    sent = sent;
    told = λ redirection is. absurd (no_some not_sent_on is);
    replies = subst (RepliesAs one) (sym not_served) tt;
  }

  -- and all slots stay as they are
  pub quiet_still : (answer : Option Answered) → if_served answer ≡ None → redirection_in answer ≡ None → (outcome : Outcome) → NodeStands n outcome.state
      → ((slot : ℕ) → view_of outcome.state slot ≡ view_of before slot) → AreJustified past n outcome.state outcome.sent → StepStands was answer outcome
  quiet_still answer not_served not_sent_on outcome node same sent =
      quiet answer not_served not_sent_on outcome node (λ slot. holds_untouched (was slot) outcome.state one (same slot) (λ key. refl)) sent

  -- ---- what is put round a step

  -- bytes that are written change no slot, and no piece says anything of one
  pub with_written_stands : (answer : Option Answered) (outcome : Outcome) (requests : Requests) (dropped : ℕ) → StepStands was answer outcome → StepStands was answer (with_written outcome requests dropped)
  with_written_stands answer outcome [] dropped step = step
  with_written_stands answer outcome (request ∷ requests) dropped step = record {
    node = record { number_is = step.node.number_is; slots = step.node.slots; is_master = step.node.is_master; rests = step.node.rests };
    holds = step.holds;
    sent = both_justified past n outcome.state outcome.sent (to_all (replicas_of outcome.state.masters outcome.state.number) _) step.sent
        (to_all_justified past n outcome.state (replicas_of outcome.state.masters outcome.state.number) _ (λ to. tt));
    told = step.told;
    replies = step.replies;
  }

-- How a call ends, by what its client was told last.
use Rattle.std.proofs.Common.{◌≡◌, ◌==◌, ◌||◌, ℕ, Bool, true, false, true≢false, cond, List, Option, None, Some, Ok, Err, refl, sym, ap, subst, inl, inr, ◌∙◌}
use Rattle.std.proofs.lemmas.Bool.{cases_Bool, eqb-true}
use Rattle.std.specs.Prelude.{codes, ⊤}
use Rattle.cluster_config.specs.declared.config.NodeConfig.{NodeConfig}
use Rattle.node_step.specs.Orders.{done}
use Rattle.redirection.proofs.Redirections.{one_redirection}
use Rattle.redirection.specs.Address.{Place}
use Rattle.redirection.specs.declared.redirection.Redirection.{Redirection}
use Rattle.redirection.specs.declared.redirection.Redirection.TheVariants.{Moved, Ask}
use Rattle.reply_meaning.specs.Reasons.{is_of_kind}
use Rattle.resp_values.specs.declared.reply.Reply.{Reply}
use Rattle.resp_values.specs.declared.reply.Reply.TheVariants.{Simple, Error, Integer, Bulk, Null, Array}
use Rattle.smart_client.specs.ErrorKind.{kind_of}
use Rattle.smart_client.specs.State.{ClientState}
use Rattle.smart_client.specs.Step.{Answer, Steps, Tells, Turn, again, allowed, begun, closes, connected, failed, follows, introduced, is_beyond, is_ok, next, peer_at, redirected, replied, uses, uses_for, with_connected, with_owner}
use Rattle.smart_client.specs.Step as client
use Rattle.smart_client.specs.Step.Turn.{Goes, Ends, Reads}
use Rattle.smart_client.specs.Words.{is_refused}
use Rattle.smart_client.specs.declared.action.Action.{Action}
use Rattle.smart_client.specs.declared.action.Action.TheVariants.{Connect, Send, Done}
use Rattle.smart_client.specs.declared.action.Event.{Event}
use Rattle.smart_client.specs.declared.call.Call.{Call}
use Rattle.smart_client.specs.declared.client_core.TheConstants.{MOST_REDIRECTIONS}
use Rattle.smart_client.specs.declared.fault.ClientFault.TheVariants.{Memory, NotData, TooManyRedirects, StillTryAgain}
use Rattle.final_answers.proofs.Leading.{CanFollow, names_node}
use Rattle.final_answers.proofs.Placed.{Leads, NamesMove}

-- the client wants more to be done
abbrev IsMore : Action → Type 0
IsMore (Connect address) = ⊤
IsMore (Send words) = ⊤
IsMore (Done answer close) = ⊥

abbrev answer_in : Action → Answer
answer_in (Done answer close) = answer
answer_in _ = Err NotData

module _ (P : Answer → Type 0) where
  -- each answer to which the turn may come is such
  abbrev pub EndsSo : Turn → Type 0
  EndsSo (Goes core action) = IsMore action
  EndsSo (Ends answer) = P answer
  EndsSo (Reads text turn_by) = (redirection : Option Redirection) → Tells text redirection → EndsSo (turn_by redirection)

  followed : (old new : ClientState) (made : Turn) (answer : Answer) (close : Bool) → EndsSo made → client.Follows made old (Done answer close) new → P answer
  followed old new (Goes core action) answer close more follows = absurd (subst IsMore (sym follows.1) more)
  followed old new (Ends last) answer close such follows = subst P (sym (ap answer_in follows.1)) such
  followed old new (Reads text turn_by) answer close reads follows = followed old new (turn_by follows.0) answer close (reads follows.0 follows.1) follows.2

  -- and so is the one to which it comes
  pub ended_so : (old new : ClientState) (event : Event) (answer : Answer) (close : Bool) → EndsSo (next old.call old event) → P (Err Memory) → Steps old event (Done answer close) new → P answer
  ended_so old new event answer close ends memory (inl follows) = followed old new (next old.call old event) answer close ends follows
  ended_so old new event answer close ends memory (inr refused) = followed old new (Ends (Err Memory)) answer close memory refused.1

  ends_if : (test : Bool) (one other : Turn) → (test ≡ true → EndsSo one) → (test ≡ false → EndsSo other) → EndsSo (cond test one other)
  ends_if true one other first second = first refl
  ends_if false one other first second = second refl

  -- ---- turns

  pub begun_ends : (core : ClientState) (words : List (List ℕ)) → (is_refused words ≡ true → P (Err NotData)) → EndsSo (begun core words)
  begun_ends core words no_data = ends_if (is_refused words) _ _ no_data (λ plain. tt)

  uses_ends : (core : ClientState) (call : Call) → EndsSo (uses core call)
  uses_ends core call = by_asked call.asking
    where
      by_asked : (asked : Option ℕ) → EndsSo (uses_for asked core call)
      by_asked None = tt
      by_asked (Some number) = tt

  pub connected_ends : (core : ClientState) (call : Call) → EndsSo (connected core call)
  connected_ends core call = ends_if (peer_at core.peers call.to).is_connected _ _ (λ known. uses_ends core call) (λ new. tt)

  -- what stands in front of the command was welcome
  pub introduced_ends : (core : ClientState) (call : Call) (reply : Reply) → reply ≡ done → EndsSo (introduced core call reply)
  introduced_ends core call reply welcome =
      ends_if (is_ok reply) _ _ (λ ok. uses_ends (record core { peers = with_connected core.peers call.to true }) call) (λ other. absurd (true≢false (sym (ap is_ok welcome) ∙ other)))

  pub allowed_ends : (core : ClientState) (call : Call) (reply : Reply) → reply ≡ done → EndsSo (allowed core call reply)
  allowed_ends core call reply welcome = ends_if (is_ok reply) _ _ (λ ok. tt) (λ other. absurd (true≢false (sym (ap is_ok welcome) ∙ other)))

  -- there is room for the node, so the client goes there
  follows_ends : (core : ClientState) (call : Call) (address : Place) (number : Option ℕ) → is_beyond core.peers address ≡ false → EndsSo (follows core call address number)
  follows_ends core call address number room = ends_if (is_beyond core.peers address) _ _ (λ beyond. absurd (true≢false (sym beyond ∙ room))) (λ known. tt)

  -- an error answers the command
  module _ (core : ClientState) (call : Call) (text : List ℕ) (over : P (Ok (Error text))) (room : (address : Place) → is_beyond core.peers address ≡ false)
      (nodes : List NodeConfig) (leads : names_node text ≡ true → Leads nodes true text) (too_many : names_node text ≡ true → call.redirections ≡ MOST_REDIRECTIONS → P (Err TooManyRedirects))
      (too_often : is_of_kind text (codes "TRYAGAIN") ≡ true → call.repeats ≡ core.limit → P (Err StillTryAgain)) where
    -- what is read is the redirection that the node wrote
    redirected_ends : Leads nodes true text → (redirection : Option Redirection) → Tells text redirection → EndsSo (redirected core call redirection)
    redirected_ends led None tells = absurd (tells led.redirection led.is)
    redirected_ends led (Some (Moved slot to)) tells = follows_ends (with_owner core slot to) call to None (room to)
    redirected_ends led (Some (Ask slot to None)) tells = absurd (subst NamesMove (one_redirection text led.redirection (Ask slot to None) led.is tells) (led.named refl))
    redirected_ends led (Some (Ask slot to (Some number))) tells = follows_ends core call to (Some number) (room to)

    sent_on : (sends : Bool) → names_node text ≡ sends → EndsSo (failed (kind_of text) core call text)
    sent_on true sends =
        rw sends
        (ends_if (call.redirections == MOST_REDIRECTIONS) _ _ (λ most. too_many sends (eqb-true call.redirections MOST_REDIRECTIONS most))
        (λ fewer. λ (redirection : Option Redirection). λ (tells : Tells text redirection). redirected_ends (leads sends) redirection tells))
    sent_on false stays =
        elim (cases_Bool (is_of_kind text (codes "TRYAGAIN"))) [
          | inl again ↦ rw (stays, again) (ends_if (call.repeats == core.limit) _ _ (λ most. too_often again (eqb-true call.repeats core.limit most)) (λ fewer. tt))
          | inr other ↦
              elim (cases_Bool (is_of_kind text (codes "OOM") || is_of_kind text (codes "EXHAUSTED"))) [
                | inl last ↦ rw (stays, other, last) over
                | inr none ↦ rw (stays, other, none) over
              ]
        ]

    pub failed_ends : EndsSo (failed (kind_of text) core call text)
    failed_ends = sent_on (names_node text) refl

  -- a reply does
  pub replied_ends : (nodes : List NodeConfig) (core : ClientState) (call : Call) (reply : Reply) → P (Ok reply) → ((address : Place) → is_beyond core.peers address ≡ false) → CanFollow nodes true reply
      → ((text : List ℕ) → reply ≡ Error text → names_node text ≡ true → call.redirections ≡ MOST_REDIRECTIONS → P (Err TooManyRedirects))
      → ((text : List ℕ) → reply ≡ Error text → is_of_kind text (codes "TRYAGAIN") ≡ true → call.repeats ≡ core.limit → P (Err StillTryAgain)) → EndsSo (replied core call reply)
  replied_ends nodes core call (Error text) over room can too_many too_often = failed_ends core call text over room nodes (can text refl) (too_many text refl) (too_often text refl)
  replied_ends nodes core call (Simple text) over room can too_many too_often = over
  replied_ends nodes core call (Integer number) over room can too_many too_often = over
  replied_ends nodes core call (Bulk bytes) over room can too_many too_often = over
  replied_ends nodes core call Null over room can too_many too_often = over
  replied_ends nodes core call (Array replies) over room can too_many too_often = over

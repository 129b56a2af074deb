-- What a client takes for no reply to its command is a refusal.
use Rattle.std.proofs.Common.{◌≡◌, ◌⊎◌, ◌||◌, ℕ, Bool, true, false, inl, inr, List, ap}
use Rattle.std.specs.Prelude.{IsTrue}
use Rattle.std.proofs.lemmas.Bool.{cases_Bool}
use Rattle.resp_values.specs.declared.reply.Reply.TheVariants.{Simple, Error, Integer, Bulk, Null, Array}
use Rattle.smart_client.specs.Calls.{IsRefusal}
use Rattle.smart_client.specs.Step.{is_last_line}
use Rattle.smart_client.specs.declared.action.Event.TheVariants as happened
use Rattle.reply_meaning.specs.Law.{CallsGoOnAfterRefusals}
use Rattle.reply_meaning.specs.Refusal.{begins_so, is_of_no_command}
use Rattle.reply_meaning.proofs.RefusalKinds.{other_so}

-- the text begins with no word by which a client goes on
other_ends : (text : List ℕ) → begins_so text ≡ false → IsRefusal (happened.Reply (Error text)) ⊎ IsTrue (is_last_line (Error text)) → ⊥
other_ends text is = let kinds = other_so text is in rw (kinds.moved, kinds.ask, kinds.again, kinds.memory, kinds.number) neither
  where
    neither : ⊥ ⊎ IsTrue false → ⊥
    neither (inl on) = on
    neither (inr last) = cc

text_is : (text : List ℕ) → IsRefusal (happened.Reply (Error text)) ⊎ IsTrue (is_last_line (Error text)) → (begins_so text || is_of_no_command text) ≡ true
text_is text on =
    elim (cases_Bool (begins_so text)) [
      | inl so ↦ ap (λ (b : Bool). b || is_of_no_command text) so
      | inr other ↦ absurd (other_ends text other on)
    ]

ended : (goal : Type 0) → ⊥ ⊎ IsTrue false → goal
ended goal (inl on) = absurd on
ended goal (inr last) = cc

pub goes_on : CallsGoOnAfterRefusals
goes_on (Simple text) on = ended _ on
goes_on (Error text) on = text_is text on
goes_on (Integer number) on = ended _ on
goes_on (Bulk bytes) on = ended _ on
goes_on Null on = ended _ on
goes_on (Array array) on = ended _ on

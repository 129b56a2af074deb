-- How a call goes on behind an error, by the error's kind.
use Rattle.std.proofs.Common.{◌≡◌, ◌==◌, ap, refl, false, cond, ℕ, List, Ok, Err}
use Rattle.resp_values.specs.declared.reply.Reply.TheVariants.{Error}
use Rattle.smart_client.specs.ErrorKind.{kind_of}
use Rattle.smart_client.specs.State.{ClientState}
use Rattle.smart_client.specs.Step.{Turn, again, failed, is_last, is_last_line, redirected}
use Rattle.smart_client.specs.Step.Turn.{Ends, Reads}
use Rattle.smart_client.specs.declared.call.Call.{Call}
use Rattle.smart_client.specs.declared.client_core.TheConstants.{MOST_REDIRECTIONS}
use Rattle.smart_client.specs.declared.error_kind.ErrorKind.{ErrorKind}
use Rattle.smart_client.specs.declared.error_kind.ErrorKind.TheVariants.{Redirection, TryAgain, LastLine, Other}
use Rattle.smart_client.specs.declared.fault.ClientFault.TheVariants.{TooManyRedirects}

module _ (P : Turn → Type 0) (client : ClientState) (call : Call) (text : List ℕ) where
  by_kind : (kind : ErrorKind) → kind_of text ≡ kind → P (Ends (Ok (Error text)))
      → (is_last_line (Error text) ≡ false → P (cond (call.redirections == MOST_REDIRECTIONS) (Ends (Err TooManyRedirects)) (Reads text (redirected client call))))
      → (is_last_line (Error text) ≡ false → P (again client call)) → P (failed kind client call text)
  by_kind Redirection is ends redirects repeats = redirects (ap is_last is)
  by_kind TryAgain is ends redirects repeats = repeats (ap is_last is)
  by_kind LastLine is ends redirects repeats = ends
  by_kind Other is ends redirects repeats = ends

  -- the call is over, or goes on behind an error that isn't the last line of its connection
  pub failed_so : P (Ends (Ok (Error text)))
      → (is_last_line (Error text) ≡ false → P (cond (call.redirections == MOST_REDIRECTIONS) (Ends (Err TooManyRedirects)) (Reads text (redirected client call))))
      → (is_last_line (Error text) ≡ false → P (again client call)) → P (failed (kind_of text) client call text)
  failed_so = by_kind (kind_of text) refl

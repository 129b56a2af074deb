-- The texts of MOVED and ASK are on one line.
use Rattle.std.proofs.Common.{◌≡◌, ℕ, ◌+◌, ◌<◌, ◌^◌, ◌%◌, List, [], ◌∷◌, ◌++◌, true, refl, arith}
use Rattle.std.specs.Prelude.{None, Some, decimal}
use Rattle.std.proofs.lemmas.Fmt.{decimal_by_steps}
use Rattle.std.proofs.lemmas.List.Folds.{list_all-append}
use Rattle.resp_values.specs.Line.{is_one_line, is_text_byte}
use Rattle.cluster_config.specs.Texts.{is_host}
use Rattle.redirection.specs.Texts.{ask_text, moved_text}
use Rattle.redirection.proofs.HostLemmas.{host_is_one_line}

one_line-append : (front rest : List ℕ) → is_one_line front ≡ true → is_one_line rest ≡ true → is_one_line (front ++ rest) ≡ true
one_line-append front rest one other = rw (list_all-append is_text_byte front rest, one, other) refl

-- CR and LF come before the digits
digit_is_text : (digit : ℕ) → is_text_byte (48 + digit) ≡ true
digit_is_text digit = grind arith

number_is_one_line : (n : ℕ) → n < 2 ^ 64 → is_one_line (decimal n) ≡ true
number_is_one_line =
    decimal_by_steps (λ _ text. is_one_line text ≡ true) (λ n _. rw (digit_is_text n) refl)
    (λ n text _ front. one_line-append text ((48 + n % 10) ∷ []) front (rw (digit_is_text (n % 10)) refl))

pub moved_is_one_line : (slot port : ℕ) (host : List ℕ) → slot < 2 ^ 64 → port < 2 ^ 64 → is_host host ≡ true → is_one_line (moved_text slot host port) ≡ true
moved_is_one_line slot port host slot_fits port_fits host_is =
    simp (list_all-append is_text_byte, number_is_one_line slot slot_fits, number_is_one_line port port_fits, host_is_one_line host host refl host_is)

pub plain_ask_is_one_line : (slot port : ℕ) (host : List ℕ) → slot < 2 ^ 64 → port < 2 ^ 64 → is_host host ≡ true → is_one_line (ask_text slot host port None) ≡ true
plain_ask_is_one_line slot port host slot_fits port_fits host_is =
    simp (list_all-append is_text_byte, number_is_one_line slot slot_fits, number_is_one_line port port_fits, host_is_one_line host host refl host_is)

pub numbered_ask_is_one_line : (slot port number : ℕ) (host : List ℕ) → slot < 2 ^ 64 → port < 2 ^ 64 → number < 2 ^ 64 → is_host host ≡ true → is_one_line (ask_text slot host port (Some number)) ≡ true
numbered_ask_is_one_line slot port number host slot_fits port_fits number_fits host_is =
    simp (list_all-append is_text_byte, number_is_one_line slot slot_fits, number_is_one_line port port_fits, number_is_one_line number number_fits, host_is_one_line host host refl host_is)

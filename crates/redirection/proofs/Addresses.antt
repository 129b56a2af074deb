-- Which text is that of an address.
use Rattle.std.proofs.Common.{◌≡◌, ℕ, ◌==◌, not, true, List, [], ◌∷◌, ◌++◌, Option, Some, None, Result, Ok, Err, IfOk, IfNone, refl, sym, subst, ◌∙◌, append_assoc, arith}
use Rattle.std.specs.Prelude.{decimal, codes, IsTrue}
use Rattle.std.specs.List.{list_all}
use Rattle.std.proofs.lemmas.Bool.{and_from, and_parts}
use Rattle.std.proofs.lemmas.Fmt.{decimal_injective}
use Rattle.cluster_config.specs.Texts.{is_host, is_host_character}
use Rattle.redirection.specs.Address.{Place, IsAddress, IsNoAddress, address_text}
use Rattle.redirection.specs.Splitting.{IsHostAndPort, IsNoHostAndPort, is_without}
use Rattle.redirection.proofs.Numbers.{number_has_no_blank, without_both}
use Rattle.redirection.proofs.Splits.{same_split}

is_no_colon : (byte : ℕ) → is_host_character byte ≡ true → not (byte == 58) ≡ true
is_no_colon byte is = (and_parts _ _ is).1

is_no_blank : (byte : ℕ) → is_host_character byte ≡ true → not (byte == 32) ≡ true
is_no_blank byte is = grind arith

no_colons : (text : List ℕ) → list_all is_host_character text ≡ true → is_without 58 text ≡ true
no_colons [] all = refl
no_colons (byte ∷ text) all =
    let parts = and_parts (is_host_character byte) _ all in
    and_from _ _ (is_no_colon byte parts.0) (no_colons text parts.1)

no_blanks : (text : List ℕ) → list_all is_host_character text ≡ true → is_without 32 text ≡ true
no_blanks [] all = refl
no_blanks (byte ∷ text) all =
    let parts = and_parts (is_host_character byte) _ all in
    and_from _ _ (is_no_blank byte parts.0) (no_blanks text parts.1)

characters : (host : List ℕ) → is_host host ≡ true → list_all is_host_character host ≡ true
characters host is = (and_parts _ _ is).1

pub host_has_no_colon : (host : List ℕ) → is_host host ≡ true → is_without 58 host ≡ true
host_has_no_colon host is = no_colons host (characters host is)

pub address_has_no_blank : (address : Place) → IsAddress address → is_without 32 (address_text address) ≡ true
address_has_no_blank address is =
    without_both 32 (address.host ++ codes ":") (decimal address.port) (without_both 32 address.host (codes ":") (no_blanks address.host (characters address.host is.host)) refl)
    (number_has_no_blank address.port (omega (arith, is.port.1)))

pub address_in_parts : (address : Place) → address_text address ≡ address.host ++ 58 ∷ decimal address.port
address_in_parts address = append_assoc address.host (codes ":") (decimal address.port)

parts_of : (text : List ℕ) (address : Place) → IsAddress address → text ≡ address_text address → IsHostAndPort text address.host address.port
parts_of text address is same = record {
  text_is = same ∙ address_in_parts address;
  without = host_has_no_colon address.host is.host;
  from = is.port.0;
  to = is.port.1;
}

pub no_parts : (text : List ℕ) → IsNoHostAndPort text → IsNoAddress text
no_parts text none address is same = none address.host address.port (parts_of text address is same)

pub no_host : (text host : List ℕ) (port : ℕ) → IsHostAndPort text host port → (IsTrue (is_host host) → ⊥) → IsNoAddress text
no_host text host port parts none address is same =
    let split = same_split 58 host address.host (decimal port) (decimal address.port) parts.without (host_has_no_colon address.host is.host) (sym parts.text_is ∙ same ∙ address_in_parts address) in
    none (subst (λ (xs : List ℕ). IsTrue (is_host xs)) (sym split.firsts) is.host)

same_place : (one other : Place) → one.host ≡ other.host → one.port ≡ other.port → one ≡ other
same_place one other hosts ports = λ i. record { host = hosts i; port = ports i }

-- a text is that of one address at most
pub same_address : (one other : Place) → IsAddress one → IsAddress other → address_text one ≡ address_text other → one ≡ other
same_address one other is also same =
    let split = same_split 58 one.host other.host (decimal one.port) (decimal other.port) (host_has_no_colon one.host is.host) (host_has_no_colon other.host also.host)
    (sym (address_in_parts one) ∙ same ∙ address_in_parts other) in
    same_place one other split.firsts (decimal_injective one.port other.port (omega (arith, is.port.1)) (omega (arith, also.port.1)) split.rests)

-- where there is none for one cause, there is none for what follows from it
pub none_by : {E : Type 0} (result : Result (Option Place) E) (P Q : Type 0) → (P → Q) → IfOk result (λ found. IfNone found P) → IfOk result (λ found. IfNone found Q)
none_by (Ok None) P Q by none = by none
none_by (Ok (Some address)) P Q by none = tt
none_by (Err e) P Q by none = tt

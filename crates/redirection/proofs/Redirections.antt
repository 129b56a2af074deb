-- Which text is that of a redirection.
use Rattle.std.proofs.Common.{◌≡◌, ℕ, List, [], ◌∷◌, ◌++◌, get_or, Option, Some, None, refl, sym, ap, subst, ◌∙◌, append_assoc, append-nil, arith}
use Rattle.std.specs.Prelude.{decimal, codes}
use Rattle.redirection.specs.Texts.{place_text, moved_text, ask_text}
use Rattle.redirection.specs.Address.{Place, IsAddress, IsNoAddress, address_text}
use Rattle.redirection.specs.Law.{TextIsOfOneRedirection}
use Rattle.redirection.specs.Redirection.{IsMove, IsRedirection, IsNoRedirection}
use Rattle.redirection.specs.Splitting.{IsNumbered, IsNotNumbered, IsSlotAndRest, number_text}
use Rattle.redirection.specs.declared.redirection.Redirection.TheVariants.{Moved, Ask}
use Rattle.redirection.proofs.Addresses.{address_has_no_blank, same_address}
use Rattle.redirection.proofs.Parts.{same_numbered, same_rest}

-- ---- the parts of a text

place_in_parts : (slot : ℕ) (to : Place) → place_text slot to.host to.port ≡ decimal slot ++ 32 ∷ address_text to
place_in_parts slot to = simp append_assoc refl

pub moved_in_parts : (slot : ℕ) (to : Place) → moved_text slot to.host to.port ≡ codes "MOVED " ++ (decimal slot ++ 32 ∷ address_text to)
moved_in_parts slot to = ap (λ (xs : List ℕ). codes "MOVED " ++ xs) (place_in_parts slot to)

pub ask_in_parts : (slot : ℕ) (to : Place) (number : Option ℕ) → ask_text slot to.host to.port number ≡ codes "ASK " ++ (decimal slot ++ 32 ∷ (address_text to ++ number_text number))
ask_in_parts slot to None =
    ap (λ (xs : List ℕ). codes "ASK " ++ xs) (place_in_parts slot to ∙ ap (λ (xs : List ℕ). decimal slot ++ 32 ∷ xs) (sym (append-nil (address_text to))))
ask_in_parts slot to (Some number) = simp append_assoc refl

same_behind : (front xs ys : List ℕ) → front ++ xs ≡ front ++ ys → xs ≡ ys
same_behind [] xs ys same = same
same_behind (x ∷ front) xs ys same = same_behind front xs ys cc

not_both : (text rest : List ℕ) → codes "MOVED " ++ text ≡ codes "ASK " ++ rest → ⊥
not_both text rest same =
    let first : 77 ≡ 65 = ap (λ (xs : List ℕ). get_or xs 0 0) same in
    omega (arith, first)

moved_parts : (text : List ℕ) (slot : ℕ) (to : Place) → IsRedirection (codes "MOVED " ++ text) (Moved slot to) → IsSlotAndRest text slot (address_text to)
moved_parts text slot to is = record { text_is = same_behind (codes "MOVED ") text _ (is.text_is ∙ moved_in_parts slot to); below = is.slot }

ask_parts : (text : List ℕ) (slot : ℕ) (to : Place) (number : Option ℕ) → IsRedirection (codes "ASK " ++ text) (Ask slot to number) → IsSlotAndRest text slot (address_text to ++ number_text number)
ask_parts text slot to number is = record { text_is = same_behind (codes "ASK ") text _ (is.text_is ∙ ask_in_parts slot to number); below = is.slot }

no_ask : (text : List ℕ) (slot : ℕ) (to : Place) (number : Option ℕ) → IsRedirection (codes "MOVED " ++ text) (Ask slot to number) → ⊥
no_ask text slot to number is = not_both text _ (is.text_is ∙ ask_in_parts slot to number)

no_moved : (text : List ℕ) (slot : ℕ) (to : Place) → IsRedirection (codes "ASK " ++ text) (Moved slot to) → ⊥
no_moved text slot to is = not_both _ text (sym (moved_in_parts slot to) ∙ sym is.text_is)

numbered : (to : Place) (number : Option ℕ) → IsAddress to → IsMove number → IsNumbered (address_text to ++ number_text number) (address_text to) number
numbered to number is move = record { text_is = refl; without = address_has_no_blank to is; is_move = move }

-- ---- behind `MOVED `

pub no_moved_address : (text rest : List ℕ) (slot : ℕ) → IsSlotAndRest text slot rest → IsNoAddress rest → IsNoRedirection (codes "MOVED " ++ text)
no_moved_address text rest slot parts none (Moved other to) is =
    none to is.to (same_rest text slot other rest (address_text to) parts (moved_parts text other to is)).1
no_moved_address text rest slot parts none (Ask other to number) is = no_ask text other to number is

-- ---- behind `ASK `

pub no_ask_number : (text rest : List ℕ) (slot : ℕ) → IsSlotAndRest text slot rest → IsNotNumbered rest → IsNoRedirection (codes "ASK " ++ text)
no_ask_number text rest slot parts none (Moved other to) is = no_moved text other to is
no_ask_number text rest slot parts none (Ask other to number) is =
    let same = same_rest text slot other rest (address_text to ++ number_text number) parts (ask_parts text other to number is) in
    none (address_text to) number (subst (λ (xs : List ℕ). IsNumbered xs (address_text to) number) (sym same.1) (numbered to number is.to is.number))

pub no_ask_address : (text rest address : List ℕ) (slot : ℕ) (number : Option ℕ) → IsSlotAndRest text slot rest → IsNumbered rest address number → IsNoAddress address
    → IsNoRedirection (codes "ASK " ++ text)
no_ask_address text rest address slot number parts behind none (Moved other to) is = no_moved text other to is
no_ask_address text rest address slot number parts behind none (Ask other to more) is =
    let same = same_rest text slot other rest (address_text to ++ number_text more) parts (ask_parts text other to more is) in
    none to is.to (same_numbered rest address (address_text to) number more behind (subst (λ (xs : List ℕ). IsNumbered xs (address_text to) more) (sym same.1) (numbered to more is.to is.number))).0

-- ---- one redirection a text

pub one_redirection : TextIsOfOneRedirection
one_redirection text (Moved slot to) (Moved other more) one two =
    let same = same_rest _ slot other (address_text to) (address_text more) (record { text_is = refl; below = one.slot })
    (record { text_is = same_behind (codes "MOVED ") _ _ (sym (moved_in_parts slot to) ∙ sym one.text_is ∙ two.text_is ∙ moved_in_parts other more); below = two.slot }) in
    let places = same_address to more one.to two.to same.1 in
    λ i. Moved (same.0 i) (places i)
one_redirection text (Moved slot to) (Ask other more number) one two =
    absurd (not_both _ _ (sym (moved_in_parts slot to) ∙ sym one.text_is ∙ two.text_is ∙ ask_in_parts other more number))
one_redirection text (Ask other more number) (Moved slot to) one two =
    absurd (not_both _ _ (sym (moved_in_parts slot to) ∙ sym two.text_is ∙ one.text_is ∙ ask_in_parts other more number))
one_redirection text (Ask slot to number) (Ask other more move) one two =
    let same = same_rest _ slot other (address_text to ++ number_text number) (address_text more ++ number_text move) (record { text_is = refl; below = one.slot })
    (record { text_is = same_behind (codes "ASK ") _ _ (sym (ask_in_parts slot to number) ∙ sym one.text_is ∙ two.text_is ∙ ask_in_parts other more move); below = two.slot }) in
    let parts = same_numbered _ (address_text to) (address_text more) number move (numbered to number one.to one.number)
    (subst (λ (xs : List ℕ). IsNumbered xs (address_text more) move) (sym same.1) (numbered more move two.to two.number)) in
    let places = same_address to more one.to two.to parts.0 in
    λ i. Ask (same.0 i) (places i) (parts.1 i)

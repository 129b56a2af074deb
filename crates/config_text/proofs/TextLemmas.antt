-- The JSON value of a text that is UTF-8, and of one that isn't.
use Rattle.std.proofs.Common.{◌≡◌, ◌∙◌, inl, inr, List, ℕ, None}
use Rattle.std.specs.Str.{IsUtf8, is_utf8}
use Rattle.std.proofs.lemmas.Bool.{cases_Bool, cond-true, cond-false}
use Rattle.std.proofs.lemmas.Str.{IsUtf8-from_is_utf8, is_utf8-from_IsUtf8}
use Rattle.serde_json.specs.Read as json
use Rattle.config_text.specs.Reading.{value_of}

pub value_of-utf8 : (text : List ℕ) → IsUtf8 text → value_of text ≡ json.read text
value_of-utf8 text utf8 = cond-true (is_utf8 text) (json.read text) None (is_utf8-from_IsUtf8 text utf8)

-- a text that is none as UTF-8 is none
pub value_of-none : (text : List ℕ) → (IsUtf8 text → json.read text ≡ None) → value_of text ≡ None
value_of-none text none =
    elim (cases_Bool (is_utf8 text)) [
      | inl is ↦ cond-true (is_utf8 text) (json.read text) None is ∙ none (IsUtf8-from_is_utf8 text is)
      | inr isnt ↦ cond-false (is_utf8 text) (json.read text) None isnt
    ]

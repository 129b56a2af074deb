-- Bytes of which a beginning was written.
use Rattle.std.proofs.Common.{◌≡◌, ℕ, suc, ◌-◌, ◌<◌, List, ◌∷◌, ◌++◌, Option, length, take, drop, get_or, sym, ap, subst, ◌∙◌, append_assoc, take-append-drop}
use Rattle.std.proofs.lemmas.List.{take_rest}
use Rattle.std.proofs.lemmas.Grind.{flat_map-append}
use Rattle.std.proofs.Math.Seq.{split_at}
use Rattle.std.specs.List.{flat_map}
use Rattle.std.specs.Io.KnownBytes.{Appends}
use Rattle.std.proofs.KnownBytes.{Appends-trans}
use Rattle.std.specs.Prelude.{decimal}
use Rattle.resp_values.specs.Reply.{line_spelling}
use Rattle.resp_values.specs.Request.{bulks_spelling, request_spelling}
use Rattle.resp2.specs.Writing.{AppendsBeginning}

-- what is written and what is left are still all, once the first bytes of what was left are written
pub moves_on : (all written rest : List ℕ) (n : ℕ) → written ++ rest ≡ all → (written ++ take n rest) ++ take (length rest - n) (drop n rest) ≡ all
moves_on all written rest n split =
    append_assoc written (take n rest) _ ∙ ap (λ w. written ++ w) (ap (λ w. take n rest ++ w) (take_rest rest n) ∙ take-append-drop n rest) ∙ split

-- the first bytes were written, and of the next a beginning
pub begun_behind : (a b c : Option (List ℕ)) (front bytes : List ℕ) → Appends a b front → AppendsBeginning b c bytes → AppendsBeginning a c (front ++ bytes)
begun_behind a b c front bytes wrote begun =
    record {
      written = front ++ begun.written;
      rest = begun.rest;
      appends = Appends-trans a b c front begun.written wrote begun.appends;
      split = append_assoc front begun.written begun.rest ∙ ap (λ w. front ++ w) begun.split;
    }

-- a beginning of the first bytes is one of all
pub begun_before : (a b : Option (List ℕ)) (bytes behind : List ℕ) → AppendsBeginning a b bytes → AppendsBeginning a b (bytes ++ behind)
begun_before a b bytes behind begun =
    record {
      written = begun.written;
      rest = begun.rest ++ behind;
      appends = begun.appends;
      split = sym (append_assoc begun.written begun.rest behind) ∙ ap (λ w. w ++ behind) begun.split;
    }

-- the pieces before the one at `i` were written, and of that one a beginning
pub begun_at : {X : Type 0} (a b c : Option (List ℕ)) (f : X → List ℕ) (xs : List X) (i : ℕ) (d : X) (bytes : List ℕ) → i < length xs → bytes ≡ f (get_or xs i d)
    → Appends a b (flat_map f (take i xs)) → AppendsBeginning b c bytes → AppendsBeginning a c (flat_map f xs)
begun_at a b c f xs i d bytes lt at wrote begun =
    let whole : flat_map f xs ≡ flat_map f (take i xs) ++ (f (get_or xs i d) ++ flat_map f (drop (suc i) xs)) =
    ap (flat_map f) (split_at xs i d lt) ∙ flat_map-append f (take i xs) (get_or xs i d ∷ drop (suc i) xs) in
    rw (whole, ← at) (begun_behind a b c _ _ wrote (begun_before b c bytes _ begun))

-- a request is the line of its count, in these digits, and its words
count_first : (digits : List ℕ) (shown words : List (List ℕ)) → digits ≡ decimal (length shown) → shown ≡ words → line_spelling 42 digits ++ bulks_spelling shown ≡ request_spelling words
count_first digits shown words text same = ap (λ t. line_spelling 42 t ++ bulks_spelling shown) text ∙ ap request_spelling same

-- a beginning of that line is one of the request
pub request_begun : (a b : Option (List ℕ)) (digits : List ℕ) (shown words : List (List ℕ)) → digits ≡ decimal (length shown) → shown ≡ words
    → AppendsBeginning a b (line_spelling 42 digits) → AppendsBeginning a b (request_spelling words)
request_begun a b digits shown words text same begun =
    subst (AppendsBeginning a b) (count_first digits shown words text same) (begun_before a b _ (bulks_spelling shown) begun)

-- and so is the line with a beginning of the words
pub words_begun : (a b c : Option (List ℕ)) (digits : List ℕ) (shown words : List (List ℕ)) → digits ≡ decimal (length shown) → shown ≡ words
    → Appends a b (line_spelling 42 digits) → AppendsBeginning b c (bulks_spelling shown) → AppendsBeginning a c (request_spelling words)
words_begun a b c digits shown words text same wrote begun =
    subst (AppendsBeginning a c) (count_first digits shown words text same) (begun_behind a b c _ _ wrote begun)

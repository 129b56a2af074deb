-- When the request that makes a key with its value keeps its limits.
use Rattle.std.proofs.Common.{◌≡◌, ◌+◌, ◌-◌, ◌*◌, ◌^◌, ◌<◌, ◌≤◌, ℕ, suc, min, List, [], ◌∷◌, ◌++◌, length, length-append, false, ◌&&◌, inl, inr, refl, sym, ap, ◌∙◌, arith, codes, le-leb}
use Rattle.std.proofs.lemmas.Bool.{lt-leb}
use Rattle.std.proofs.lemmas.Bool.Decides.{leb_tells}
use Rattle.std.specs.Prelude.{nat_le}
use Rattle.hash.specs.Pairs.{Pairs}
use Rattle.hash.specs.Size.{size_of, words_of}
use Rattle.resp_values.proofs.Spellings.{bulk_len}
use Rattle.resp_values.specs.Request.{bulk_spelling, bulks_spelling, header_spelling, request_spelling}
use Rattle.keyspace.specs.Rebuilding.{fits_hash, fits_request, rebuilding}
use Rattle.keyspace.specs.Strings.{fits_string}
use Rattle.keyspace.specs.declared.value.Value.TheVariants.{Str, Hash}

-- the bytes of SET with a key and a string
string_size : (key bytes : List ℕ) → length (request_spelling (rebuilding key (Str bytes)))
    ≡ length (header_spelling 42 3) + (length (bulk_spelling (codes "SET")) + (length (bulk_spelling key) + (length (bulk_spelling bytes) + 0)))
string_size key bytes =
    length-append (header_spelling 42 3) (bulk_spelling (codes "SET") ++ (bulk_spelling key ++ (bulk_spelling bytes ++ [])))
    ∙ ap (λ n. length (header_spelling 42 3) + n) (
    length-append (bulk_spelling (codes "SET")) (bulk_spelling key ++ (bulk_spelling bytes ++ []))
    ∙ ap (λ n. length (bulk_spelling (codes "SET")) + n) (
    length-append (bulk_spelling key) (bulk_spelling bytes ++ [])
    ∙ ap (λ n. length (bulk_spelling key) + n) (length-append (bulk_spelling bytes) [])))

-- three words are few enough, so the bytes decide
pub string_fits : (key bytes : List ℕ) (size header name first second : ℕ) → size ≡ header + name + first + second → header ≡ length (header_spelling 42 3) → name ≡ length (bulk_spelling (codes "SET"))
    → first ≡ length (bulk_spelling key) → second ≡ length (bulk_spelling bytes) → nat_le size 16777216 ≡ fits_request (rebuilding key (Str bytes))
string_fits key bytes size header name first second all headed named keyed valued =
    let whole : size ≡ length (request_spelling (rebuilding key (Str bytes))) = omega (arith, string_size key bytes, headed, named, keyed, valued, all) in
    ap (λ n. nat_le n 16777216) whole

-- a string of so many bytes
module _ (key bytes : List ℕ) (len : ℕ) (counted : len ≡ min (length bytes) (2 ^ 64 - 1)) where
  -- it is too long for a word
  pub word_too_long : 8388608 < len → false ≡ fits_string key bytes
  word_too_long long = sym (ap (λ b. b && fits_request (rebuilding key (Str bytes))) (lt-leb (length bytes) 8388608 (omega (arith, counted))))

  -- or the bytes of its request decide
  pub fits_by_length : len ≤ 8388608 → (size header name first head : ℕ) → size ≡ header + name + first + head + len + 2 → header ≡ length (header_spelling 42 3) → name ≡ length (bulk_spelling (codes "SET"))
      → first ≡ length (bulk_spelling key) → head ≡ length (header_spelling 36 len) → nat_le size 16777216 ≡ fits_string key bytes
  fits_by_length short size header name first head all headed named keyed counting =
      let same : len ≡ length bytes = omega (arith, counted) in
      let second : head + len + 2 ≡ length (bulk_spelling bytes) = omega (arith, bulk_len bytes, same, counting, ap (λ (n : ℕ). length (header_spelling 36 n)) same) in
      string_fits key bytes size header name first (head + len + 2) (omega (arith, all)) headed named keyed second
      ∙ sym (ap (λ b. b && fits_request (rebuilding key (Str bytes))) (le-leb (length bytes) 8388608 (omega (arith, same))))

-- two words a field
pub words_count : (pairs : Pairs) → length (words_of pairs) ≡ 2 * length pairs
words_count [] = refl
words_count (pair ∷ pairs) = omega (arith, words_count pairs)

request_size : (key : List ℕ) (pairs : Pairs) → length (request_spelling (rebuilding key (Hash pairs)))
    ≡ length (header_spelling 42 (suc (suc (length (words_of pairs))))) + (length (bulk_spelling (codes "HSET")) + (length (bulk_spelling key) + size_of pairs))
request_size key pairs =
    length-append (header_spelling 42 (suc (suc (length (words_of pairs))))) (bulk_spelling (codes "HSET") ++ (bulk_spelling key ++ bulks_spelling (words_of pairs)))
    ∙ ap (λ n. length (header_spelling 42 (suc (suc (length (words_of pairs))))) + n) (
    length-append (bulk_spelling (codes "HSET")) (bulk_spelling key ++ bulks_spelling (words_of pairs))
    ∙ ap (λ n. length (bulk_spelling (codes "HSET")) + n) (length-append (bulk_spelling key) (bulks_spelling (words_of pairs))))

module _ (key : List ℕ) (pairs : Pairs) (fields : ℕ) (counted : fields ≡ length pairs) where
  -- there are too many words
  pub too_many : 32767 < fields → false ≡ fits_hash key pairs
  too_many many =
      let words : 65536 < suc (suc (length (words_of pairs))) = omega (arith, words_count pairs, counted) in
      sym (ap (λ b. b && nat_le (length (request_spelling (rebuilding key (Hash pairs)))) 16777216) (lt-leb (suc (suc (length (words_of pairs)))) 65536 words))

  module _ (few : fields ≤ 32767) (around header name bulk size : ℕ) (sized : size ≡ size_of pairs) (all : around ≡ header + name + bulk)
      (headed : header ≡ length (header_spelling 42 (2 + 2 * fields))) (named : name ≡ length (bulk_spelling (codes "HSET"))) (keyed : bulk ≡ length (bulk_spelling key)) where
    bytes : length (request_spelling (rebuilding key (Hash pairs))) ≡ around + size
    bytes =
        let count : suc (suc (length (words_of pairs))) ≡ 2 + 2 * fields = omega (arith, words_count pairs, counted) in
        let head : length (header_spelling 42 (suc (suc (length (words_of pairs))))) ≡ header = ap (λ n. length (header_spelling 42 n)) count ∙ sym headed in
        request_size key pairs ∙ omega (arith, head, named, keyed, sized, all)

    -- so the bytes decide
    by_bytes : fits_hash key pairs ≡ nat_le (length (request_spelling (rebuilding key (Hash pairs)))) 16777216
    by_bytes =
        let words : suc (suc (length (words_of pairs))) ≤ 65536 = omega (arith, words_count pairs, counted) in
        ap (λ b. b && nat_le (length (request_spelling (rebuilding key (Hash pairs)))) 16777216) (le-leb (suc (suc (length (words_of pairs)))) 65536 words)

    -- what stands around the fields takes too many bytes
    pub too_long : 16777216 < around → false ≡ fits_hash key pairs
    too_long long = sym (by_bytes ∙ lt-leb (length (request_spelling (rebuilding key (Hash pairs)))) 16777216 (omega (arith, bytes)))

    -- the fields may take what is left
    pub fits_by_size : around ≤ 16777216 → nat_le size (16777216 - around) ≡ fits_hash key pairs
    fits_by_size short =
        elim (leb_tells size (16777216 - around)) as (λ _. nat_le size (16777216 - around) ≡ nat_le (length (request_spelling (rebuilding key (Hash pairs)))) 16777216) [
          | inl fit ↦ fit.0 ∙ sym (le-leb (length (request_spelling (rebuilding key (Hash pairs)))) 16777216 (omega (arith, bytes, fit.1)))
          | inr not_fit ↦ not_fit.0 ∙ sym (lt-leb (length (request_spelling (rebuilding key (Hash pairs)))) 16777216 (omega (arith, bytes, not_fit.1)))
        ]
        ∙ sym by_bytes

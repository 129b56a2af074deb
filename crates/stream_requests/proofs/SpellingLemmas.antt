-- Requests as bytes.
use Rattle.std.proofs.Common.{◌≡◌, ◌+◌, ◌*◌, ◌++◌, ◌||◌, ℕ, Bool, true, false, cond, nat_eq, List, [], ◌∷◌, length, map, Option, append_assoc, append-nil, true≢false, refl, sym, ap, ◌∙◌, arith}
use Rattle.std.proofs.lemmas.Cmp.{nat_list_cmp_total}
use Rattle.std.specs.Cmp.Lexicographic.{pointwise}
use Rattle.std.specs.FinMap as fin_map
use Rattle.std.specs.List.{flat_map, list_any}
use Rattle.std.specs.Prelude.{Some, None, is_some}
use Rattle.hash.specs.Pairs.{Pairs}
use Rattle.hash.specs.Size.{words_of}
use Rattle.keyspace.proofs.FirstChange.{key_test}
use Rattle.keyspace.specs.Keyspace.{Keyspace}
use Rattle.keyspace.specs.Rebuilding.{rebuilding}
use Rattle.keyspace.specs.declared.value.Value.{Value}
use Rattle.node_step.specs.Streams.{Requests, deletion, written_by_pair, written_by_pairs}
use Rattle.resp2.proofs.Callers.{stream_spelling-append}
use Rattle.resp2.specs.Stream.{stream_spelling}
use Rattle.resp_values.specs.Request.{bulk_spelling, bulks_spelling, header_spelling, request_spelling}
use Rattle.stream_requests.specs.Spelling.{deletion_bytes, deletion_if, rebuilt}

pub deletions_spelled : (keys : List (List ℕ)) → flat_map deletion_bytes keys ≡ stream_spelling (map deletion keys)
deletions_spelled [] = refl
deletions_spelled (key ∷ keys) = ap (λ bytes. deletion_bytes key ++ bytes) (deletions_spelled keys)

-- a request in four parts: its count, its first two words, and the others
request_in_parts : (before : List ℕ) (count : ℕ) (name key : List ℕ) (words : List (List ℕ)) → count ≡ length (name ∷ key ∷ words)
    → (((before ++ header_spelling 42 count) ++ bulk_spelling name) ++ bulk_spelling key) ++ bulks_spelling words ≡ before ++ request_spelling (name ∷ key ∷ words)
request_in_parts before count name key words counted =
    append_assoc ((before ++ header_spelling 42 count) ++ bulk_spelling name) (bulk_spelling key) (bulks_spelling words)
    ∙ append_assoc (before ++ header_spelling 42 count) (bulk_spelling name) (bulk_spelling key ++ bulks_spelling words)
    ∙ append_assoc before (header_spelling 42 count) (bulk_spelling name ++ (bulk_spelling key ++ bulks_spelling words))
    ∙ ap (λ (n : ℕ). before ++ (header_spelling 42 n ++ (bulk_spelling name ++ (bulk_spelling key ++ bulks_spelling words)))) counted

pub string_spelled : (before name key string : List ℕ)
    → (((before ++ header_spelling 42 3) ++ bulk_spelling name) ++ bulk_spelling key) ++ bulk_spelling string ≡ before ++ request_spelling (name ∷ key ∷ string ∷ [])
string_spelled before name key string =
    ap (λ (bytes : List ℕ). (((before ++ header_spelling 42 3) ++ bulk_spelling name) ++ bulk_spelling key) ++ bytes) (sym (append-nil (bulk_spelling string)))
    ∙ request_in_parts before 3 name key (string ∷ []) (omega arith)

two_words_each : (pairs : Pairs) → length (words_of pairs) ≡ 2 * length pairs
two_words_each [] = refl
two_words_each (pair ∷ pairs) = omega (arith, two_words_each pairs)

pub hash_spelled : (before : List ℕ) (count : ℕ) (name key : List ℕ) (pairs : Pairs) → count ≡ 2 * length pairs + 2
    → (((before ++ header_spelling 42 count) ++ bulk_spelling name) ++ bulk_spelling key) ++ bulks_spelling (words_of pairs) ≡ before ++ request_spelling (name ∷ key ∷ words_of pairs)
hash_spelled before count name key pairs counted = request_in_parts before count name key (words_of pairs) (omega (arith, counted, two_words_each pairs))

-- no bytes are put behind
pub none_behind : (is_there : Bool) (key bytes : List ℕ) → is_there ≡ false → bytes ≡ bytes ++ deletion_if is_there key
none_behind true key bytes not_there = absurd (true≢false not_there)
none_behind false key bytes not_there = sym (append-nil bytes)

-- what makes a key anew, in two parts
pub rebuilt_behind : (is_there : Bool) (key : List ℕ) (value : Value) (old between new : List ℕ) → between ≡ old ++ deletion_if is_there key → new ≡ between ++ request_spelling (rebuilding key value)
    → new ≡ old ++ stream_spelling (rebuilt is_there key value)
rebuilt_behind is_there key value old between new before behind =
    behind ∙ ap (λ (b : List ℕ). b ++ request_spelling (rebuilding key value)) before
    ∙ append_assoc old (deletion_if is_there key) (request_spelling (rebuilding key value))
    ∙ ap (λ (b : List ℕ). old ++ b) (both_parts is_there)
  where
    both_parts : (is_there : Bool) → deletion_if is_there key ++ request_spelling (rebuilding key value) ≡ stream_spelling (rebuilt is_there key value)
    both_parts true = ap (λ (b : List ℕ). deletion_bytes key ++ b) (sym (append-nil (request_spelling (rebuilding key value))))
    both_parts false = sym (append-nil (request_spelling (rebuilding key value)))

-- ---- pairs, one after another

-- one of the pairs is at the key
abbrev pub has_key : List (List ℕ × Value) → List ℕ → Bool
has_key pairs key = list_any (λ pair. pointwise nat_eq pair.0 key) pairs

there_or_set : (test : Bool) (value : Value) (old : Option Value) → is_some (cond test (Some value) old) ≡ (is_some old || test)
there_or_set true value None = refl
there_or_set true value (Some other) = refl
there_or_set false value None = refl
there_or_set false value (Some other) = refl

there_inserted : (m : Keyspace) (k : List ℕ) (value : Value) (q : List ℕ) → is_some (fin_map.get (fin_map.insert m k value) q) ≡ (is_some (fin_map.get m q) || pointwise nat_eq k q)
there_inserted m k value q =
    ap is_some (fin_map.get-insert nat_list_cmp_total m k value q)
    ∙ ap (λ (test : Bool). is_some (cond test (Some value) (fin_map.get m q))) (key_test k q (pointwise nat_eq k q) refl)
    ∙ there_or_set (pointwise nat_eq k q) value (fin_map.get m q)

or_false : (a : Bool) → a ≡ (a || false)
or_false true = refl
or_false false = refl

or_assoc : (a b c : Bool) → ((a || b) || c) ≡ (a || (b || c))
or_assoc true b c = refl
or_assoc false b c = refl

-- one more pair is installed behind the others
written_behind : (m : Keyspace) (pairs : List (List ℕ × Value)) (pair : List ℕ × Value)
    → written_by_pairs m (pairs ++ pair ∷ []) ≡ written_by_pairs m pairs ++ rebuilt (is_some (fin_map.get m pair.0) || has_key pairs pair.0) pair.0 pair.1
written_behind m [] pair =
    append-nil (written_by_pair m pair.0 pair.1) ∙ ap (λ (is_there : Bool). rebuilt is_there pair.0 pair.1) (or_false (is_some (fin_map.get m pair.0)))
written_behind m (first ∷ pairs) pair =
    ap (λ (requests : Requests). written_by_pair m first.0 first.1 ++ requests)
    (written_behind (fin_map.insert m first.0 first.1) pairs pair
    ∙ ap (λ (is_there : Bool). written_by_pairs (fin_map.insert m first.0 first.1) pairs ++ rebuilt is_there pair.0 pair.1)
    (ap (λ (is_there : Bool). is_there || has_key pairs pair.0) (there_inserted m first.0 first.1 pair.0)
    ∙ or_assoc (is_some (fin_map.get m pair.0)) (pointwise nat_eq first.0 pair.0) (has_key pairs pair.0)))
    ∙ sym (append_assoc (written_by_pair m first.0 first.1) (written_by_pairs (fin_map.insert m first.0 first.1) pairs)
    (rebuilt (is_some (fin_map.get m pair.0) || has_key (first ∷ pairs) pair.0) pair.0 pair.1))

pub one_more_written : (m : Keyspace) (before more : List (List ℕ × Value)) (pair : List ℕ × Value) (tested key : List ℕ) (value : Value) (is_there : Bool) (old new : List ℕ)
    → more ≡ before ++ pair ∷ [] → tested ≡ pair.0 → is_there ≡ (is_some (fin_map.get m tested) || has_key before tested) → key ≡ pair.0 → value ≡ pair.1
    → new ≡ old ++ stream_spelling (rebuilt is_there key value) → old ≡ stream_spelling (written_by_pairs m before) → new ≡ stream_spelling (written_by_pairs m more)
one_more_written m before more pair tested key value is_there old new all test there named held writes so_far =
    let behind = rebuilt (is_some (fin_map.get m pair.0) || has_key before pair.0) pair.0 pair.1 in
    writes ∙ ap (λ (k : List ℕ). old ++ stream_spelling (rebuilt is_there k value)) named
    ∙ ap (λ (v : Value). old ++ stream_spelling (rebuilt is_there pair.0 v)) held
    ∙ ap (λ (b : Bool). old ++ stream_spelling (rebuilt b pair.0 pair.1)) (there ∙ ap (λ (k : List ℕ). is_some (fin_map.get m k) || has_key before k) test)
    ∙ ap (λ (bytes : List ℕ). bytes ++ stream_spelling behind) so_far
    ∙ sym (stream_spelling-append (written_by_pairs m before) behind)
    ∙ ap (λ (requests : Requests). stream_spelling requests) (sym (written_behind m before pair))
    ∙ ap (λ (some : List (List ℕ × Value)). stream_spelling (written_by_pairs m some)) (sym all)

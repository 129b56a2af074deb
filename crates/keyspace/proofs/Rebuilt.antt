-- What the request that rebuilds a hash makes.
use Rattle.std.proofs.Common.{◌≡◌, ◌-◌, ◌<◌, ℕ, List, [], ◌∷◌, ◌++◌, length, true, false, cond, nat_eq, append_assoc, append-nil, refl, sym, ap, subst, ◌∙◌, arith, codes, pos, le-leb}
use Rattle.std.proofs.lemmas.Bool.{and_from}
use Rattle.std.proofs.lemmas.Cmp.{nat_list_cmp_total, eq_by_cmp_equiv}
use Rattle.std.specs.Cmp.Lexicographic.{pointwise, slice_cmp, texts_ties}
use Rattle.std.specs.FinMap as map
use Rattle.std.specs.List.{AllByRecursion, IsDistinct}
use Rattle.std.specs.Map.{keys_of}
use Rattle.std.specs.Option.{option_map}
use Rattle.std.specs.Ordering.{nat_cmp}
use Rattle.std.specs.Prelude.{Some, None, if◌then◌else◌}
use Rattle.command_table.specs.Pairs.{pairs_of}
use Rattle.command_table.specs.Table.{with_pairs}
use Rattle.command_table.specs.declared.command.DataCommand.TheVariants.{Hset}
use Rattle.command_table.specs.declared.error_line.ErrorLine.TheVariants.{TooLong}
use Rattle.command_table.specs.declared.names.Name.TheVariants as name
use Rattle.hash.specs.Pairs.{Pairs, HasDistinctFields, fields_changed}
use Rattle.hash.specs.Size.{words_of}
use Rattle.indexmap.specs.IndexMap.{insert_entry}
use Rattle.resp_values.specs.Request.{IsRequest}
use Rattle.resp_values.specs.declared.reply.Reply.TheVariants.{Integer}
use Rattle.keyspace.specs.Commands.{exec_words, execution_of, with_values}
use Rattle.keyspace.specs.Effect.{left, refused}
use Rattle.keyspace.specs.Hashes.{fields_of, hash_left, hset_of, on_fields, sets}
use Rattle.keyspace.specs.Keyspace.{Keyspace}
use Rattle.keyspace.specs.Rebuild.{IsStored, Rebuilds}
use Rattle.keyspace.specs.Rebuilding.{fits_hash, rebuilding}
use Rattle.keyspace.specs.declared.value.Value.{Value}
use Rattle.keyspace.specs.declared.value.Value.TheVariants.{Str, Hash}

-- the words of pairs are these pairs
pub pairs_of_words : (pairs : Pairs) → pairs_of (words_of pairs) ≡ Some pairs
pairs_of_words [] = refl
pairs_of_words (pair ∷ pairs) = ap (option_map (λ rest. pair ∷ rest)) (pairs_of_words pairs)

symmetric : (a b : List ℕ) → pointwise nat_eq a b ≡ false → pointwise nat_eq b a ≡ false
symmetric a b apart = texts_ties b a ∙ (eq_by_cmp_equiv nat_list_cmp_total).symm b a ∙ sym (texts_ties a b) ∙ apart

-- a new field comes last
insert_last : (pairs : Pairs) (field value : List ℕ) → AllByRecursion (λ other. pointwise nat_eq field other ≡ false) (keys_of pairs) → insert_entry (pointwise nat_eq) pairs field value ≡ pairs ++ (field, value) ∷ []
insert_last [] field value apart = refl
insert_last (pair ∷ pairs) field value apart =
    ap (λ b. cond b ((pair.0, value) ∷ pairs) (pair ∷ insert_entry (pointwise nat_eq) pairs field value)) apart.0 ∙ ap (λ rest. pair ∷ rest) (insert_last pairs field value apart.1)

-- what holds of all keys holds of one between others
between : (P : List ℕ → Type 0) (done rest : Pairs) (field value : List ℕ) → AllByRecursion P (keys_of (done ++ (field, value) ∷ rest)) → P field
between P [] rest field value all = all.0
between P (pair ∷ done) rest field value all = between P done rest field value all.1

-- a field is apart from those before it
apart_before : (done rest : Pairs) (field value : List ℕ) → HasDistinctFields (done ++ (field, value) ∷ rest) → AllByRecursion (λ other. pointwise nat_eq field other ≡ false) (keys_of done)
unfolding IsDistinct
apart_before [] rest field value distinct = tt
apart_before (pair ∷ done) rest field value distinct =
    (symmetric pair.0 field (between (λ other. pointwise nat_eq pair.0 other ≡ false) done rest field value distinct.0), apart_before done rest field value distinct.1)

-- distinct fields that are set one after another stand in this order
set_in_order : (done rest : Pairs) → HasDistinctFields (done ++ rest) → fields_changed done (sets rest) ≡ done ++ rest
set_in_order done [] distinct = sym (append-nil done)
set_in_order done ((field, value) ∷ rest) distinct =
    let moved = append_assoc done ((field, value) ∷ []) rest in
    ap (λ now. fields_changed now (sets rest)) (insert_last done field value (apart_before done rest field value distinct))
    ∙ set_in_order (done ++ (field, value) ∷ []) rest (subst HasDistinctFields (sym moved) distinct) ∙ moved

pub all_set : (pairs : Pairs) → HasDistinctFields pairs → fields_changed [] (sets pairs) ≡ pairs
all_set pairs distinct = set_in_order [] pairs distinct

-- HSET where the key is not there
rebuilt_hash : (m : Keyspace) (key : List ℕ) (pairs : Pairs) → map.get m key ≡ None → 0 < length pairs → HasDistinctFields pairs → fits_hash key pairs ≡ true
    → (exec_words m (codes "HSET" ∷ key ∷ words_of pairs)).after ≡ map.insert m key (Hash pairs)
rebuilt_hash m key [] none some distinct fits = absurd (omega arith)
rebuilt_hash m key (pair ∷ pairs) none some distinct fits =
    ap (λ found. (execution_of m (with_pairs name.Hset (Hset key) found)).after) (pairs_of_words (pair ∷ pairs))
    ∙ ap (λ old. with_values m (key ∷ []) (on_fields (fields_of old) (hset_of key (pair ∷ pairs))).leaves) none
    ∙ ap (λ new. with_values m (key ∷ []) (hash_left (Integer (pos (length new - 0))) key new).leaves) (all_set (pair ∷ pairs) distinct)
    ∙ ap (λ b. with_values m (key ∷ []) (if b then left (Integer (pos (length (pair ∷ pairs) - 0))) (Some (Hash (pair ∷ pairs))) else refused TooLong).leaves) fits

-- the request of a key that is not there puts its value
pub rebuilt : (m : Keyspace) (key : List ℕ) (value : Value) → map.get m key ≡ None → IsStored value → IsRequest (rebuilding key value) → (exec_words m (rebuilding key value)).after ≡ map.insert m key value
rebuilt m key (Str bytes) none stored request = refl
rebuilt m key (Hash pairs) none stored request =
    rebuilt_hash m key pairs none stored.0 stored.1 (and_from _ _ (le-leb _ 65536 request.limits.each.few) (le-leb _ 16777216 request.limits.all))

pub rebuilds : Rebuilds
rebuilds key value stored request = rebuilt map.empty key value (map.get-empty (slice_cmp nat_cmp) key) stored request

-- What DEL leaves, for keys that were acknowledged, and for those of lost slots; and what makes copied keys.
use Rattle.std.proofs.Common.{◌≡◌, ◌&&◌, ℕ, Bool, true, false, cond, not, List, [], ◌∷◌, map, Option, Some, None, refl, sym, ap, ◌∙◌}
use Rattle.std.proofs.lemmas.Bool.{both_ways}
use Rattle.std.proofs.lemmas.Cmp.{nat_list_cmp_total, eq_by_cmp_equiv}
use Rattle.std.proofs.lemmas.Map.Lookups.{exact_bytes}
use Rattle.std.specs.FinMap as fin_map
use Rattle.std.specs.List.{list_any}
use Rattle.std.specs.Prelude.{◌||◌, ◌++◌, filter, is_some}
use Rattle.keyspace.proofs.Applied.{is_key, is_key-same, same}
use Rattle.keyspace.proofs.Rebuilt.{rebuilt}
use Rattle.keyspace.specs.Commands.{exec_words, replay_from}
use Rattle.keyspace.specs.Keyspace.{Keyspace}
use Rattle.keyspace.specs.Replay.{HasRequest}
use Rattle.keyspace.specs.Rebuilding.{rebuilding}
use Rattle.keyspace.specs.declared.value.Value.{Value}
use Rattle.node_step.proofs.Lists.{contains_first, contains_more}
use Rattle.node_step.specs.Copies.{with_copied, without}
use Rattle.node_step.specs.Streams.{Requests, deletion, written_by_pair, written_by_pairs}
use Rattle.promoted_prefix.proofs.Growing.{HaveRequests}

-- ---- keys in a list

pub taken_out : (keyspace : Keyspace) (keys : List (List ℕ)) → without keyspace keys ≡ (replay_from keyspace (map deletion keys)).last
taken_out keyspace [] = refl
taken_out keyspace (key ∷ keys) = taken_out (fin_map.remove keyspace key) keys

-- ---- some keys

has_both : (one other : Bool) (o : Option Value) → cond other None (cond one None o) ≡ cond (one || other) None o
has_both true true o = refl
has_both true false o = refl
has_both false true o = refl
has_both false false o = refl

deletions_leave : (keyspace : Keyspace) (keys : List (List ℕ)) (q : List ℕ) → fin_map.get (replay_from keyspace (map deletion keys)).last q ≡ cond (list_any (is_key q) keys) None (fin_map.get keyspace q)
deletions_leave keyspace [] q = refl
deletions_leave keyspace (key ∷ keys) q =
    deletions_leave (fin_map.remove keyspace key) keys q
    ∙ ap (λ (o : Option Value). cond (list_any (is_key q) keys) None o) (fin_map.get-remove nat_list_cmp_total keyspace key q)
    ∙ has_both (is_key q key) (list_any (is_key q) keys) (fin_map.get keyspace q)

module _ (lost : List ℕ → Bool) (q : List ℕ) where
  any_lost : (keys : List (List ℕ)) → list_any (is_key q) (filter lost keys) ≡ (lost q && list_any (is_key q) keys)
  any_lost [] = by_lost (lost q)
    where
      by_lost : (b : Bool) → false ≡ (b && false)
      by_lost true = refl
      by_lost false = refl
  any_lost (key ∷ keys) = by_tests (lost key) (is_key q key) (lost q) refl refl refl (any_lost keys)
    where
      by_tests : (here is mine : Bool) → lost key ≡ here → is_key q key ≡ is → lost q ≡ mine → list_any (is_key q) (filter lost keys) ≡ (mine && list_any (is_key q) keys)
          → list_any (is_key q) (cond here (key ∷ filter lost keys) (filter lost keys)) ≡ (mine && (is || list_any (is_key q) keys))
      by_tests true true true lost_here same lost_q rest = ap (λ b. b || list_any (is_key q) (filter lost keys)) same
      by_tests true true false lost_here same lost_q rest = absurd (both_ways (lost q) lost_q (ap lost (is_key-same q key same) ∙ lost_here))
      by_tests true false true lost_here same lost_q rest = ap (λ b. b || list_any (is_key q) (filter lost keys)) same ∙ rest
      by_tests true false false lost_here same lost_q rest = ap (λ b. b || list_any (is_key q) (filter lost keys)) same ∙ rest
      by_tests false true true lost_here same lost_q rest = absurd (both_ways (lost q) (ap lost (is_key-same q key same) ∙ lost_here) lost_q)
      by_tests false true false lost_here same lost_q rest = rest
      by_tests false false true lost_here same lost_q rest = rest
      by_tests false false false lost_here same lost_q rest = rest

by_key : (lost : Bool) (o : Option Value) → cond (not lost) o None ≡ cond (lost && is_some o) None o
by_key true None = refl
by_key true (Some value) = refl
by_key false o = refl

-- the keys that pass a test are deleted
pub all_deleted : (keyspace : Keyspace) (lost : List ℕ → Bool)
    → fin_map.retain_keys keyspace (λ key. not (lost key)) ≡ (replay_from keyspace (map deletion (filter lost (fin_map.keys keyspace)))).last
all_deleted keyspace lost = same _ _ (λ q.
    fin_map.get-retain_keys keyspace (λ key. not (lost key)) q (λ x alike. ap (λ (key : List ℕ). not (lost key)) (sym (exact_bytes q x alike)))
    ∙ by_key (lost q) (fin_map.get keyspace q)
    ∙ ap (λ b. cond (lost q && b) None (fin_map.get keyspace q)) (fin_map.contains_key-keys keyspace q)
    ∙ ap (λ b. cond b None (fin_map.get keyspace q)) (sym (any_lost lost q (fin_map.keys keyspace)))
    ∙ sym (deletions_leave keyspace (filter lost (fin_map.keys keyspace)) q))

-- ---- copied keys

put_over : (keyspace : Keyspace) (key : List ℕ) (value : Value) → fin_map.insert (fin_map.remove keyspace key) key value ≡ fin_map.insert keyspace key value
put_over keyspace key value = same _ _ (λ q.
    fin_map.get-insert nat_list_cmp_total (fin_map.remove keyspace key) key value q
    ∙ ap (λ o. cond (is_key q key) (Some value) o) (fin_map.get-remove nat_list_cmp_total keyspace key q)
    ∙ covered (is_key q key) (fin_map.get keyspace q)
    ∙ sym (fin_map.get-insert nat_list_cmp_total keyspace key value q))
  where
    covered : (b : Bool) (o : Option Value) → cond b (Some value) (cond b None o) ≡ cond b (Some value) o
    covered true o = refl
    covered false o = refl

gone : (keyspace : Keyspace) (key : List ℕ) → fin_map.get (fin_map.remove keyspace key) key ≡ None
gone keyspace key = fin_map.get-remove nat_list_cmp_total keyspace key key ∙ ap (λ b. cond b None (fin_map.get keyspace key)) ((eq_by_cmp_equiv nat_list_cmp_total).refl key)

-- one that is put
put_is : (keyspace : Keyspace) (key : List ℕ) (value : Value) → HasRequest (key, value) → fin_map.insert keyspace key value ≡ (replay_from keyspace (written_by_pair keyspace key value)).last
put_is keyspace key value has = by_there (fin_map.get keyspace key) refl
  where
    by_there : (o : Option Value) → fin_map.get keyspace key ≡ o
        → fin_map.insert keyspace key value ≡ (replay_from keyspace (cond (is_some o) (deletion key ∷ rebuilding key value ∷ []) (rebuilding key value ∷ []))).last
    by_there None none = sym (rebuilt keyspace key value none has.0 has.1)
    by_there (Some old) there = sym (put_over keyspace key value) ∙ sym (rebuilt (fin_map.remove keyspace key) key value (gone keyspace key) has.0 has.1)

pub replayed : (requests others : Requests) (keyspace : Keyspace) → (replay_from keyspace (requests ++ others)).last ≡ (replay_from (replay_from keyspace requests).last others).last
replayed [] others keyspace = refl
replayed (words ∷ requests) others keyspace = replayed requests others (exec_words keyspace words).after

-- and several, one after another
pub copied_are : (keyspace : Keyspace) (pairs : List (List ℕ × Value)) → HaveRequests pairs → with_copied keyspace pairs ≡ (replay_from keyspace (written_by_pairs keyspace pairs)).last
copied_are keyspace [] have = refl
copied_are keyspace (pair ∷ pairs) have =
    let next : Keyspace = fin_map.insert keyspace pair.0 pair.1 in
    copied_are next pairs (λ key value among. have key value (contains_more {X = List ℕ × Value} pair (key, value) pairs among))
    ∙ ap (λ (m : Keyspace). (replay_from m (written_by_pairs next pairs)).last) (put_is keyspace pair.0 pair.1 (have pair.0 pair.1 (contains_first {X = List ℕ × Value} pair pairs)))
    ∙ sym (replayed (written_by_pair keyspace pair.0 pair.1) (written_by_pairs next pairs) keyspace)

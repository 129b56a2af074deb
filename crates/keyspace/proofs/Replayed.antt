-- Which keyspace the replay of requests leaves.
use Rattle.std.proofs.Common.{◌≡◌, ℕ, List, [], ◌∷◌, ◌++◌, Bool, true, false, cond, T, ◌&&◌, append_assoc, append-nil, refl, sym, ap, subst, ◌∙◌, true≢false}
use Rattle.std.proofs.lemmas.Cmp.{nat_list_cmp_total}
use Rattle.std.proofs.lemmas.List.Elements.{All-head, All-tail}
use Rattle.std.proofs.lemmas.Map.Lookups.{exact_bytes}
use Rattle.std.specs.Cmp.Lexicographic.{slice_cmp}
use Rattle.std.specs.FinMap as fin_map
use Rattle.std.specs.FinMap.Entries.{below_all, find, is_sorted}
use Rattle.std.specs.Ordering.{is_lt, is_eq, nat_cmp, ordering_reverse}
use Rattle.std.specs.Prelude.{All, Option, None, Some, Result, Ok, Err, map}
use Rattle.std.specs.declared.cmp.Ordering.{Ordering}
use Rattle.std.specs.declared.cmp.Ordering.TheVariants.{Less, Equal, Greater}
use Rattle.command_table.specs.Keys.{data_keys, is_data_write}
use Rattle.command_table.specs.Table.{command_of}
use Rattle.command_table.specs.declared.command.Command.{Command}
use Rattle.command_table.specs.declared.command.Command.TheVariants.{Data, Cluster}
use Rattle.command_table.specs.declared.command.DataCommand.{DataCommand}
use Rattle.command_table.specs.declared.command.DataCommand.TheVariants.{Set, Mset, Setnx, Getset, Getdel, Append, Incr, Decr, Incrby, Del, Hset, Hsetnx, Hdel, Hincrby}
use Rattle.command_table.specs.declared.fault.CommandFault.{CommandFault}
use Rattle.keyspace.proofs.Applied.{same}
use Rattle.keyspace.proofs.Rebuilt.{rebuilt}
use Rattle.keyspace.specs.Commands.{effect, exec, exec_words, execution_of, replay_from, values_at, with_values, Replay}
use Rattle.keyspace.specs.Keyspace.{Keyspace, keyspace_of}
use Rattle.keyspace.specs.Replay.{is_write_of, writes_of, WritesLeaveAll, RequestsExecuteCommands, AreRequestsOf, request_of, HasRequest, RequestsOfKeysLeaveThem}
use Rattle.keyspace.specs.declared.value.Value.{Value}

-- ---- writes

-- a command that doesn't write leaves no value
no_values_left : (command : DataCommand) (values : List (Option Value)) → is_data_write command ≡ false → (effect command values).leaves ≡ []
no_values_left (Set key value condition) values reads = absurd (true≢false reads)
no_values_left (Mset pairs) values reads = absurd (true≢false reads)
no_values_left (Setnx key value) values reads = absurd (true≢false reads)
no_values_left (Getset key value) values reads = absurd (true≢false reads)
no_values_left (Getdel key) values reads = absurd (true≢false reads)
no_values_left (Append key value) values reads = absurd (true≢false reads)
no_values_left (Incr key) values reads = absurd (true≢false reads)
no_values_left (Decr key) values reads = absurd (true≢false reads)
no_values_left (Incrby key increment) values reads = absurd (true≢false reads)
no_values_left (Del keys) values reads = absurd (true≢false reads)
no_values_left (Hset key pairs) values reads = absurd (true≢false reads)
no_values_left (Hsetnx key field value) values reads = absurd (true≢false reads)
no_values_left (Hdel key names) values reads = absurd (true≢false reads)
no_values_left (Hincrby key field increment) values reads = absurd (true≢false reads)
no_values_left command values reads = refl

-- and words that are no command that writes change nothing
nothing_left : (m : Keyspace) (parsed : Result Command CommandFault) → is_write_of parsed ≡ false → (execution_of m parsed).after ≡ m
nothing_left m (Ok (Data command)) reads = ap (with_values m (data_keys command)) (no_values_left command (values_at m (data_keys command)) reads)
nothing_left m (Ok (Cluster command)) reads = refl
nothing_left m (Err fault) reads = refl

pub writes_leave_all : WritesLeaveAll
writes_leave_all m [] = refl
writes_leave_all m (words ∷ requests) =
    elim (is_write_of (command_of words)) as (λ b. is_write_of (command_of words) ≡ b → (replay_from (exec_words m words).after requests).last ≡ (replay_from m (cond b (words ∷ writes_of requests) (writes_of requests))).last) [
      | true ↦ λ writes. writes_leave_all (exec_words m words).after requests
      | false ↦ λ reads. ap (λ n. (replay_from n requests).last) (nothing_left m (command_of words) reads) ∙ writes_leave_all m requests
    ] refl

-- ---- commands

pub requests_execute_commands : RequestsExecuteCommands
requests_execute_commands m [] [] are = refl
requests_execute_commands m [] (words ∷ requests) are = cc
requests_execute_commands m (command ∷ commands) [] are = cc
requests_execute_commands m (command ∷ commands) (words ∷ requests) are =
    let one : command_of words ≡ Ok (Data command) = cc in
    let others : AreRequestsOf commands requests = cc in
    let ahead : Result Command CommandFault → Replay = λ parsed. record {
      replies = (execution_of m parsed).reply ∷ (replay_from (execution_of m parsed).after requests).replies;
      last = (replay_from (execution_of m parsed).after requests).last;
    } in
    ap ahead one
    ∙ ap (λ (rest : Replay). record { replies = (exec m command).reply ∷ rest.replies; last = rest.last }) (requests_execute_commands (exec m command).after commands requests others)

-- ---- keys

first : (a b : Bool) → T (a && b) → T a
first true b both = tt
first false b both = both

second : (a b : Bool) → T (a && b) → T b
second true b both = both
second false b both = absurd both

-- a later key is above
above : (key later : List ℕ) (value : Value) (done rest : List (List ℕ × Value)) → T (below_all (slice_cmp nat_cmp) key (done ++ (later, value) ∷ rest)) → T (is_lt (slice_cmp nat_cmp key later))
above key later value [] rest below = first _ _ below
above key later value (entry ∷ done) rest below = above key later value done rest (second _ _ below)

-- and doesn't tie
apart : (r : Ordering) → T (is_lt r) → is_eq (ordering_reverse r) ≡ false
apart Less below = refl
apart Equal below = absurd below
apart Greater below = absurd below

-- keys in order are not among those before them
not_before : (key : List ℕ) (value : Value) (done rest : List (List ℕ × Value)) → T (is_sorted (slice_cmp nat_cmp) (done ++ (key, value) ∷ rest)) → find (slice_cmp nat_cmp) key done ≡ None
not_before key value [] rest sorted = refl
not_before key value (entry ∷ done) rest sorted =
    let ties : is_eq (slice_cmp nat_cmp key entry.0) ≡ false =
    ap is_eq (nat_list_cmp_total.antisymm key entry.0) ∙ apart _ (above entry.0 key value done rest (first _ _ sorted)) in
    ap (λ b. cond b (Some entry.1) (find (slice_cmp nat_cmp) key done)) ties ∙ not_before key value done rest (second _ _ sorted)

-- the requests of some entries put them behind those that are there
put_in_order : (done rest : List (List ℕ × Value)) → T (is_sorted (slice_cmp nat_cmp) (done ++ rest)) → All HasRequest rest → (replay_from (keyspace_of done) (map request_of rest)).last ≡ keyspace_of (done ++ rest)
put_in_order done [] sorted have = ap keyspace_of (sym (append-nil done))
put_in_order done ((key, value) ∷ rest) sorted have =
    let here : HasRequest (key, value) = All-head HasRequest (key, value) rest have in
    let none = not_before key value done rest sorted in
    let moved = append_assoc done ((key, value) ∷ []) rest in
    ap (λ now. (replay_from now (map request_of rest)).last)
    (rebuilt (keyspace_of done) key value (fin_map.get-from_entries nat_list_cmp_total done key ∙ none) here.0 here.1
    ∙ sym (fin_map.from_entries_push nat_list_cmp_total exact_bytes done key value none))
    ∙ put_in_order (done ++ (key, value) ∷ []) rest (subst (λ entries. T (is_sorted (slice_cmp nat_cmp) entries)) (sym moved) sorted) (All-tail HasRequest (key, value) rest have)
    ∙ ap keyspace_of moved

pub requests_of_keys_leave_them : RequestsOfKeysLeaveThem
requests_of_keys_leave_them m have =
    put_in_order [] (fin_map.entries m) (fin_map.entries_sorted m) have
    ∙ same _ _ (λ q. fin_map.get-from_entries nat_list_cmp_total (fin_map.entries m) q ∙ sym (fin_map.get-entries m q))

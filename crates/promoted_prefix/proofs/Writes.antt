-- A step leaves the keyspace that the requests leave which it writes.
use Rattle.std.proofs.Common.{◌≡◌, ◌&&◌, ℕ, Bool, true, false, true≢false, cond, not, List, [], ◌∷◌, Option, Some, None, refl, sym, ap, ◌∙◌}
use Rattle.std.proofs.lemmas.Bool.{both_ways}
use Rattle.std.specs.Prelude.{Result, Ok, Err, is_some}
use Rattle.command_table.specs.Keys.{data_keys, is_data_write}
use Rattle.command_table.specs.Numbers.{number_of}
use Rattle.command_table.specs.Table.{command_of}
use Rattle.command_table.specs.declared.command.Command.{Command}
use Rattle.command_table.specs.declared.command.Command.TheVariants.{Data}
use Rattle.command_table.specs.declared.command.DataCommand.{DataCommand}
use Rattle.command_table.specs.declared.command.DataCommand.TheVariants.{Set, Mset, Setnx, Getset, Getdel, Append, Incr, Decr, Incrby, Del, Hset, Hsetnx, Hdel, Hincrby}
use Rattle.keyspace.proofs.Replayed.{writes_leave_all}
use Rattle.keyspace.specs.Commands.{effect, exec, exec_words, execution_of, replay_from, values_at, with_values}
use Rattle.keyspace.specs.Effect.{Effect, first_of, left, refused, told}
use Rattle.keyspace.specs.Hashes.{fields_of, hash_left, hset_of, hsetnx_of, hdel_of, field_left, field_number, known, on_fields}
use Rattle.keyspace.specs.Keyspace.{Keyspace, hash_of}
use Rattle.keyspace.specs.Rebuilding.{fits_hash}
use Rattle.keyspace.specs.Replay.{is_write_of}
use Rattle.command_table.specs.declared.fault.CommandFault.{CommandFault}
use Rattle.keyspace.specs.Strings.{append_of, fitting, getdel_of, getset_of, number_left, set_of, setnx_of, string_left, string_of, sum_of}
use Rattle.keyspace.specs.declared.value.Value.{Value}
use Rattle.keyspace.specs.declared.value.Value.TheVariants.{Str, Hash}
use Rattle.command_table.specs.declared.error_line.ErrorLine.{ErrorLine}
use Rattle.command_table.specs.declared.error_line.ErrorLine.TheVariants.{TooLong}
use Rattle.resp_values.specs.declared.reply.Reply.TheVariants.{Integer}
use Rattle.hash.specs.Pairs.{Pairs, field_changed, value_of}
use Rattle.resp_values.specs.declared.reply.Reply.{Reply}
use Rattle.node_step.specs.Streams.{is_error}
use Rattle.std.specs.Prelude.{ℤ, pos}

-- ---- an error changes nothing

abbrev NothingLeft : Effect → Type 0
NothingLeft effect = is_error effect.reply ≡ true → effect.leaves ≡ []

no_error : {A : Type 0} → false ≡ true → A
no_error is = absurd (true≢false (sym is))

set_left : (value : List ℕ) (b : Bool) → NothingLeft (set_of value b)
set_left value true is = no_error is
set_left value false is = refl

setnx_left : (value : List ℕ) (old : Option Value) → NothingLeft (setnx_of value old)
setnx_left value None is = no_error is
setnx_left value (Some old) is = refl

getset_left : (value : List ℕ) (old : Option Value) → NothingLeft (getset_of value old)
getset_left value None is = no_error is
getset_left value (Some (Str bytes)) is = no_error is
getset_left value (Some (Hash pairs)) is = refl

getdel_left : (old : Option Value) → NothingLeft (getdel_of old)
getdel_left None is = refl
getdel_left (Some (Str bytes)) is = no_error is
getdel_left (Some (Hash pairs)) is = refl

string_left_so : (bytes : Option (List ℕ)) → NothingLeft (string_left bytes)
string_left_so None is = refl
string_left_so (Some bytes) is = no_error is

append_left : (key bytes : List ℕ) (old : Option (List ℕ)) → NothingLeft (append_of key bytes old)
append_left key bytes None is = refl
append_left key bytes (Some string) is = string_left_so (fitting key _) is

number_left_so : (n : Result ℤ ErrorLine) → NothingLeft (number_left n)
number_left_so (Err fault) is = refl
number_left_so (Ok n) is = no_error is

fields_left_so : (fields : Option Pairs) (effect : Pairs → Effect) → ((pairs : Pairs) → NothingLeft (effect pairs)) → NothingLeft (on_fields fields effect)
fields_left_so None effect each is = refl
fields_left_so (Some pairs) effect each is = each pairs is

either_left : (b : Bool) (one other : Effect) → NothingLeft one → NothingLeft other → NothingLeft (cond b one other)
either_left true one other first second = first
either_left false one other first second = second

hash_left_so : (reply : Reply) (key : List ℕ) (pairs : Pairs) → is_error reply ≡ false → NothingLeft (hash_left reply key pairs)
hash_left_so reply key pairs good = either_left (fits_hash key pairs) (left reply (hash_of pairs)) (refused TooLong) (λ is. absurd (both_ways (is_error reply) good is)) (λ is. refl)

hsetnx_left : (key field value : List ℕ) (old : Pairs) → NothingLeft (hsetnx_of key field value old)
hsetnx_left key field value old =
    either_left (is_some (value_of old field)) (told (Integer (pos 0))) (hash_left (Integer (pos 1)) key (field_changed old field (Some value))) (λ is. refl) (hash_left_so (Integer (pos 1)) key (field_changed old field (Some value)) refl)

field_left_so : (key field : List ℕ) (old : Pairs) (n : Result ℤ ErrorLine) → NothingLeft (field_left key field old n)
field_left_so key field old (Err fault) is = refl
field_left_so key field old (Ok n) is = hash_left_so _ key _ refl is

error_leaves : (command : DataCommand) (values : List (Option Value)) → NothingLeft (effect command values)
error_leaves (Set key value condition) values is = set_left value _ is
error_leaves (Mset pairs) values is = no_error is
error_leaves (Setnx key value) values is = setnx_left value _ is
error_leaves (Getset key value) values is = getset_left value _ is
error_leaves (Getdel key) values is = getdel_left _ is
error_leaves (Append key value) values is = append_left key value (string_of (first_of values)) is
error_leaves (Incr key) values is = number_left_so _ is
error_leaves (Decr key) values is = number_left_so _ is
error_leaves (Incrby key increment) values is = number_left_so _ is
error_leaves (Del keys) values is = no_error is
error_leaves (Hset key pairs) values is = fields_left_so _ (hset_of key pairs) (λ old. hash_left_so _ key _ refl) is
error_leaves (Hsetnx key field value) values is = fields_left_so _ (hsetnx_of key field value) (hsetnx_left key field value) is
error_leaves (Hdel key names) values is = fields_left_so _ (hdel_of names) (λ old is_error. no_error is_error) is
error_leaves (Hincrby key field increment) values is =
    field_left_so key field (known (fields_of (first_of values))) (sum_of (number_of increment) (field_number field (fields_of (first_of values)))) is
error_leaves command values is = refl

-- ---- an executed command

-- the words, if the command writes, and isn't answered with an error
abbrev pub written_if : Bool → Bool → List (List ℕ) → List (List (List ℕ))
written_if writes fails words = cond (writes && not fails) (words ∷ []) []

pub executed_is_written : (keyspace : Keyspace) (words : List (List ℕ)) (command : DataCommand) → command_of words ≡ Ok (Data command)
    → (exec keyspace command).after ≡ (replay_from keyspace (written_if (is_data_write command) (is_error (exec keyspace command).reply) words)).last
executed_is_written keyspace words command reads = by_tests (is_data_write command) (is_error (exec keyspace command).reply) refl refl
  where
    by_words : (exec_words keyspace words).after ≡ (exec keyspace command).after
    by_words = ap (λ (r : Result Command CommandFault). (execution_of keyspace r).after) reads

    by_tests : (writes fails : Bool) → is_data_write command ≡ writes → is_error (exec keyspace command).reply ≡ fails
        → (exec keyspace command).after ≡ (replay_from keyspace (written_if writes fails words)).last
    by_tests true false writes fails = sym by_words
    by_tests true true writes fails = ap (with_values keyspace (data_keys command)) (error_leaves command (values_at keyspace (data_keys command)) fails)
    by_tests false fails reads_only is =
        sym by_words ∙ writes_leave_all keyspace (words ∷ [])
        ∙ ap (λ (b : Bool). (replay_from keyspace (cond b (words ∷ []) [])).last) (ap (λ (r : Result Command CommandFault). is_write_of r) reads ∙ reads_only)

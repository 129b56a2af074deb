-- Worked values of the definitions (Redis command reference).
use Rattle.std.proofs.Common.{◌≡◌, [], ◌∷◌, refl, true, false}
use Rattle.std.specs.Prelude.{Some, None, codes, pos, negsuc}
use Rattle.std.specs.Fmt.{digits}
use Rattle.command_table.specs.ErrorLine.{error_text, line_of}
use Rattle.command_table.specs.Keys.{is_write, keys_of, only_key}
use Rattle.command_table.specs.Names.{name_of}
use Rattle.command_table.specs.Numbers.{number_of}
use Rattle.command_table.specs.declared.names.Name.TheVariants as name
use Rattle.command_table.specs.declared.command.Command.TheVariants.{Data, Cluster}
use Rattle.command_table.specs.declared.command.DataCommand.TheVariants.{Echo, Get, Set, Mget, Mset, Hset, Hmget, Hdel, Hgetall}
use Rattle.command_table.specs.declared.command.Condition.TheVariants.{Always}
use Rattle.command_table.specs.declared.command.ClusterCommand.TheVariants.{KeySlot}
use Rattle.command_table.specs.declared.fault.CommandFault.TheVariants.{Arity, Syntax}
use Rattle.command_table.specs.declared.error_line.ErrorLine.TheVariants.{HashNotAnInteger, WrongType}

-- a blank is part of the name
get_blank : name_of (codes "GET ") ≡ None
get_blank = refl

-- and its error reply
get_a_b_reply : error_text (line_of (Arity name.Get)) ≡ codes "ERR wrong number of arguments for 'get' command"
get_a_b_reply = refl

syntax_reply : error_text (line_of Syntax) ≡ codes "ERR syntax error"
syntax_reply = refl

wrong_type_reply : error_text WrongType ≡ codes "WRONGTYPE Operation against a key holding the wrong kind of value"
wrong_type_reply = refl

hash_not_an_integer_reply : error_text HashNotAnInteger ≡ codes "ERR hash value is not an integer"
hash_not_an_integer_reply = refl

-- the last numbers of 64 bits are numbers, and the next ones are none
greatest : number_of (codes "9223372036854775807") ≡ Some (pos 9223372036854775807)
unfolding number_of digits
greatest = refl

past_the_greatest : number_of (codes "9223372036854775808") ≡ None
unfolding number_of digits
past_the_greatest = refl

least : number_of (codes "-9223372036854775808") ≡ Some (negsuc 9223372036854775807)
unfolding number_of digits
least = refl

past_the_least : number_of (codes "-9223372036854775809") ≡ None
unfolding number_of digits
past_the_least = refl

zero_is_a_number : number_of (codes "0") ≡ Some (pos 0)
unfolding number_of digits
zero_is_a_number = refl

-- a number has one text
leading_zero : number_of (codes "01") ≡ None
unfolding number_of digits
leading_zero = refl

minus_zero : number_of (codes "-0") ≡ None
unfolding number_of digits
minus_zero = refl

plus : number_of (codes "+1") ≡ None
unfolding number_of digits
plus = refl

blank : number_of (codes " 1") ≡ None
unfolding number_of digits
blank = refl

no_digits : number_of [] ≡ None
unfolding number_of digits
no_digits = refl

letter : number_of (codes "1a") ≡ None
unfolding number_of digits
letter = refl

-- the value is no key
keys_of_set : keys_of (Data (Set (codes "a") (codes "1") Always)) ≡ codes "a" ∷ []
keys_of_set = refl

keys_of_mget : keys_of (Data (Mget (codes "a" ∷ codes "b" ∷ []))) ≡ codes "a" ∷ codes "b" ∷ []
keys_of_mget = refl

-- the strings of pairs are no keys
keys_of_mset : keys_of (Data (Mset ((codes "b", codes "1") ∷ (codes "a", codes "2") ∷ (codes "b", codes "3") ∷ []))) ≡ codes "b" ∷ codes "a" ∷ codes "b" ∷ []
keys_of_mset = refl

-- nor are fields and values
keys_of_hset : keys_of (Data (Hset (codes "a") ((codes "f", codes "1") ∷ []))) ≡ codes "a" ∷ []
keys_of_hset = refl

-- a message is no key
keys_of_echo : keys_of (Data (Echo (codes "a"))) ≡ []
keys_of_echo = refl

-- MGET takes a list of keys, even where it has one
only_key_of_set : only_key (Data (Set (codes "a") (codes "1") Always)) ≡ Some (codes "a")
only_key_of_set = refl

only_key_of_mget : only_key (Data (Mget (codes "a" ∷ []))) ≡ None
only_key_of_mget = refl

-- fields are not keys, so HMGET has one key
only_key_of_hmget : only_key (Data (Hmget (codes "a") (codes "f" ∷ codes "g" ∷ []))) ≡ Some (codes "a")
only_key_of_hmget = refl

-- KEYSLOT neither reads nor writes the key
keys_of_keyslot : keys_of (Cluster (KeySlot (codes "foo"))) ≡ []
keys_of_keyslot = refl

writes_set : is_write (Data (Set (codes "a") (codes "1") Always)) ≡ true
writes_set = refl

writes_mset : is_write (Data (Mset ((codes "a", codes "1") ∷ []))) ≡ true
writes_mset = refl

writes_hdel : is_write (Data (Hdel (codes "a") (codes "f" ∷ []))) ≡ true
writes_hdel = refl

writes_no_hgetall : is_write (Data (Hgetall (codes "a"))) ≡ false
writes_no_hgetall = refl

writes_no_mget : is_write (Data (Mget (codes "a" ∷ []))) ≡ false
writes_no_mget = refl

-- Worked values of the definitions (Redis Cluster specification, "MOVED Redirection"; Redis command reference, "INCR").
use Rattle.std.proofs.Common.{◌≡◌, true, false, refl}
use Rattle.std.specs.Prelude.{codes}
use Rattle.resp_values.specs.declared.reply.Reply.TheVariants.{Simple, Error}
use Rattle.reply_meaning.specs.Refusal.{is_refusal}

-- the example of the specification
moved : is_refusal (Error (codes "MOVED 3999 127.0.0.1:6381")) ≡ true
moved = refl

no_slot : is_refusal (Error (codes "CLUSTERDOWN Hash slot not served")) ≡ true
no_slot = refl

no_name : is_refusal (Error (codes "ERR unknown command")) ≡ true
no_name = refl

no_arguments : is_refusal (Error (codes "ERR wrong number of arguments for 'get' command")) ≡ true
no_arguments = refl

-- a command that was executed may reply an error
no_number : is_refusal (Error (codes "ERR value is not an integer or out of range")) ≡ false
no_number = refl

no_string : is_refusal (Error (codes "WRONGTYPE Operation against a key holding the wrong kind of value")) ≡ false
no_string = refl

-- the word has to be the first one, whole
no_word : is_refusal (Error (codes "MOVEDLY 3999 127.0.0.1:6381")) ≡ false
no_word = refl

ok : is_refusal (Simple (codes "OK")) ≡ false
ok = refl

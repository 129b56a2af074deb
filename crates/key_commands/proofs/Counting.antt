-- What is left at a key whose number changes.
use Rattle.std.proofs.Common.{◌≡◌, ℕ, ℤ, List, [], ◌∷◌, Option, Some, Result, Ok, Err, IfOk, OnOk, sym, ap, ◌∙◌}
use Rattle.std.specs.FinMap as map
use Rattle.std.specs.Fmt.{signed_decimal}
use Rattle.resp_values.specs.declared.reply.Reply.{Reply}
use Rattle.resp_values.specs.declared.reply.Reply.TheVariants.{Integer}
use Rattle.keyspace.proofs.Applied.{applied_insert}
use Rattle.keyspace.specs.Commands.{taken_at}
use Rattle.keyspace.specs.Strings.{number_at, number_left, sum_of}
use Rattle.keyspace.specs.Keyspace.{Keyspace}
use Rattle.keyspace.specs.Changes.{Changes, applied}
use Rattle.keyspace.specs.declared.value.Value.{Value}
use Rattle.keyspace.specs.declared.value.Value.TheVariants.{Str}

pub sum_is_left : {E : Type 0} (m : Keyspace) (old new : Changes) (key : List ℕ) (value : Option Value) (increment sum : ℤ) (result : Result Reply E)
    → value ≡ map.get (applied m old) key
    → sum_of (Some increment) (number_at value) ≡ Ok sum
    → IfOk result (λ reply. reply ≡ Integer sum)
    → OnOk result (new ≡ map.insert old key (Some (Str (signed_decimal sum))))
    → IfOk result (λ reply. record { reply = reply; after = applied m new } ≡ taken_at (applied m old) (key ∷ []) (number_left (sum_of (Some increment) (number_at (map.get (applied m old) key)))))
sum_is_left m old new key value increment sum (Ok reply) there sums told left =
    (λ i. record { reply = told i; after = (ap (applied m) left ∙ applied_insert m old key (Some (Str (signed_decimal sum)))) i })
    ∙ ap (λ total. taken_at (applied m old) (key ∷ []) (number_left total)) (sym (ap (λ v. sum_of (Some increment) (number_at v)) (sym there) ∙ sums))
sum_is_left m old new key value increment sum (Err refused) there sums told left = left

-- Changes of a hash that a command works out (ours). No public clause needs it.
use Rattle.std.specs.Prelude.{◌≡◌, ℕ, ◌-◌, ℤ, pos, List, [], ◌∷◌, Some, Result, IfOk, length}
use Rattle.std.specs.FinMap as map
use Rattle.resp_values.specs.declared.reply.Reply.{Reply}
use Rattle.resp_values.specs.declared.reply.Reply.TheVariants.{Integer}
use Rattle.hash.specs.Pairs.{Pairs, Changes, fields_changed}
use Rattle.hash.specs.Size.{size_of}
use Rattle.keyspace.specs.Changes.{applied}
use Rattle.keyspace.specs.Commands.{taken_at}
use Rattle.keyspace.specs.Hashes.{fields_of, hash_left, sets}
use Rattle.keyspace.specs.Keyspace.{Keyspace}
use Rattle.keyspace.specs.Plan.{committed}
use Rattle.key_commands.specs.declared.hash_changes.HashChange.{HashChange}
use Rattle.keyspace.specs.declared.plans.Plan.{Plan}

-- the change makes these changes of these fields, knows what the hash takes after them, and replies this number
pub record IsChange (fields : Pairs) (made : Changes) (number : ℤ) (change : HashChange) : Type 0 where
  pub changes : change.changes ≡ made
  pub len : change.extent.len ≡ length (fields_changed fields made)
  pub size : change.extent.size ≡ size_of (fields_changed fields made)
  pub reply : change.reply ≡ number

-- the change sets all pairs, and replies how many of their fields are new, as HSET does
abbrev pub SetsEach : Pairs → List (List ℕ × List ℕ) → HashChange → Type 0
SetsEach old pairs change =
    let new = fields_changed old (sets pairs) in
    IsChange old (sets pairs) (pos (length new - length old)) change

-- the plan leaves the change at the key, if it is one of the fields there; a hash that would be too long is refused
abbrev pub LeavesChange : {E : Type 0} → Plan → Plan → List ℕ → HashChange → Result Reply E → Type 0
LeavesChange old new key change result =
    (keyspace : Keyspace) (fields : Pairs) (changes : Changes) (reply : ℤ) →
    let before = applied keyspace old.values in
    fields_of (map.get before key) ≡ Some fields → IsChange fields changes reply change →
    IfOk result (λ given. record { reply = given; after = committed keyspace new } ≡ taken_at before (key ∷ []) (hash_left (Integer reply) key (fields_changed fields changes)))

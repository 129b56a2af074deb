-- What the planning of commands gives (ours): a reply to each, and what the plan then leaves of the keyspace.
use Rattle.std.specs.Prelude.{◌≡◌, ℕ, ℤ, List, [], ◌∷◌, Some, Result, IfOk, is_some, if◌then◌else◌}
use Rattle.std.specs.FinMap as map
use Rattle.std.specs.declared.vec.Vec.{Vec}
use Rattle.resp_values.specs.declared.reply.Reply.{Reply}
use Rattle.command_table.specs.declared.command.DataCommand.{DataCommand}
use Rattle.keyspace.specs.Changes.{Changes, applied}
use Rattle.keyspace.specs.Commands.{exec, keyspace_after, replies_of, taken_at}
use Rattle.keyspace.specs.Hashes.{fields_of, increased}
use Rattle.keyspace.specs.Keyspace.{Keyspace}
use Rattle.keyspace.specs.Plan.{committed}
use Rattle.keyspace.specs.Strings.{number_at, number_left, sum_of}
use Rattle.keyspace.specs.declared.plans.Plan.{Plan}

-- the reply, where there is one, and the keyspace after it are those of the command's execution
abbrev pub Executes : {E : Type 0} → Keyspace → Keyspace → DataCommand → Result Reply E → Type 0
Executes before after command result = IfOk result (λ reply. record { reply = reply; after = after } ≡ exec before command)

-- new values plan a command: what they left is the keyspace before it, and what they leave now is that after it
abbrev pub Plans : {E : Type 0} → Keyspace → Changes → Changes → DataCommand → Result Reply E → Type 0
Plans keyspace old new command result = Executes (applied keyspace old) (applied keyspace new) command result

-- a plan with no last step takes a command in: what its values left is the keyspace before it, and what the plan leaves now is that after it
abbrev pub PlansSettled : {E : Type 0} → Keyspace → Plan → Plan → DataCommand → Result Reply E → Type 0
PlansSettled keyspace old new command result = Executes (applied keyspace old.values) (committed keyspace new) command result

-- the same on every keyspace
abbrev pub PlansAnywhere : {E : Type 0} → Plan → Plan → DataCommand → Result Reply E → Type 0
PlansAnywhere old new command result =
    IfOk result (λ reply. (keyspace : Keyspace) → record { reply = reply; after = committed keyspace new } ≡ exec (applied keyspace old.values) command)

-- any plan takes a command in
abbrev pub PlansNext : {E : Type 0} → Keyspace → Plan → Plan → DataCommand → Result Reply E → Type 0
PlansNext keyspace old new command result = Executes (committed keyspace old) (committed keyspace new) command result

-- the reply, where there is one, is that to the command once the new values are put
abbrev pub Replies : {E : Type 0} → Keyspace → Changes → DataCommand → Result Reply E → Type 0
Replies keyspace values command result = IfOk result (λ reply. reply ≡ (exec (applied keyspace values) command).reply)

-- the new values leave what the command leaves
abbrev pub Leaves : Keyspace → Changes → Changes → DataCommand → Type 0
Leaves keyspace old new command = applied keyspace new ≡ (exec (applied keyspace old) command).after

-- what a plan leaves is the keyspace after the commands
abbrev pub IsPlanOf : Keyspace → List DataCommand → Plan → Type 0
IsPlanOf keyspace commands plan = committed keyspace plan ≡ keyspace_after keyspace commands

-- commands follow those that were planned before: what the plan leaves now is the keyspace after them
abbrev pub Extends : Keyspace → Plan → Plan → List DataCommand → Type 0
Extends keyspace old new commands = committed keyspace new ≡ keyspace_after (committed keyspace old) commands

-- the replies, where there are any, are those to commands that follow those in the plan
abbrev pub RepliesEach : {A E : Type 0} → Keyspace → Plan → List DataCommand → Result (Vec Reply A) E → Type 0
RepliesEach keyspace plan commands result = IfOk result (λ replies. replies.items ≡ replies_of (committed keyspace plan) commands)

-- new values plan INCRBY by this number
abbrev pub AddsToNumber : {E : Type 0} → Keyspace → Changes → Changes → List ℕ → ℤ → Result Reply E → Type 0
AddsToNumber keyspace old new key increment result =
    IfOk result (λ reply.
    let before = applied keyspace old in
    record { reply = reply; after = applied keyspace new } ≡ taken_at before (key ∷ []) (number_left (sum_of (Some increment) (number_at (map.get before key)))))

-- a plan with no last step takes in HINCRBY by this number
abbrev pub AddsToField : {E : Type 0} → Keyspace → Plan → Plan → List ℕ → List ℕ → ℤ → Result Reply E → Type 0
AddsToField keyspace old new key field increment result =
    IfOk result (λ reply.
    let before = applied keyspace old.values in
    record { reply = reply; after = committed keyspace new } ≡ taken_at before (key ∷ []) (increased key field (Some increment) (fields_of (map.get before key))))

-- 1 where the key is there once the new values are put, or else 0
abbrev pub count_at : Keyspace → Changes → List ℕ → ℕ
count_at keyspace values key = if is_some (map.get (applied keyspace values) key) then 1 else 0

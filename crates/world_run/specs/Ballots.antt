-- The votes of a run (Redis Cluster specification, "Replica election and promotion"; that the voters are a fixed list is ours).
use Rattle.std.specs.Prelude.{ℕ, ◌*◌, ◌==◌, ◌&&◌, nat_lt, Bool, false, List, length, count_by}
use Rattle.std.specs.List.{list_any}
use Rattle.bus.specs.declared.message.Body.{Body}
use Rattle.bus.specs.declared.bodies.ElectionBody.TheVariants.{Grant}
use Rattle.bus.specs.declared.message.Body.TheVariants.{Election}
use Rattle.bus.specs.declared.message.Message.{Message}

abbrev pub grants : Body → ℕ → Bool
grants (Election (Grant granted)) epoch = granted == epoch
grants other epoch = false

-- the message is the vote of that voter in that epoch for that candidate
abbrev pub is_vote : ℕ → ℕ → ℕ → Message → Bool
is_vote voter epoch candidate message = message.from == voter && message.to == candidate && grants message.body epoch

-- one of the messages is
abbrev pub was_cast : List Message → ℕ → ℕ → ℕ → Bool
was_cast sent voter epoch candidate = list_any (is_vote voter epoch candidate) sent

-- more than half of the voters voted in that epoch for that candidate
abbrev pub is_elected : List ℕ → List Message → ℕ → ℕ → Bool
is_elected voters sent epoch candidate = nat_lt (length voters) (2 * count_by (λ voter. was_cast sent voter epoch candidate) voters)

-- Worked values of the definitions.
use Rattle.std.proofs.Common.{◌≡◌, ℕ, refl}
use Rattle.std.specs.Prelude.{Bool, true, false, List, [], ◌∷◌, Some, None}
use Rattle.election.specs.Electing.{begun, counted, elected, is_due, judged, next_epoch, ticked_candidate}
use Rattle.election.specs.Failing.{has_failed, heard, reported, suspected, suspects, ticked}
use Rattle.election.specs.Health.{Candidate, Health, Voter, first_health, first_voter, no_candidate, row}
use Rattle.election.specs.Members.{Members}
use Rattle.election.specs.Voting.{after_request, may_grant}
use Rattle.election.specs.declared.voter.VoteRequest.{VoteRequest}

-- ---- two nodes; node 1 is the replica of node 0 and the only voter, and suspects after one tick of silence

abbrev alone : Members
alone = record { me = 1; node_timeout = 1; voters = 1 ∷ []; masters = None ∷ Some 0 ∷ [] }

-- the first tick after a message suspects, and the only voter's suspicion is enough
suspects_nobody : suspects first_health alone 0 ≡ false
suspects_nobody = refl

abbrev after_a_tick : Health
after_a_tick = ticked first_health

suspects_after_a_tick : suspects after_a_tick alone 0 ≡ true
suspects_after_a_tick = refl

fails_after_a_tick : has_failed after_a_tick alone 0 ≡ true
fails_after_a_tick = refl

never_itself : has_failed after_a_tick alone 1 ≡ false
never_itself = refl

any_message_ends_it : has_failed (heard after_a_tick 0) alone 0 ≡ false
any_message_ends_it = refl

-- it begins an election at the second tick, and another one two ticks later
abbrev in_first_tick : Candidate
in_first_tick = judged (ticked_candidate no_candidate) alone after_a_tick

not_due_at_once : is_due in_first_tick alone ≡ false
not_due_at_once = refl

abbrev in_second_tick : Candidate
in_second_tick = judged (ticked_candidate in_first_tick) alone (ticked after_a_tick)

due_a_tick_later : is_due in_second_tick alone ≡ true
due_a_tick_later = refl

abbrev asking : Candidate
asking = begun in_second_tick (next_epoch 1)

not_due_again : is_due (ticked_candidate asking) alone ≡ false
not_due_again = refl

due_once_more : is_due (ticked_candidate (ticked_candidate asking)) alone ≡ true
due_once_more = refl

-- it votes for itself, and that elects it
own_vote : may_grant first_voter alone (ticked after_a_tick) 2 (record { candidate = 1; epoch = 2; master = 0; planned = false }) ≡ true
own_vote = refl

elects_itself : elected asking alone 1 2 ≡ Some (record { epoch = 2 })
elects_itself = refl

-- the message that it sends itself ends no suspicion of the other
its_own_message : has_failed (heard after_a_tick 1) alone 0 ≡ true
its_own_message = refl

no_epoch_left : next_epoch 18446744073709551615 ≡ None
no_epoch_left = refl

-- ---- eight nodes, of which 0 to 4 vote; nodes 6 and 7 are replicas of node 5, which is silent

abbrev seen_by : ℕ → Members
seen_by me = record {
  me = me;
  node_timeout = 20;
  voters = 0 ∷ 1 ∷ 2 ∷ 3 ∷ 4 ∷ [];
  masters = None ∷ None ∷ None ∷ None ∷ None ∷ None ∷ Some 5 ∷ Some 5 ∷ [];
}

abbrev names_5 : List Bool
names_5 = false ∷ false ∷ false ∷ false ∷ false ∷ true ∷ false ∷ false ∷ false ∷ false ∷ false ∷ false ∷ false ∷ false ∷ false ∷ false ∷ []

-- of five voters, three have to name it
abbrev told_by_two : Health
told_by_two = reported (reported first_health 1 names_5) 2 names_5

two_are_too_few : has_failed told_by_two (seen_by 6) 5 ≡ false
two_are_too_few = refl

abbrev told : Health
told = reported told_by_two 3 names_5

three_are_enough : has_failed told (seen_by 6) 5 ≡ true
three_are_enough = refl

-- one that names it twice counts once, and one that doesn't vote not at all
twice : has_failed (reported told_by_two 2 names_5) (seen_by 6) 5 ≡ false
twice = refl

no_voter : has_failed (reported told_by_two 7 names_5) (seen_by 6) 5 ≡ false
no_voter = refl

-- the last report of each voter counts
takes_it_back : has_failed (reported told 3 (row false)) (seen_by 6) 5 ≡ false
takes_it_back = refl

-- a message of the node ends it, until it is named again
lives : has_failed (reported (heard told 5) 4 names_5) (seen_by 6) 5 ≡ false
lives = refl

-- reports count for 40 ticks
abbrev told_before : ℕ → Health
told_before age = record first_health {
  reports = None ∷ Some (record { suspects = names_5; age = age }) ∷ Some (record { suspects = names_5; age = age }) ∷ Some (record { suspects = names_5; age = 0 }) ∷ [];
}

still_counts : has_failed (told_before 40) (seen_by 6) 5 ≡ true
still_counts = refl

counts_no_longer : has_failed (told_before 41) (seen_by 6) 5 ≡ false
counts_no_longer = refl

-- ---- votes: all five hold node 5 failed, none has voted; P is node 6, Q is node 7, both ask in epoch 4

abbrev from_node : ℕ → VoteRequest
from_node candidate = record { candidate = candidate; epoch = 4; master = 5; planned = false }

first_comes : may_grant first_voter (seen_by 4) told 3 (from_node 6) ≡ true
first_comes = refl

abbrev voted : Voter
voted = after_request first_voter (from_node 6) true

once_an_epoch : may_grant voted (seen_by 4) told 4 (from_node 7) ≡ false
once_an_epoch = refl

not_even_again : may_grant voted (seen_by 4) told 4 (from_node 6) ≡ false
not_even_again = refl

over_already : may_grant first_voter (seen_by 4) told 5 (from_node 6) ≡ false
over_already = refl

not_its_replica : may_grant first_voter (seen_by 4) told 3 (record { candidate = 3; epoch = 4; master = 5; planned = false }) ≡ false
not_its_replica = refl

holds_no_failure : may_grant first_voter (seen_by 4) first_health 3 (from_node 6) ≡ false
holds_no_failure = refl

does_not_vote : may_grant first_voter (seen_by 7) told 3 (from_node 6) ≡ false
does_not_vote = refl

-- Q has the grants of 2, 3 and 4, each twice; P those of 0 and 1
abbrev begins : Candidate
begins = begun no_candidate (next_epoch 3)

abbrev q_has_two : Candidate
q_has_two = counted (counted (counted begins (seen_by 7) 2 4) (seen_by 7) 2 4) (seen_by 7) 3 4

a_repeated_grant : elected q_has_two (seen_by 7) 3 4 ≡ None
a_repeated_grant = refl

q_is_elected : elected q_has_two (seen_by 7) 4 4 ≡ Some (record { epoch = 4 })
q_is_elected = refl

another_epoch : elected q_has_two (seen_by 7) 4 5 ≡ None
another_epoch = refl

no_vote : elected q_has_two (seen_by 7) 6 4 ≡ None
no_vote = refl

-- elected once
once : elected (counted q_has_two (seen_by 7) 4 4) (seen_by 7) 4 4 ≡ None
once = refl

abbrev p_has_two : Candidate
p_has_two = counted (counted begins (seen_by 6) 0 4) (seen_by 6) 1 4

p_is_not : elected p_has_two (seen_by 6) 1 4 ≡ None
p_is_not = refl

-- the second replica waits a tick longer
abbrev failed_for : ℕ → Candidate
failed_for age = record no_candidate { failed = Some age }

first_replica : is_due (failed_for 1) (seen_by 6) ≡ true
first_replica = refl

second_replica : is_due (failed_for 1) (seen_by 7) ≡ false
second_replica = refl

second_replica_later : is_due (failed_for 2) (seen_by 7) ≡ true
second_replica_later = refl

-- ---- a report names nodes of the cluster alone
reports_the_other : suspected after_a_tick alone ≡ true ∷ false ∷ false ∷ false ∷ false ∷ false ∷ false ∷ false ∷ false ∷ false ∷ false ∷ false ∷ false ∷ false ∷ false ∷ false ∷ []
reports_the_other = refl

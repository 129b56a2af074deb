-- What a bad network makes of the messages that it receives (ours).
use Rattle.std.specs.Prelude.{◌≡◌, ◌<◌, ◌≤◌, ◌+◌, ◌-◌, ◌==◌, ◌++◌, ◌∷◌, ℕ, List, [], if◌then◌else◌, length, nat_le, nat_lt, replicate, take}
use Rattle.link_ends.specs.Acts.{ActsView}
use Rattle.link_ends.specs.declared.acts.Act.{Act}
use Rattle.link_ends.specs.declared.acts.Act.TheVariants.{Pass, Lose, Repeat, Hold}
use Rattle.link_ends.specs.declared.held.Held.{Held}

-- ---- what is given of messages

-- messages, each with its act. What comes behind the last act is passed
abbrev pub with_acts : {T : Type 0} → List Act → List T → List (Act × T)
with_acts acts [] = []
with_acts [] (message ∷ messages) = (Pass, message) ∷ with_acts [] messages
with_acts (act ∷ acts) (message ∷ messages) = (act, message) ∷ with_acts acts messages

-- what is given of a message at once
abbrev pub at_once : {T : Type 0} → Act × T → List T
at_once (Pass, message) = message ∷ []
at_once (Lose, message) = []
at_once (Repeat more, message) = replicate (more + 1) message
at_once (Hold further, message) = []

-- what is given of it once so many further ones have come
abbrev pub later : {T : Type 0} → Act × T → ℕ → List T
later (Pass, message) count = []
later (Lose, message) count = []
later (Repeat more, message) count = []
later (Hold further, message) count = if further == count then message ∷ [] else []

-- those of the messages that were held until the last of them came, in the order in which they came
abbrev pub now_due : {T : Type 0} → List (Act × T) → List T
now_due [] = []
now_due (deed ∷ deeds) = later deed (length deeds) ++ now_due deeds

-- what is given once the last of the messages has come, as each of those from there on comes
abbrev pub given_from : {T : Type 0} → List (Act × T) → List (Act × T) → List T
given_from before [] = []
given_from before (deed ∷ deeds) = (at_once deed ++ now_due (before ++ deed ∷ [])) ++ given_from (before ++ deed ∷ []) deeds

-- all that is given of messages: as each comes, what is given of it at once, and then those that were held until then
abbrev pub all_given : {T : Type 0} → List Act → List T → List T
all_given acts messages = given_from [] (with_acts acts messages)

-- ---- how that comes about

-- those that are still held when one more message has come
abbrev pub ticked : {T : Type 0} → List (Held T) → List (Held T)
ticked [] = []
ticked (one ∷ held) = if nat_le one.left 1 then ticked held else record one { left = one.left - 1 } ∷ ticked held

-- those that are given then
abbrev pub due : {T : Type 0} → List (Held T) → List T
due [] = []
due (one ∷ held) = if nat_le one.left 1 then one.message ∷ due held else due held

-- those of the messages that are still held, and for how many further ones
abbrev pub left_of : {T : Type 0} → Act × T → ℕ → List (Held T)
left_of (Pass, message) count = []
left_of (Lose, message) count = []
left_of (Repeat more, message) count = []
left_of (Hold further, message) count = if nat_lt count further then record { left = further - count; message = message } ∷ [] else []

abbrev pub still_held : {T : Type 0} → List (Act × T) → List (Held T)
still_held [] = []
still_held (deed ∷ deeds) = left_of deed (length deeds) ++ still_held deeds

-- the message itself, which has just come, as it is held
abbrev pub fresh : {T : Type 0} → Act × T → List (Held T)
fresh (Pass, message) = []
fresh (Lose, message) = []
fresh (Repeat more, message) = []
fresh (Hold further, message) = record { left = further + 1; message = message } ∷ []

-- an act was done in this way: a copy for which there is no memory is left out
abbrev pub IsDone : Act → Act → Type 0
IsDone (Repeat more) (Repeat made) = made ≤ more
IsDone act done = done ≡ act

-- ---- a shim

-- what it stands in front of, the acts as they were done and as they are to be, and what is given before anything else is received
pub record ShimView (L T : Type 0) : Type 0 where
  pub inner : L
  pub acts : List Act
  pub coming : List T

-- what it has given, of the messages that it received: all that is given of them but what is still coming
abbrev pub given_of : {T : Type 0} → List Act → List T → List T → List T
given_of acts received coming = take (length (all_given acts received) - length coming) (all_given acts received)

abbrev pub given_by : {L T : Type 0} → (L → List T) → ShimView L T → List T
given_by received shim = given_of shim.acts (received shim.inner) shim.coming

-- one more message was given
abbrev pub GivesOne : {L T : Type 0} → (L → List T) → ShimView L T → ShimView L T → T → Type 0
GivesOne received old new message = given_by received new ≡ given_by received old ++ message ∷ []

-- none was given, and none is coming
abbrev pub GivesNothing : {L T : Type 0} → (L → List T) → ShimView L T → ShimView L T → Type 0
GivesNothing received old new = (given_by received new ≡ given_by received old) × (new.coming ≡ [])

pub record IsShim {T : Type 0} (acts : ActsView) (received coming : List T) (waiting : List (Held T)) : Type 0 where
  pub within : acts.done ≤ length received
  pub done : acts.done < length acts.all → acts.done ≡ length received
  pub held : waiting ≡ still_held (with_acts acts.all received)
  pub given : List T
  pub exact : all_given acts.all received ≡ given ++ coming

-- Entries behind those of the past, and what all of them sent.
use Rattle.std.proofs.Common.{◌⊎◌, ◌++◌, List, [], ◌∷◌, Contains, inl, inr}
use Rattle.std.proofs.lemmas.List.Elements.{Contains-append_cases, Contains-append_left, Contains-append_right}
use Rattle.bus.specs.declared.message.Message.{Message}
use Rattle.world_run.proofs.Lists.{contains_nothing}
use Rattle.world_run.specs.Run.{Entry, sent_by, sent_in}

-- further entries behind those of the past, of which the newest stands first
abbrev pub behind : List Entry → List Entry → List Entry
behind past [] = past
behind past (entry ∷ entries) = behind (entry ∷ past) entries

-- what was sent by entries, in whichever order
pub sent_behind : (past entries : List Entry) (message : Message) → Contains (sent_by entries) message ⊎ Contains (sent_by past) message → Contains (sent_by (behind past entries)) message
sent_behind past [] message (inl none) = absurd (contains_nothing message none)
sent_behind past [] message (inr earlier) = earlier
sent_behind past (entry ∷ entries) message (inr earlier) =
    sent_behind (entry ∷ past) entries message (inr (Contains-append_right (sent_in entry.deed) (sent_by past) message earlier))
sent_behind past (entry ∷ entries) message (inl among) =
    sent_behind (entry ∷ past) entries message
    (elim (Contains-append_cases (sent_in entry.deed) (sent_by entries) message among) [
      | inl now ↦ inr (Contains-append_left (sent_in entry.deed) (sent_by past) message now)
      | inr later ↦ inl later
    ])

pub sent_ahead : (past entries : List Entry) (message : Message) → Contains (sent_by (behind past entries)) message → Contains (sent_by entries) message ⊎ Contains (sent_by past) message
sent_ahead past [] message among = inr among
sent_ahead past (entry ∷ entries) message among =
    elim (sent_ahead (entry ∷ past) entries message among) [
      | inl later ↦ inl (Contains-append_right (sent_in entry.deed) (sent_by entries) message later)
      | inr before ↦
          elim (Contains-append_cases (sent_in entry.deed) (sent_by past) message before) [
            | inl now ↦ inl (Contains-append_left (sent_in entry.deed) (sent_by entries) message now)
            | inr earlier ↦ inr earlier
          ]
    ]

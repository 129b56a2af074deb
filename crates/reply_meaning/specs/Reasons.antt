-- Why a node refuses a command (RESP protocol, "Simple errors": the first word is the kind of error; Redis Cluster specification,
-- "MOVED Redirection", "Multiple keys operations").
use Rattle.std.specs.Prelude.{◌≡◌, ℕ, Bool, false, true, List, Option, Some, None, codes, slice_get, ⊤}
use Rattle.std.specs.Str.{bytes_eq}
use Rattle.cluster_config.specs.declared.config.NodeConfig.{NodeConfig}
use Rattle.command_table.specs.ErrorLine.{error_text, line_of}
use Rattle.command_table.specs.declared.fault.CommandFault.{CommandFault}
use Rattle.redirect.specs.declared.decision.Decision.{Decision}
use Rattle.redirect.specs.declared.decision.Decision.TheVariants.{Serve, ServeImport, CrossSlot, Down, TryAgain, Ask, Moved}
use Rattle.redirection.specs.ErrorWord.{first_word}
use Rattle.node_step.specs.declared.response.Why.{Why}
use Rattle.node_step.specs.declared.response.Why.TheVariants.{NotACommand, Decided}
use Rattle.world_run.specs.Executed.{decision_in}
use Rattle.reply_meaning.specs.Refusal.{is_of_no_command}

-- the error is of this kind
abbrev pub is_of_kind : List ℕ → List ℕ → Bool
is_of_kind text kind = bytes_eq (first_word text) kind

-- it was decided that nobody serves the slot, or that a node does which is none of these
abbrev pub IsOfNobody : List NodeConfig → Option Decision → Type 0
IsOfNobody nodes (Some Down) = ⊤
IsOfNobody nodes (Some (Ask slot to number)) = slice_get nodes to ≡ None
IsOfNobody nodes (Some (Moved slot to)) = slice_get nodes to ≡ None
IsOfNobody nodes (Some Serve) = ⊥
IsOfNobody nodes (Some (ServeImport number)) = ⊥
IsOfNobody nodes (Some CrossSlot) = ⊥
IsOfNobody nodes (Some (TryAgain reason)) = ⊥
IsOfNobody nodes None = ⊥

-- an error with this text is given for this reason, in a cluster of these nodes; behind OOM and EXHAUSTED no step was made
pub record IsReason (nodes : List NodeConfig) (text : List ℕ) (why : Why) : Type 0 where
  pub two_slots : is_of_kind text (codes "CROSSSLOT") ≡ true → why ≡ Decided CrossSlot
  pub nobody : is_of_kind text (codes "CLUSTERDOWN") ≡ true → IsOfNobody nodes (decision_in why)
  pub no_command : is_of_no_command text ≡ true → (fault : CommandFault) × (why ≡ NotACommand fault) × (text ≡ error_text (line_of fault))
  pub memory : is_of_kind text (codes "OOM") ≡ false
  pub number : is_of_kind text (codes "EXHAUSTED") ≡ false

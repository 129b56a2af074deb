-- Runs in two parts.
use Rattle.std.proofs.Common.{◌≡◌, ◌∷◌, ◌++◌, ◌∙◌, List, [], ap, subst, append_assoc}
use Rattle.std.proofs.lemmas.List.{reverse-append}
use Rattle.std.specs.Prelude.{reverse}
use Rattle.node_step.specs.State.{NodeState}
use Rattle.world_run.specs.Run.{Entry, Goes}

pub goes-append : (past : List Entry) (old mid new : List NodeState) (first others : List Entry) → Goes past old first mid
    → Goes (reverse first ++ past) mid others new → Goes past old (first ++ others) new
goes-append past old mid new [] others same goes = subst (λ (nodes : List NodeState). Goes past nodes others new) same goes
goes-append past old mid new (entry ∷ first) others goes more =
    let behind : reverse (entry ∷ first) ++ past ≡ reverse first ++ (entry ∷ past) =
    ap (λ (entries : List Entry). entries ++ past) (reverse-append (entry ∷ []) first) ∙ append_assoc (reverse first) (entry ∷ []) past in (
      goes.0,
      goes.1,
      goes-append (entry ∷ past) goes.0 mid new first others goes.2 (subst (λ (entries : List Entry). Goes entries mid others new) behind more),
    )

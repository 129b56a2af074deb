-- The first reply to a connection, by its place.
use Rattle.std.proofs.Common.{◌≡◌, ◌<◌, ℕ, Bool, true, false, cond, not, ltb, List, [], ◌∷◌, ◌++◌, Some, None, length, take, drop, get_or, refl, sym, ap, ◌∙◌, arith}
use Rattle.std.specs.Prelude.{position, zero, suc}
use Rattle.std.specs.List.{position_or_len}
use Rattle.std.proofs.lemmas.Bool.{ltb-false}
use Rattle.std.proofs.lemmas.List.Quantifiers.{position-Some}
use Rattle.std.proofs.lemmas.List.Sums.{prefix_len_passes}
use Rattle.connections.specs.declared.conn.Conn.{Conn}
use Rattle.node_step.specs.Released.{is_for, reply_to, without_reply_to}
use Rattle.node_step.specs.declared.outputs.Release.{Release}

-- what is taken, and what is left
pub record Takes (conn : Conn) (releases : List Release) (place : ℕ) (default : Release) : Type 0 where
  pub reply : Some (get_or releases place default).reply ≡ reply_to conn releases
  pub left : take place releases ++ drop (suc place) releases ≡ without_reply_to conn releases

first_is : (conn : Conn) (releases : List Release) (place : ℕ) (default : Release) → place < length releases
    → is_for conn (get_or releases place default) ≡ true → ((k : ℕ) → k < place → is_for conn (get_or releases k default) ≡ false)
    → Takes conn releases place default
first_is conn [] place default within here before = absurd (omega arith)
first_is conn (release ∷ releases) zero default within here before = record {
  reply = sym (ap (λ (b : Bool). cond b (Some release.reply) (reply_to conn releases)) here);
  left = sym (ap (λ (b : Bool). cond b releases (release ∷ without_reply_to conn releases)) here);
}
first_is conn (release ∷ releases) (suc place) default within here before =
    let other : is_for conn release ≡ false = before 0 (omega arith) in
    let rest = first_is conn releases place default (omega arith) here (λ k below. before (suc k) (omega arith)) in
    record {
      reply = rest.reply ∙ sym (ap (λ (b : Bool). cond b (Some release.reply) (reply_to conn releases)) other);
      left = ap (λ (others : List Release). release ∷ others) rest.left ∙ sym (ap (λ (b : Bool). cond b releases (release ∷ without_reply_to conn releases)) other);
    }

pub takes_at : (conn : Conn) (releases : List Release) (place : ℕ) (default : Release) → position (is_for conn) releases ≡ Some place
    → Takes conn releases place default
takes_at conn releases place default is =
    let first = position-Some (is_for conn) releases place default is in
    first_is conn releases place default first.0 first.1 first.2

-- nothing is taken
pub record TakesNothing (conn : Conn) (releases : List Release) : Type 0 where
  pub reply : None ≡ reply_to conn releases
  pub left : releases ≡ without_reply_to conn releases

of_others_alone : (conn : Conn) (releases : List Release) → ((k : ℕ) (default : Release) → k < length releases → is_for conn (get_or releases k default) ≡ false)
    → TakesNothing conn releases
of_others_alone conn [] others = record { reply = refl; left = refl }
of_others_alone conn (release ∷ releases) others =
    let other : is_for conn release ≡ false = others 0 release (omega arith) in
    let rest = of_others_alone conn releases (λ k default below. others (suc k) default (omega arith)) in
    record {
      reply = rest.reply ∙ sym (ap (λ (b : Bool). cond b (Some release.reply) (reply_to conn releases)) other);
      left = ap (λ (left : List Release). release ∷ left) rest.left ∙ sym (ap (λ (b : Bool). cond b releases (release ∷ without_reply_to conn releases)) other);
    }

not_passed : (passes : Bool) → not passes ≡ true → passes ≡ false
not_passed true is = cc
not_passed false is = refl

pub takes_nothing : (conn : Conn) (releases : List Release) → position (is_for conn) releases ≡ None → TakesNothing conn releases
takes_nothing conn releases none =
    elim (ltb (position_or_len (is_for conn) releases) (length releases)) as (λ b. ltb (position_or_len (is_for conn) releases) (length releases) ≡ b
    → cond b (Some (position_or_len (is_for conn) releases)) None ≡ None → TakesNothing conn releases) [
      | true ↦ λ within is. cc
      | false ↦ λ past is. of_others_alone conn releases (λ k default below.
          not_passed (is_for conn (get_or releases k default)) (prefix_len_passes (λ release. not (is_for conn release)) releases k default (omega (arith, ltb-false _ _ past))))
    ] refl none

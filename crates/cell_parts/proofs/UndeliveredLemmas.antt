-- Replies that wait step by step, seen as one list.
use Rattle.std.proofs.Common.{◌≡◌, ◌+◌, ◌<◌, ◌≤◌, ◌==◌, ◌||◌, ℕ, Bool, true, false, cond, not, ltb, List, [], ◌∷◌, ◌++◌, Some, None, length, map, take, drop, get_or, set, refl, sym, ap, subst, ◌∙◌, arith}
use Rattle.std.specs.Prelude.{position, zero, suc}
use Rattle.std.specs.List.{filter, position_or_len}
use Rattle.std.proofs.lemmas.Bool.{eqb-true, ltb-false}
use Rattle.std.proofs.lemmas.List.Elements.{filter-append}
use Rattle.std.proofs.lemmas.List.Quantifiers.{position-Some}
use Rattle.std.proofs.lemmas.List.Sums.{prefix_len_passes}
use Rattle.connections.specs.declared.conn.Conn.{Conn}
use Rattle.node_step.specs.Released.{is_for, of_others, reply_to, without_reply_to}
use Rattle.node_step.specs.declared.outputs.Release.{Release}
use Rattle.cell_parts.specs.Undelivered.{has_for, joined}

neither : (a b : Bool) → (a || b) ≡ false → b ≡ false
neither true b is = cc
neither false b is = is

not_the_first : (a b : Bool) → (a || b) ≡ false → a ≡ false
not_the_first true b is = cc
not_the_first false b is = refl

-- ---- one list behind another

record Passes (conn : Conn) (some others : List Release) : Type 0 where
  pub reply : reply_to conn (some ++ others) ≡ reply_to conn others
  pub left : without_reply_to conn (some ++ others) ≡ some ++ without_reply_to conn others

-- where the first list has none for the connection
passes : (conn : Conn) (some others : List Release) → has_for conn some ≡ false → Passes conn some others
passes conn [] others none = record { reply = refl; left = refl }
passes conn (release ∷ some) others none =
    let other = not_the_first (is_for conn release) (has_for conn some) none in
    let rest = passes conn some others (neither (is_for conn release) (has_for conn some) none) in
    record {
      reply = ap (λ (b : Bool). cond b (Some release.reply) (reply_to conn (some ++ others))) other ∙ rest.reply;
      left = ap (λ (b : Bool). cond b (some ++ others) (release ∷ without_reply_to conn (some ++ others))) other
          ∙ ap (λ (left : List Release). release ∷ left) rest.left;
    }

record Holds (conn : Conn) (some others : List Release) : Type 0 where
  pub reply : reply_to conn (some ++ others) ≡ reply_to conn some
  pub left : without_reply_to conn (some ++ others) ≡ without_reply_to conn some ++ others

-- where the first list has one
holds : (conn : Conn) (some others : List Release) → has_for conn some ≡ true → Holds conn some others
holds conn [] others here = cc
holds conn (release ∷ some) others here =
    elim (is_for conn release) as (λ b. is_for conn release ≡ b → Holds conn (release ∷ some) others) [
      | true ↦ λ first. record {
        reply = ap (λ (b : Bool). cond b (Some release.reply) (reply_to conn (some ++ others))) first
            ∙ sym (ap (λ (b : Bool). cond b (Some release.reply) (reply_to conn some)) first);
        left = ap (λ (b : Bool). cond b (some ++ others) (release ∷ without_reply_to conn (some ++ others))) first
            ∙ sym (ap (λ (b : Bool). cond b some (release ∷ without_reply_to conn some) ++ others) first);
      }
      | false ↦ λ other.
          let rest = holds conn some others (ap (λ (b : Bool). b || has_for conn some) (sym other) ∙ here) in
          record {
            reply = ap (λ (b : Bool). cond b (Some release.reply) (reply_to conn (some ++ others))) other ∙ rest.reply
                ∙ sym (ap (λ (b : Bool). cond b (Some release.reply) (reply_to conn some)) other);
            left = ap (λ (b : Bool). cond b (some ++ others) (release ∷ without_reply_to conn (some ++ others))) other
                ∙ ap (λ (left : List Release). release ∷ left) rest.left
                ∙ sym (ap (λ (b : Bool). cond b some (release ∷ without_reply_to conn some) ++ others) other);
          }
    ] refl

-- ---- the item with the reply

pub record TakesFrom (conn : Conn) (parts : List (List Release)) (at : ℕ) (default : List Release) : Type 0 where
  pub reply : reply_to conn (joined parts) ≡ reply_to conn (get_or parts at default)
  pub left : without_reply_to conn (joined parts) ≡ joined (set parts at (without_reply_to conn (get_or parts at default)))

takes_from : (conn : Conn) (parts : List (List Release)) (at : ℕ) (default : List Release) → at < length parts
    → has_for conn (get_or parts at default) ≡ true → ((k : ℕ) → k < at → has_for conn (get_or parts k default) ≡ false) → TakesFrom conn parts at default
takes_from conn [] at default within here before = absurd (omega arith)
takes_from conn (part ∷ parts) zero default within here before =
    let both = holds conn part (joined parts) here in
    record { reply = both.reply; left = both.left }
takes_from conn (part ∷ parts) (suc at) default within here before =
    let both = passes conn part (joined parts) (before 0 (omega arith)) in
    let rest = takes_from conn parts at default (omega arith) here (λ k below. before (suc k) (omega arith)) in
    record { reply = both.reply ∙ rest.reply; left = both.left ∙ ap (λ (left : List Release). part ++ left) rest.left }

pub takes_at : (conn : Conn) (parts : List (List Release)) (at : ℕ) (default : List Release) → position (has_for conn) parts ≡ Some at
    → TakesFrom conn parts at default
takes_at conn parts at default is =
    let first = position-Some (has_for conn) parts at default is in
    takes_from conn parts at default first.0 first.1 first.2

pub record TakesNothing (conn : Conn) (releases : List Release) : Type 0 where
  pub reply : None ≡ reply_to conn releases
  pub left : releases ≡ without_reply_to conn releases

nothing_in : (conn : Conn) (parts : List (List Release)) → ((k : ℕ) (default : List Release) → k < length parts → has_for conn (get_or parts k default) ≡ false)
    → TakesNothing conn (joined parts)
nothing_in conn [] none = record { reply = refl; left = refl }
nothing_in conn (part ∷ parts) none =
    let both = passes conn part (joined parts) (none 0 part (omega arith)) in
    let rest = nothing_in conn parts (λ k default below. none (suc k) default (omega arith)) in
    record { reply = rest.reply ∙ sym both.reply; left = ap (λ (left : List Release). part ++ left) rest.left ∙ sym both.left }

not_passed : (passed : Bool) → not passed ≡ true → passed ≡ false
not_passed true is = cc
not_passed false is = refl

pub takes_nothing : (conn : Conn) (parts : List (List Release)) → position (has_for conn) parts ≡ None → TakesNothing conn (joined parts)
takes_nothing conn parts none =
    elim (ltb (position_or_len (has_for conn) parts) (length parts)) as (λ b. ltb (position_or_len (has_for conn) parts) (length parts) ≡ b
    → cond b (Some (position_or_len (has_for conn) parts)) None ≡ None → TakesNothing conn (joined parts)) [
      | true ↦ λ within is. cc
      | false ↦ λ past is. nothing_in conn parts (λ k default below.
          not_passed (has_for conn (get_or parts k default)) (prefix_len_passes (λ part. not (has_for conn part)) parts k default (omega (arith, ltb-false _ _ past))))
    ] refl none

-- ---- items that are empty

pub without_empty : (parts : List (List Release)) (at : ℕ) (default : List Release) → at < length parts → get_or parts at default ≡ []
    → joined (take at parts ++ drop (suc at) parts) ≡ joined parts
without_empty [] at default within empty = absurd (omega arith)
without_empty (part ∷ parts) zero default within empty = ap (λ (first : List Release). first ++ joined parts) (sym empty)
without_empty (part ∷ parts) (suc at) default within empty = ap (λ (left : List Release). part ++ left) (without_empty parts at default (omega arith) empty)

-- ---- those of a connection that is closed

pub others_of_each : (conn : Conn) (parts : List (List Release)) → joined (map (of_others conn) parts) ≡ of_others conn (joined parts)
others_of_each conn [] = refl
others_of_each conn (part ∷ parts) =
    ap (λ (left : List Release). of_others conn part ++ left) (others_of_each conn parts)
    ∙ sym (filter-append (λ release. not (is_for conn release)) part (joined parts))

one_more_yet : {A : Type 0} (f : A → A) (old now : List A) (at : ℕ) (default : A) → now ≡ map f (take at old) ++ drop at old → at < length old
    → set now at (f (get_or now at default)) ≡ map f (take (suc at) old) ++ drop (suc at) old
one_more_yet f [] now at default so_far within = absurd (omega arith)
one_more_yet f (x ∷ old) now zero default so_far within = ap (λ (xs : List _). set xs 0 (f (get_or xs 0 default))) so_far
one_more_yet f (x ∷ old) now (suc at) default so_far within =
    ap (λ (xs : List _). set xs (suc at) (f (get_or xs (suc at) default))) so_far
    ∙ ap (λ (xs : List _). f x ∷ xs) (one_more_yet f old (map f (take at old) ++ drop at old) at default refl (omega arith))

pub one_more : {A : Type 0} (f : A → A) (old now : List A) (at : ℕ) (default : A) → now ≡ map f (take at old) ++ drop at old → at < length old
    → set now at (f (get_or now at default)) ≡ map f (take (at + 1) old) ++ drop (at + 1) old
one_more f old now at default so_far within =
    let next : suc at ≡ at + 1 = omega arith in
    subst (λ (n : ℕ). set now at (f (get_or now at default)) ≡ map f (take n old) ++ drop n old) next (one_more_yet f old now at default so_far within)

pub no_length : {A : Type 0} (xs : List A) → length xs ≡ 0 → xs ≡ []
no_length [] none = refl
no_length (x ∷ xs) none = absurd (omega (arith, none))

pub all_done : {A : Type 0} (f : A → A) (old : List A) (at : ℕ) → length old ≤ at → map f (take at old) ++ drop at old ≡ map f old
all_done f [] zero past = refl
all_done f [] (suc at) past = refl
all_done f (x ∷ old) zero past = absurd (omega arith)
all_done f (x ∷ old) (suc at) past = ap (λ (xs : List _). f x ∷ xs) (all_done f old at (omega arith))

joined_first : (is_empty : Bool) (part : List Release) (parts : List (List Release)) → length part == 0 ≡ is_empty
    → joined (cond (not is_empty) (part ∷ parts) parts) ≡ part ++ joined parts
joined_first true [] parts is = refl
joined_first true (release ∷ part) parts is = absurd (omega (arith, eqb-true (length (release ∷ part)) 0 is))
joined_first false part parts is = refl

pub without_empty_ones : (parts : List (List Release)) → joined (filter (λ part. not (length part == 0)) parts) ≡ joined parts
without_empty_ones [] = refl
without_empty_ones (part ∷ parts) =
    joined_first (length part == 0) part (filter (λ other. not (length other == 0)) parts) refl
    ∙ ap (λ (left : List Release). part ++ left) (without_empty_ones parts)

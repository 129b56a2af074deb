-- What a shim gives was received.
use Rattle.std.proofs.Common.{◌≡◌, ◌==◌, ◌+◌, ◌-◌, ℕ, zero, suc, Bool, true, false, cond, List, [], ◌∷◌, ◌++◌, drop, length, map, replicate, take, refl, sym, ap, subst, arith, inl, inr, append_assoc}
use Rattle.std.specs.Prelude.{Contains}
use Rattle.std.proofs.lemmas.List.{map-append, take-append-drop}
use Rattle.std.proofs.lemmas.List.Elements.{Contains-append_cases, Contains-append_left, Contains-append_right, Contains-push, Contains-push_cases, at_from_Contains}
use Rattle.link_ends.specs.Shims.{all_given, at_once, given_from, given_of, later, now_due, with_acts}
use Rattle.link_ends.specs.declared.acts.Act.{Act}
use Rattle.link_ends.specs.declared.acts.Act.TheVariants.{Pass, Lose, Repeat, Hold}

module _ {T : Type 0} where
  messages-of : (acts : List Act) (messages : List T) → map (λ (deed : Act × T). deed.1) (with_acts acts messages) ≡ messages
  messages-of acts [] = refl
  messages-of [] (message ∷ messages) = ap (λ rest. message ∷ rest) (messages-of [] messages)
  messages-of (act ∷ acts) (message ∷ messages) = ap (λ rest. message ∷ rest) (messages-of acts messages)

  nothing : (x : T) → Contains [] x → ⊥
  nothing x there = let at = at_from_Contains [] x there in absurd (omega (arith, at.1))

  one_of_one : (message x : T) → Contains (message ∷ []) x → message ≡ x
  one_of_one message x there = elim (Contains-push_cases [] message x there) [
    | inl none ↦ absurd (nothing x none)
    | inr same ↦ same
  ]

  one_of_many : (count : ℕ) (message x : T) → Contains (replicate count message) x → message ≡ x
  one_of_many zero message x there = absurd (nothing x there)
  one_of_many (suc count) message x there = elim (Contains-append_cases (message ∷ []) (replicate count message) x there) [
    | inl first ↦ one_of_one message x first
    | inr rest ↦ one_of_many count message x rest
  ]

  of_at_once : (deed : Act × T) (x : T) → Contains (at_once deed) x → deed.1 ≡ x
  of_at_once (Pass, message) x there = one_of_one message x there
  of_at_once (Lose, message) x there = absurd (nothing x there)
  of_at_once (Repeat more, message) x there = one_of_many (more + 1) message x there
  of_at_once (Hold further, message) x there = absurd (nothing x there)

  of_later : (deed : Act × T) (count : ℕ) (x : T) → Contains (later deed count) x → deed.1 ≡ x
  of_later (Pass, message) count x there = absurd (nothing x there)
  of_later (Lose, message) count x there = absurd (nothing x there)
  of_later (Repeat more, message) count x there = absurd (nothing x there)
  of_later (Hold further, message) count x there = by_last (further == count) there where
    by_last : (is : Bool) → Contains (cond is (message ∷ []) []) x → message ≡ x
    by_last true there = one_of_one message x there
    by_last false there = absurd (nothing x there)

  abbrev messages : List (Act × T) → List T
  messages deeds = map (λ (deed : Act × T). deed.1) deeds

  here : (deed : Act × T) (deeds : List (Act × T)) (x : T) → deed.1 ≡ x → Contains (messages (deed ∷ deeds)) x
  here deed deeds x is = subst (λ (y : T). Contains (messages (deed ∷ deeds)) y) is (Contains-append_left (deed.1 ∷ []) (messages deeds) deed.1 (Contains-push [] deed.1))

  of_due : (deeds : List (Act × T)) (x : T) → Contains (now_due deeds) x → Contains (messages deeds) x
  of_due [] x there = there
  of_due (deed ∷ deeds) x there = elim (Contains-append_cases (later deed (length deeds)) (now_due deeds) x there) [
    | inl own ↦ here deed deeds x (of_later deed (length deeds) x own)
    | inr others ↦ Contains-append_right (deed.1 ∷ []) (messages deeds) x (of_due deeds x others)
  ]

  of_given : (before deeds : List (Act × T)) (x : T) → Contains (given_from before deeds) x → Contains (messages (before ++ deeds)) x
  of_given before [] x there = absurd (nothing x there)
  of_given before (deed ∷ deeds) x there =
      let whole : (before ++ deed ∷ []) ++ deeds ≡ before ++ (deed ∷ deeds) = append_assoc before (deed ∷ []) deeds in
      subst (λ (all : List (Act × T)). Contains (messages all) x) whole
      (elim (Contains-append_cases (at_once deed ++ now_due (before ++ deed ∷ [])) (given_from (before ++ deed ∷ []) deeds) x there) [
        | inl first ↦ subst (λ (all : List T). Contains all x) (sym (map-append (λ (deed : Act × T). deed.1) (before ++ deed ∷ []) deeds))
            (Contains-append_left (messages (before ++ deed ∷ [])) (messages deeds) x (elim (Contains-append_cases (at_once deed) (now_due (before ++ deed ∷ [])) x first) [
              | inl own ↦ subst (λ (all : List T). Contains all x) (sym (map-append (λ (deed : Act × T). deed.1) before (deed ∷ [])))
                  (Contains-append_right (messages before) (deed.1 ∷ []) x (here deed [] x (of_at_once deed x own)))
              | inr others ↦ of_due (before ++ deed ∷ []) x others
            ]))
        | inr rest ↦ of_given (before ++ deed ∷ []) deeds x rest
      ])

  was_received : (acts : List Act) (received : List T) (x : T) → Contains (all_given acts received) x → Contains received x
  was_received acts received x there = subst (λ (all : List T). Contains all x) (messages-of acts received) (of_given [] (with_acts acts received) x there)

  pub has_come : (acts : List Act) (received coming : List T) (x : T) → Contains (given_of acts received coming) x → Contains received x
  has_come acts received coming x there =
      let all = all_given acts received in
      let count = length all - length coming in
      was_received acts received x (subst (λ (all : List T). Contains all x) (take-append-drop count all) (Contains-append_left (take count all) (drop count all) x there))

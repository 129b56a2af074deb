-- What is given of messages as one more comes.
use Rattle.std.proofs.Common.{◌≡◌, ◌<◌, ◌≤◌, ◌==◌, ◌+◌, ◌-◌, ◌∙◌, true≢false, ℕ, zero, suc, Bool, false, cond, List, [], ◌∷◌, ◌++◌, length, set, take, refl, sym, ap, subst, arith, inl, inr, append_assoc, append-nil, length-append}
use Rattle.std.specs.Prelude.{nat_lt}
use Rattle.std.proofs.Math.Seq.{take-append_seam}
use Rattle.std.proofs.lemmas.Bool.{cases_Bool, eqb-true, eq-eqb, le-leb, le-ltb, lt-leb, lt-ltb, ltb-false, ltb-true}
use Rattle.link_ends.specs.Acts.{ActsView, act_of, after_one}
use Rattle.link_ends.specs.Shims.{IsDone, IsShim, all_given, at_once, due, fresh, given_from, given_of, later, left_of, now_due, still_held, ticked, with_acts}
use Rattle.link_ends.specs.declared.acts.Act.{Act}
use Rattle.link_ends.specs.declared.acts.Act.TheVariants.{Pass, Lose, Repeat, Hold}
use Rattle.link_ends.specs.declared.held.Held.{Held}
use Rattle.link_ends.proofs.HeldLemmas.{due-append, ticked-append}

-- behind the last act all are passed
pub beyond : (acts : List Act) (number : ℕ) → length acts ≤ number → act_of acts number ≡ Pass
beyond [] number past = refl
beyond (act ∷ acts) zero past = absurd (omega (arith, past))
beyond (act ∷ acts) (suc number) past = beyond acts number (omega (arith, past))

-- done so it is passed
pub passed : (done : Act) → IsDone Pass done → done ≡ Pass
passed done is = is

module _ {T : Type 0} where
  -- ---- one more message, with its act

  -- the acts as they are
  pub with_acts-more : (acts : List Act) (messages : List T) (message : T)
      → with_acts acts (messages ++ message ∷ []) ≡ with_acts acts messages ++ (act_of acts (length messages), message) ∷ []
  with_acts-more [] [] message = refl
  with_acts-more [] (first ∷ messages) message = ap (λ all. (Pass, first) ∷ all) (with_acts-more [] messages message)
  with_acts-more (act ∷ acts) [] message = refl
  with_acts-more (act ∷ acts) (first ∷ messages) message = ap (λ all. (act, first) ∷ all) (with_acts-more acts messages message)

  -- the last of them done in this way
  pub with_acts-set : (acts : List Act) (messages : List T) (message : T) (done : Act) → length messages < length acts
      → with_acts (set acts (length messages) done) (messages ++ message ∷ []) ≡ with_acts acts messages ++ (done, message) ∷ []
  with_acts-set [] messages message done within = absurd (omega (arith, within))
  with_acts-set (act ∷ acts) [] message done within = refl
  with_acts-set (act ∷ acts) (first ∷ messages) message done within = ap (λ all. (act, first) ∷ all) (with_acts-set acts messages message done (omega (arith, within)))

  -- ---- what is held, and what comes of that

  one_held : (deed : Act × T) (count : ℕ) → ticked (left_of deed count) ≡ left_of deed (suc count)
  one_held (Pass, message) count = refl
  one_held (Lose, message) count = refl
  one_held (Repeat more, message) count = refl
  one_held (Hold further, message) count = elim (cases_Bool (nat_lt count further)) [
    | inl longer ↦ ap (λ (is : Bool). ticked (cond is (record { left = further - count; message = message } ∷ []) [])) longer ∙ elim (cases_Bool (nat_lt (suc count) further)) [
      | inl still ↦ ap (λ (is : Bool). cond is [] (record { left = further - count - 1; message = message } ∷ [])) (lt-leb (further - count) 1 (omega (arith, ltb-true (suc count) further still)))
          ∙ ap (λ (left : ℕ). record { left = left; message = message } ∷ []) (omega (arith, ltb-true (suc count) further still))
          ∙ ap (λ (is : Bool). cond is (record { left = further - suc count; message = message } ∷ []) []) (sym still)
      | inr now ↦ ap (λ (is : Bool). cond is [] (record { left = further - count - 1; message = message } ∷ [])) (le-leb (further - count) 1 (omega (arith, ltb-false (suc count) further now)))
          ∙ ap (λ (is : Bool). cond is (record { left = further - suc count; message = message } ∷ []) []) (sym now)
    ]
    | inr over ↦ ap (λ (is : Bool). ticked (cond is (record { left = further - count; message = message } ∷ []) [])) over
        ∙ ap (λ (is : Bool). cond is (record { left = further - suc count; message = message } ∷ []) []) (sym (le-ltb (suc count) further (omega (arith, ltb-false count further over))))
  ]

  further_on : (further count : ℕ) (message : T) → (further == suc count) ≡ false → count < further → 1 < further - count
  further_on further count message other longer = elim (cases_Bool (nat_lt 1 (further - count))) [
    | inl is ↦ ltb-true 1 (further - count) is
    | inr isnt ↦ absurd (true≢false (sym (eq-eqb further (suc count) (omega (arith, longer, ltb-false 1 (further - count) isnt))) ∙ other))
  ]

  one_due : (deed : Act × T) (count : ℕ) → due (left_of deed count) ≡ later deed (suc count)
  one_due (Pass, message) count = refl
  one_due (Lose, message) count = refl
  one_due (Repeat more, message) count = refl
  one_due (Hold further, message) count = elim (cases_Bool (further == suc count)) [
    | inl last ↦ ap (λ (is : Bool). due (cond is (record { left = further - count; message = message } ∷ []) [])) (lt-ltb count further (omega (arith, eqb-true further (suc count) last)))
        ∙ ap (λ (is : Bool). cond is (message ∷ []) []) (le-leb (further - count) 1 (omega (arith, eqb-true further (suc count) last)))
        ∙ ap (λ (is : Bool). cond is (message ∷ []) []) (sym last)
    | inr other ↦ elim (cases_Bool (nat_lt count further)) [
      | inl longer ↦ ap (λ (is : Bool). due (cond is (record { left = further - count; message = message } ∷ []) [])) longer
          ∙ ap (λ (is : Bool). cond is (message ∷ []) []) (lt-leb (further - count) 1 (further_on further count message other (ltb-true count further longer)))
          ∙ ap (λ (is : Bool). cond is (message ∷ []) []) (sym other)
      | inr over ↦ ap (λ (is : Bool). due (cond is (record { left = further - count; message = message } ∷ []) [])) over
          ∙ ap (λ (is : Bool). cond is (message ∷ []) []) (sym other)
    ]
  ]

  fresh_held : (deed : Act × T) → ticked (fresh deed) ≡ left_of deed 0
  fresh_held (Pass, message) = refl
  fresh_held (Lose, message) = refl
  fresh_held (Repeat more, message) = refl
  fresh_held (Hold further, message) = elim (cases_Bool (nat_lt 0 further)) [
    | inl some ↦ ap (λ (is : Bool). cond is [] (record { left = further + 1 - 1; message = message } ∷ [])) (lt-leb (further + 1) 1 (omega (arith, ltb-true 0 further some)))
        ∙ ap (λ (left : ℕ). record { left = left; message = message } ∷ []) (omega arith)
        ∙ ap (λ (is : Bool). cond is (record { left = further - 0; message = message } ∷ []) []) (sym some)
    | inr none ↦ ap (λ (is : Bool). cond is [] (record { left = further + 1 - 1; message = message } ∷ [])) (le-leb (further + 1) 1 (omega (arith, ltb-false 0 further none)))
        ∙ ap (λ (is : Bool). cond is (record { left = further - 0; message = message } ∷ []) []) (sym none)
  ]

  fresh_due : (deed : Act × T) → due (fresh deed) ≡ later deed 0
  fresh_due (Pass, message) = refl
  fresh_due (Lose, message) = refl
  fresh_due (Repeat more, message) = refl
  fresh_due (Hold further, message) = elim (cases_Bool (further == 0)) [
    | inl now ↦ ap (λ (is : Bool). cond is (message ∷ []) []) (le-leb (further + 1) 1 (omega (arith, eqb-true further 0 now)))
        ∙ ap (λ (is : Bool). cond is (message ∷ []) []) (sym now)
    | inr later ↦ elim (cases_Bool (nat_lt 0 further)) [
      | inl some ↦ ap (λ (is : Bool). cond is (message ∷ []) []) (lt-leb (further + 1) 1 (omega (arith, ltb-true 0 further some)))
          ∙ ap (λ (is : Bool). cond is (message ∷ []) []) (sym later)
      | inr none ↦ absurd (true≢false (sym (eq-eqb further 0 (omega (arith, ltb-false 0 further none))) ∙ later))
    ]
  ]

  -- what is held and what is given once one more has come
  pub held-more : (deeds : List (Act × T)) (deed : Act × T) → still_held (deeds ++ deed ∷ []) ≡ ticked (still_held deeds ++ fresh deed)
  held-more [] deed = append-nil (left_of deed 0) ∙ sym (fresh_held deed)
  held-more (first ∷ deeds) deed =
      let long : length (deeds ++ deed ∷ []) ≡ suc (length deeds) = length-append deeds (deed ∷ []) ∙ omega arith in
      let own = left_of first (length deeds) in
      ap (λ (count : ℕ). left_of first count ++ still_held (deeds ++ deed ∷ [])) long
      ∙ ap (λ held. left_of first (suc (length deeds)) ++ held) (held-more deeds deed)
      ∙ ap (λ held. held ++ ticked (still_held deeds ++ fresh deed)) (sym (one_held first (length deeds)))
      ∙ sym (ticked-append own (still_held deeds ++ fresh deed))
      ∙ ap ticked (sym (append_assoc own (still_held deeds) (fresh deed)))

  pub due-more : (deeds : List (Act × T)) (deed : Act × T) → now_due (deeds ++ deed ∷ []) ≡ due (still_held deeds ++ fresh deed)
  due-more [] deed = append-nil (later deed 0) ∙ sym (fresh_due deed)
  due-more (first ∷ deeds) deed =
      let long : length (deeds ++ deed ∷ []) ≡ suc (length deeds) = length-append deeds (deed ∷ []) ∙ omega arith in
      let own = left_of first (length deeds) in
      ap (λ (count : ℕ). later first count ++ now_due (deeds ++ deed ∷ [])) long
      ∙ ap (λ rest. later first (suc (length deeds)) ++ rest) (due-more deeds deed)
      ∙ ap (λ first. first ++ due (still_held deeds ++ fresh deed)) (sym (one_due first (length deeds)))
      ∙ sym (due-append own (still_held deeds ++ fresh deed))
      ∙ ap due (sym (append_assoc own (still_held deeds) (fresh deed)))

  pub given-more : (before deeds : List (Act × T)) (deed : Act × T)
      → given_from before (deeds ++ deed ∷ []) ≡ given_from before deeds ++ (at_once deed ++ now_due ((before ++ deeds) ++ deed ∷ []))
  given-more before [] deed =
      append-nil (at_once deed ++ now_due (before ++ deed ∷ [])) ∙ ap (λ (all : List (Act × T)). at_once deed ++ now_due (all ++ deed ∷ [])) (sym (append-nil before))
  given-more before (first ∷ deeds) deed =
      let own = at_once first ++ now_due (before ++ first ∷ []) in
      ap (λ rest. own ++ rest) (given-more (before ++ first ∷ []) deeds deed)
      ∙ sym (append_assoc own (given_from (before ++ first ∷ []) deeds) (at_once deed ++ now_due (((before ++ first ∷ []) ++ deeds) ++ deed ∷ [])))
      ∙ ap (λ (all : List (Act × T)). (own ++ given_from (before ++ first ∷ []) deeds) ++ (at_once deed ++ now_due (all ++ deed ∷ []))) (append_assoc before (first ∷ []) deeds)

  -- ---- a shim

  pub given_is : (acts : List Act) (received coming given : List T) → all_given acts received ≡ given ++ coming → given_of acts received coming ≡ given
  given_is acts received coming given exact =
      ap (λ (all : List T). take (length all - length coming) all) exact
      ∙ ap (λ (count : ℕ). take count (given ++ coming)) (ap (λ (long : ℕ). long - length coming) (length-append given coming) ∙ omega arith)
      ∙ take-append_seam given coming

  -- ---- one more message came, and the act for it was done

  module _ (acts : ActsView) (received : List T) (waiting : List (Held T)) (message : T) (done : Act) (is : IsShim acts received [] waiting)
      (way : IsDone (act_of acts.all acts.done) done) where
    abbrev deed : Act × T
    deed = (done, message)

    abbrev held : List (Held T)
    held = waiting ++ fresh deed

    abbrev own : List T
    own = at_once deed ++ due held

    -- what is known of the acts and their number then
    record After (after : ActsView) : Type 0 where
      pub within : after.done ≤ length (received ++ message ∷ [])
      pub counted : after.done < length after.all → after.done ≡ length (received ++ message ∷ [])
      pub deeds : with_acts after.all (received ++ message ∷ []) ≡ with_acts acts.all received ++ deed ∷ []

    after : After (after_one acts done)
    after = let long = length-append received (message ∷ []) in elim (cases_Bool (nat_lt acts.done (length acts.all))) [
      | inl left ↦
          let number : acts.done ≡ length received = is.done (ltb-true acts.done (length acts.all) left) in
          subst After (ap (λ (is : Bool). cond is (record { all = set acts.all acts.done done; done = acts.done + 1 }) acts) (sym left))
          (record {
            within = omega (arith, is.within, long);
            counted = λ _. omega (arith, number, long);
            deeds = ap (λ (number : ℕ). with_acts (set acts.all number done) (received ++ message ∷ [])) number
                ∙ with_acts-set acts.all received message done (omega (arith, number, ltb-true acts.done (length acts.all) left));
          })
      | inr none ↦
          let past = ltb-false acts.done (length acts.all) none in
          let is_pass : done ≡ Pass = passed done (subst (λ (act : Act). IsDone act done) (beyond acts.all acts.done past) way) in
          subst After (ap (λ (is : Bool). cond is (record { all = set acts.all acts.done done; done = acts.done + 1 }) acts) (sym none))
          (record {
            within = omega (arith, is.within, long);
            counted = λ left. absurd (omega (arith, past, left));
            deeds = with_acts-more acts.all received message
                ∙ ap (λ (act : Act). with_acts acts.all received ++ (act, message) ∷ []) (beyond acts.all (length received) (omega (arith, past, is.within)) ∙ sym is_pass);
          })
    ]

    held_is : held ≡ still_held (with_acts acts.all received) ++ fresh deed
    held_is = ap (λ (waiting : List (Held T)). waiting ++ fresh deed) is.held

    whole : all_given (after_one acts done).all (received ++ message ∷ []) ≡ all_given acts.all received ++ own
    whole = ap (λ (deeds : List (Act × T)). given_from [] deeds) after.deeds ∙ given-more [] (with_acts acts.all received) deed
        ∙ ap (λ (last : List T). all_given acts.all received ++ (at_once deed ++ last)) (due-more (with_acts acts.all received) deed ∙ ap due (sym held_is))

    pub one_more : IsShim (after_one acts done) (received ++ message ∷ []) own (ticked held)
    one_more = record {
      within = after.within;
      done = after.counted;
      held = ap ticked held_is ∙ sym (held-more (with_acts acts.all received) deed) ∙ ap still_held (sym after.deeds);
      given = all_given acts.all received;
      exact = whole;
    }

    -- so nothing was given by that
    pub given_stays : given_of (after_one acts done).all (received ++ message ∷ []) own ≡ given_of acts.all received []
    given_stays = given_is (after_one acts done).all (received ++ message ∷ []) own (all_given acts.all received) whole
        ∙ sym (given_is acts.all received [] (all_given acts.all received) (sym (append-nil (all_given acts.all received))))

  -- ---- what is coming is given

  module _ (acts : ActsView) (received coming : List T) (waiting : List (Held T)) (message : T) (is : IsShim acts received (message ∷ coming) waiting) where
    with_next : all_given acts.all received ≡ (is.given ++ message ∷ []) ++ coming
    with_next = is.exact ∙ sym (append_assoc is.given (message ∷ []) coming)

    pub one_given : IsShim acts received coming waiting
    one_given = record { within = is.within; done = is.done; held = is.held; given = is.given ++ message ∷ []; exact = with_next }

    pub given_more : given_of acts.all received coming ≡ given_of acts.all received (message ∷ coming) ++ message ∷ []
    given_more = given_is acts.all received coming (is.given ++ message ∷ []) with_next
        ∙ ap (λ (given : List T). given ++ message ∷ []) (sym (given_is acts.all received (message ∷ coming) is.given is.exact))

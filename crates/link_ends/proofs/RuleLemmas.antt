-- Each move keeps the rule of a link.
use Rattle.std.proofs.Common.{◌≡◌, ◌≢◌, ℕ, zero, suc, true, false, true≢false, List, [], ◌∷◌, ◌++◌, length, set, sym, refl, ap, ◌∙◌, subst, ⊎_elim, append_assoc}
use mathlib.Core.Option.{some, some-ne-none}
use lib.ListN.{get_elem?}
use Rattle.crossbeam_queue.specs.Fifo.{Pushes, Pops, Forks, Merges, Learns}
use Rattle.crossbeam_queue.proofs.Lists.{at_set, at_snoc}
use Rattle.link_ends.specs.Rule.{ArrivesInOrder, EndsWith, IsEnd, known}
use Rattle.link_ends.specs.declared.rule.Known.{Known}

module _ {T : Type 0} where
  at_end : (ends : List (Known T)) (last end : Known T) (number : ℕ) → get_elem? ends number ≢ some end → get_elem? (ends ++ last ∷ []) number ≡ some end → number ≡ length ends
  at_end [] last end zero none is = refl
  at_end [] last end (suc number) none is = absurd (some-ne-none end (sym is))
  at_end (first ∷ ends) last end zero none is = absurd (none is)
  at_end (first ∷ ends) last end (suc number) none is = ap suc (at_end ends last end number none is)

  abbrev All : (ℕ → Known T → Type 0) → List (Known T) → Type 0
  All F ends = (number : ℕ) (end : Known T) → get_elem? ends number ≡ some end → F number end

  all_set : (F : ℕ → Known T → Type 0) (ends : List (Known T)) (own : ℕ) (after : Known T) → F own after
      → ((number : ℕ) (end : Known T) → number ≢ own → get_elem? ends number ≡ some end → F number end) → All F (set ends own after)
  all_set F ends own after mine others number end is = ⊎_elim (λ (here : (number ≡ own) × (after ≡ end)). subst (λ (y : ℕ × Known T). F y.0 y.1) (λ i. (sym here.0 i, here.1 i)) mine)
      (λ (there : (number ≢ own) × (get_elem? ends number ≡ some end)). others number end there.0 there.1) (at_set ends own number after end is)

  pub begins : ArrivesInOrder {T = T} [] (known true true [] [] ∷ [])
  begins = record {
    sender = 0;
    receiver = 0;
    sent = [];
    received = [];
    in_order = refl;
    are_ends = all_set (IsEnd 0 0 [] []) (known true true [] [] ∷ []) 0 (known true true [] []) (record { sends = λ _. (refl, refl); receives = λ _. (refl, refl) })
        (λ number end other is. absurd (other (at_end [] _ end number (λ none. some-ne-none end (sym none)) is)));
  }

  pub sends : (room own : ℕ) (end : Known T) (message : T) → end.sends ≡ true
      → Pushes ArrivesInOrder room own end message (λ after. after ≡ known end.sends end.receives (end.sent ++ message ∷ []) end.received)
  sends room own end message may waiting ends _ rule at =
      let after : Known T = known end.sends end.receives (end.sent ++ message ∷ []) end.received in
      let mine = rule.are_ends own end at in
      let sent = rule.sent ++ message ∷ [] in (
        after,
        record {
          sender = rule.sender;
          receiver = rule.receiver;
          sent = sent;
          received = rule.received;
          in_order = ap (λ all. all ++ message ∷ []) rule.in_order ∙ append_assoc rule.received waiting (message ∷ []);
          are_ends = all_set (IsEnd rule.sender rule.receiver sent rule.received) ends own after
              (record { sends = λ _. ((mine.sends may).0, ap (λ all. all ++ message ∷ []) (mine.sends may).1); receives = mine.receives })
              (λ number other apart is. record {
                sends = λ also. absurd (apart (((rule.are_ends number other is).sends also).0 ∙ sym (mine.sends may).0));
                receives = (rule.are_ends number other is).receives;
              });
        },
        refl,
      )

  pub receives : (own : ℕ) (end : Known T) → end.receives ≡ true
      → Pops ArrivesInOrder own end (λ message after. after ≡ known end.sends end.receives end.sent (end.received ++ message ∷ []))
  receives own end may message waiting ends rule at =
      let after : Known T = known end.sends end.receives end.sent (end.received ++ message ∷ []) in
      let mine = rule.are_ends own end at in
      let received = rule.received ++ message ∷ [] in (
        after,
        record {
          sender = rule.sender;
          receiver = rule.receiver;
          sent = rule.sent;
          received = received;
          in_order = rule.in_order ∙ sym (append_assoc rule.received (message ∷ []) waiting);
          are_ends = all_set (IsEnd rule.sender rule.receiver rule.sent received) ends own after
              (record { sends = mine.sends; receives = λ _. ((mine.receives may).0, ap (λ all. all ++ message ∷ []) (mine.receives may).1) })
              (λ number other apart is. record {
                sends = (rule.are_ends number other is).sends;
                receives = λ also. absurd (apart (((rule.are_ends number other is).receives also).0 ∙ sym (mine.receives may).0));
              });
        },
        refl,
      )

  pub splits : (own : ℕ) (end : Known T) → end.sends ≡ true → end.receives ≡ true → Forks ArrivesInOrder own end (known true false end.sent []) (known false true [] end.received)
  splits own end may too waiting ends rule at =
      let left : Known T = known true false end.sent [] in
      let right : Known T = known false true [] end.received in
      let mine = rule.are_ends own end at in
      let others : List (Known T) = set ends own left in
      let Sends : ℕ → Known T → Type 0 = λ number other. (other.sends ≡ true → (number ≡ rule.sender) × (other.sent ≡ rule.sent)) × (other.receives ≢ true) in
      let only_send : All Sends others = all_set Sends ends own left ((λ _. mine.sends may), λ also. true≢false (sym also))
      (λ number other apart is. ((rule.are_ends number other is).sends, λ also. apart (((rule.are_ends number other is).receives also).0 ∙ sym (mine.receives too).0))) in
      record {
        sender = rule.sender;
        receiver = length others;
        sent = rule.sent;
        received = rule.received;
        in_order = rule.in_order;
        are_ends = λ number other is. ⊎_elim (λ old. record { sends = (only_send number other old).0; receives = λ also. absurd ((only_send number other old).1 also) })
            (λ (new : right ≡ other). record {
              sends = λ also. absurd (true≢false (sym (ap (λ (end : Known T). end.sends) new ∙ also)));
              receives = λ also. (at_end others right other number (λ there. (only_send number other there).1 also) is, ap (λ (end : Known T). end.received) (sym new) ∙ (mine.receives too).1);
            }) (at_snoc others right other number is);
      }

  pub joins : (own : ℕ) (sender : Known T) (number : ℕ) (receiver : Known T) → sender.sends ≡ true → receiver.receives ≡ true
      → Merges ArrivesInOrder own sender number receiver (known true true sender.sent receiver.received) (known false false [] [])
  joins own sender number receiver may too waiting ends rule at apart at_other =
      let both : Known T = known true true sender.sent receiver.received in
      let mine = rule.are_ends own sender at in
      let joined : List (Known T) = set ends own both in
      let was : get_elem? ends number ≡ some receiver = ⊎_elim (λ here. absurd (apart here.0)) (λ there. there.1) (at_set ends own number both receiver at_other) in
      let theirs = (rule.are_ends number receiver was).receives too in
      let Now : ℕ → Known T → Type 0 = λ place end. place ≢ number → IsEnd rule.sender own rule.sent rule.received place end in
      let now : All Now joined = all_set Now ends own both (λ _. record { sends = λ _. mine.sends may; receives = λ _. (refl, theirs.1) })
      (λ place end _ is other. record {
        sends = (rule.are_ends place end is).sends;
        receives = λ also. absurd (other (((rule.are_ends place end is).receives also).0 ∙ sym theirs.0));
      }) in
      record {
        sender = rule.sender;
        receiver = own;
        sent = rule.sent;
        received = rule.received;
        in_order = rule.in_order;
        are_ends = all_set (IsEnd rule.sender own rule.sent rule.received) joined number (known false false [] [])
            (record { sends = λ also. absurd (true≢false (sym also)); receives = λ also. absurd (true≢false (sym also)) }) (λ place end other is. now place end is other);
      }

  -- what is known of what waits
  pub by_sender : (own : ℕ) (end : Known T) → end.sends ≡ true → Learns ArrivesInOrder own end (λ waiting. EndsWith end.sent waiting)
  by_sender own end may waiting ends rule at = (rule.received, ((rule.are_ends own end at).sends may).1 ∙ rule.in_order)

  pub by_receiver : (own : ℕ) (end : Known T) → end.receives ≡ true → Learns ArrivesInOrder own end (λ waiting. (sent : List T) × (sent ≡ end.received ++ waiting))
  by_receiver own end may waiting ends rule at = (end.received ++ waiting, refl)

  pub by_both : (own : ℕ) (end : Known T) → end.sends ≡ true → end.receives ≡ true → Learns ArrivesInOrder own end (λ waiting. end.sent ≡ end.received ++ waiting)
  by_both own end may too waiting ends rule at =
      let mine = rule.are_ends own end at in
      (mine.sends may).1 ∙ rule.in_order ∙ ap (λ received. received ++ waiting) (sym (mine.receives too).1)

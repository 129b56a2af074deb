-- The shortest front of bytes at which a reading decides.
use Rattle.std.proofs.Common.{◌≡◌, ℕ, zero, suc, ◌+◌, ◌<◌, ◌≤◌, ◌⊎◌, inl, inr, Bool, true, false, List, ◌++◌, length, take, drop, refl, sym, ap, ◌∙◌, arith}
use Rattle.std.proofs.lemmas.Bool.{cases_lt}
use Rattle.std.proofs.lemmas.List.{length-append, length-take, take_at, take-take, take_all, take-append-drop}
use Rattle.resp_header.specs.declared.fault.Fault.{Fault}
use Rattle.resp_header.specs.Reading.{Seen, Wants, Bad, Found}

-- ---- the least number that passes a test

record Least (test : ℕ → Bool) (k : ℕ) : Type 0 where
  at : ℕ
  within : at ≤ k
  passes : test at ≡ true
  before : (j : ℕ) → j < at → test j ≡ false

least_below : (test : ℕ → Bool) (k : ℕ) → ((j : ℕ) → j < k → test j ≡ false) ⊎ Least test k
least_below test zero = inl (λ j lt. absurd (omega arith))
least_below test (suc k) = behind (least_below test k) (test k) refl
  where
    below : ((j : ℕ) → j < k → test j ≡ false) → test k ≡ false → (j : ℕ) → j < suc k → test j ≡ false
    below none last j lt = elim (cases_lt j k) [ inl less ↦ none j less | inr more ↦ let e : j ≡ k = omega arith in rw e last ]

    behind : ((j : ℕ) → j < k → test j ≡ false) ⊎ Least test k → (b : Bool) → test k ≡ b → ((j : ℕ) → j < suc k → test j ≡ false) ⊎ Least test (suc k)
    behind (inr l) b e = inr (record { at = l.at; within = (let w : l.at ≤ k = l.within in omega arith); passes = l.passes; before = l.before })
    behind (inl none) true e = inr (record { at = k; within = omega arith; passes = e; before = none })
    behind (inl none) false e = inl (below none e)

least : (test : ℕ → Bool) (k : ℕ) → test k ≡ true → Least test k
least test k passes = elim (least_below test (suc k)) [
  | inl none ↦ (let fails : test k ≡ false = none k (omega arith) in absurd cc)
  | inr l ↦ behind l (cases_lt l.at (suc k))
]
  where
    behind : (l : Least test (suc k)) → (l.at < suc k) ⊎ (suc k ≤ l.at) → Least test k
    behind l (inl less) = record { at = l.at; within = omega arith; passes = l.passes; before = l.before }
    behind l (inr more) = record { at = k; within = omega arith; passes = passes; before = λ j lt. l.before j (omega arith) }

-- ---- the shortest front that decides

is_decided : {X : Type 0} → Seen X → Bool
is_decided Wants = false
is_decided (Bad fault) = true
is_decided (Found x rest) = true

undecided : {X : Type 0} (s : Seen X) → is_decided s ≡ false → s ≡ Wants
unfolding is_decided
undecided Wants e = refl
undecided (Bad fault) e = absurd cc
undecided (Found x rest) e = absurd cc

bad_is_decided : {X : Type 0} (s : Seen X) (fault : Fault) → s ≡ Bad fault → is_decided s ≡ true
unfolding is_decided
bad_is_decided {X} s fault e = ap (λ (u : Seen X). is_decided u) e

-- what decides a front goes on to do so
pub record Stays {X : Type 0} (read : List ℕ → Seen X) : Type 0 where
  pub bad : (bytes more : List ℕ) (fault : Fault) → read bytes ≡ Bad fault → read (bytes ++ more) ≡ Bad fault
  pub found : (bytes more : List ℕ) (x : X) (rest : List ℕ) → read bytes ≡ Found x rest → read (bytes ++ more) ≡ Found x (rest ++ more)

-- the shortest front with the fault
pub record ShortestBad {X : Type 0} (read : List ℕ → Seen X) (fault : Fault) (bytes : List ℕ) : Type 0 where
  pub front : List ℕ
  pub rest : List ℕ
  pub split : bytes ≡ front ++ rest
  pub bad : read front ≡ Bad fault
  pub first : (shorter more : List ℕ) → front ≡ shorter ++ more → 0 < length more → read shorter ≡ Wants

module _ {X : Type 0} (read : List ℕ → Seen X) (stays : Stays read) where
  decided_so : (front rest : List ℕ) (fault : Fault) (s : Seen X) → read front ≡ s → is_decided s ≡ true → read (front ++ rest) ≡ Bad fault → s ≡ Bad fault
  unfolding is_decided
  decided_so front rest fault Wants e decided whole = absurd cc
  decided_so front rest fault (Bad other) e decided whole = sym (stays.bad front rest other e) ∙ whole
  decided_so front rest fault (Found x last) e decided whole =
      let found : read (front ++ rest) ≡ Found x (last ++ rest) = stays.found front rest x last e in
      absurd cc

  pub shortest_bad : (fault : Fault) (bytes : List ℕ) → read bytes ≡ Bad fault → ShortestBad read fault bytes
  shortest_bad fault bytes e =
      let test : ℕ → Bool = λ k. is_decided (read (take k bytes)) in
      let whole : test (length bytes) ≡ true = bad_is_decided (read (take (length bytes) bytes)) fault (ap read (take_all (length bytes) bytes (omega arith)) ∙ e) in
      let l = least test (length bytes) whole in
      let split : bytes ≡ take l.at bytes ++ drop l.at bytes = sym (take-append-drop l.at bytes) in
      record {
        front = take l.at bytes;
        rest = drop l.at bytes;
        split = split;
        bad = decided_so (take l.at bytes) (drop l.at bytes) fault (read (take l.at bytes)) refl l.passes (ap read (sym split) ∙ e);
        first = λ shorter more parts wanted.
            let within : l.at ≤ length bytes = l.within in
            let size : length shorter + length more ≡ l.at = sym (length-append shorter more) ∙ sym (ap length parts) ∙ length-take l.at bytes ∙ omega arith in
            let front_is : take (length shorter) bytes ≡ shorter =
            sym (take-take (length shorter) l.at bytes (omega arith)) ∙ ap (take (length shorter)) parts ∙ take_at shorter more (length shorter) refl in
            ap read (sym front_is) ∙ undecided (read (take (length shorter) bytes)) (l.before (length shorter) (omega arith));
      }

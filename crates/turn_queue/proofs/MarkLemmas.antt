-- Keys that are marked.
use Rattle.std.proofs.Common.{◌≡◌, ◌≢◌, ◌+◌, ◌<◌, ◌≤◌, ◌++◌, ◌==◌, ◌∷◌, [], ℕ, zero, suc, Bool, true, false, not, List, Option, Some, None, All, IsFalse, length, set, slice_get, cond, inl, inr, ◌||◌, if◌then◌else◌, nat_eq, nat_lt, refl, sym, ap, subst, ◌∙◌, arith}
use Rattle.std.specs.List.{AllByRecursion, IsDistinct}
use Rattle.std.proofs.lemmas.Bool.{le-ltb, lt-ltb}
use Rattle.std.proofs.lemmas.List.{length-append, length-set, set-set}
use Rattle.std.proofs.lemmas.List.Elements.{All-head, All-tail, All-push, All-set}
use Rattle.std.proofs.lemmas.Bool.Decides.{eqb_tells}
use Rattle.std.proofs.lemmas.Bool.{ne_eqb}
use Rattle.turn_queue.specs.Turns.{AreMarked, IsKept, added, is_among, without}

-- ---- marks

none-marked : (marks : List Bool) (key : ℕ) → All IsFalse marks → slice_get marks key ≢ Some true
none-marked [] key none there = absurd (cc)
none-marked (mark ∷ marks) zero none there =
    let here : mark ≡ false = All-head IsFalse mark marks none in
    absurd (cc)
none-marked (mark ∷ marks) (suc key) none there = none-marked marks key (All-tail IsFalse mark marks none) there

get-set : (marks : List Bool) (key : ℕ) (was is : Bool) → slice_get marks key ≡ Some was → slice_get (set marks key is) key ≡ Some is
get-set [] key was is there = absurd (cc)
get-set (mark ∷ marks) zero was is there = refl
get-set (mark ∷ marks) (suc key) was is there = get-set marks key was is there

get-set_other : (marks : List Bool) (key other : ℕ) (is : Bool) → key ≢ other → slice_get (set marks key is) other ≡ slice_get marks other
get-set_other [] key other is apart = refl
get-set_other (mark ∷ marks) zero zero is apart = absurd (apart refl)
get-set_other (mark ∷ marks) zero (suc other) is apart = refl
get-set_other (mark ∷ marks) (suc key) zero is apart = refl
get-set_other (mark ∷ marks) (suc key) (suc other) is apart = get-set_other marks key other is (λ same. apart (ap suc same))

set-there : (marks : List Bool) (key : ℕ) (is : Bool) → slice_get marks key ≡ Some is → set marks key is ≡ marks
set-there [] key is there = refl
set-there (mark ∷ marks) zero is there = let same : is ≡ mark = cc in ap (λ first. first ∷ marks) same
set-there (mark ∷ marks) (suc key) is there = ap (λ later. mark ∷ later) (set-there marks key is there)

set-set_other : (marks : List Bool) (key other : ℕ) (is was : Bool) → key ≢ other → set (set marks key is) other was ≡ set (set marks other was) key is
set-set_other [] key other is was apart = refl
set-set_other (mark ∷ marks) zero zero is was apart = absurd (apart refl)
set-set_other (mark ∷ marks) zero (suc other) is was apart = refl
set-set_other (mark ∷ marks) (suc key) zero is was apart = refl
set-set_other (mark ∷ marks) (suc key) (suc other) is was apart =
    ap (λ later. mark ∷ later) (set-set_other marks key other is was (λ same. apart (ap suc same)))

get-push : (marks more : List Bool) (key : ℕ) (is : Bool) → slice_get marks key ≡ Some is → slice_get (marks ++ more) key ≡ Some is
get-push [] more key is there = absurd (cc)
get-push (mark ∷ marks) more zero is there = there
get-push (mark ∷ marks) more (suc key) is there = get-push marks more key is there

set-push : (marks more : List Bool) (key : ℕ) (was is : Bool) → slice_get marks key ≡ Some was → set (marks ++ more) key is ≡ set marks key is ++ more
set-push [] more key was is there = absurd (cc)
set-push (mark ∷ marks) more zero was is there = refl
set-push (mark ∷ marks) more (suc key) was is there = ap (λ later. mark ∷ later) (set-push marks more key was is there)

-- ---- how many are not marked

abbrev free : List Bool → ℕ
free [] = 0
free (true ∷ marks) = free marks
free (false ∷ marks) = suc (free marks)

free-within : (marks : List Bool) → free marks ≤ length marks
free-within [] = omega arith
free-within (true ∷ marks) = omega (arith, free-within marks)
free-within (false ∷ marks) = omega (arith, free-within marks)

free-unset : (marks : List Bool) (key : ℕ) → slice_get marks key ≡ Some true → free (set marks key false) ≡ free marks + 1
free-unset [] key there = absurd (cc)
free-unset (true ∷ marks) zero there = omega arith
free-unset (false ∷ marks) zero there = absurd (cc)
free-unset (true ∷ marks) (suc key) there = free-unset marks key there
free-unset (false ∷ marks) (suc key) there = omega (arith, free-unset marks key there)

free-some : (marks : List Bool) (key : ℕ) → slice_get marks key ≡ Some false → 1 ≤ free marks
free-some [] key there = absurd (cc)
free-some (true ∷ marks) zero there = absurd (cc)
free-some (false ∷ marks) zero there = omega arith
free-some (true ∷ marks) (suc key) there = free-some marks key there
free-some (false ∷ marks) (suc key) there = omega arith

marked-and-free : (keys : List ℕ) (marks : List Bool) → AreMarked keys marks → length keys + free marks ≤ length marks
marked-and-free [] marks are = omega (arith, free-within marks)
marked-and-free (key ∷ keys) marks are =
    omega (arith, marked-and-free keys (set marks key false) are.1, free-unset marks key are.0, length-set marks key false)

pub few : (keys : List ℕ) (marks : List Bool) → AreMarked keys marks → length keys ≤ length marks
few keys marks are = omega (arith, marked-and-free keys marks are)

-- a key that isn't marked finds room
pub finds-room : (keys : List ℕ) (marks : List Bool) (key capacity : ℕ) → IsKept keys marks capacity → slice_get marks key ≡ Some false → length keys < capacity
finds-room keys marks key capacity kept there = omega (arith, marked-and-free keys marks kept.marked, free-some marks key there, kept.room)

-- ---- keys

-- a key is among them where it is marked
pub is-among : (keys : List ℕ) (marks : List Bool) (key : ℕ) → AreMarked keys marks → slice_get marks key ≡ Some true → is_among key keys ≡ true
is-among [] marks key are there = absurd (none-marked marks key are there)
is-among (first ∷ keys) marks key are there = elim (eqb_tells first key) [
  | inl same ↦ ap (λ (b : Bool). b || is_among key keys) same.0
  | inr apart ↦ ap (λ (b : Bool). b || is_among key keys) apart.0
      ∙ is-among keys (set marks first false) key are.1 (get-set_other marks first key false apart.1 ∙ there)
]

-- and else it is not
pub not-among : (keys : List ℕ) (marks : List Bool) (key : ℕ) → AreMarked keys marks → slice_get marks key ≢ Some true → is_among key keys ≡ false
not-among [] marks key are none = refl
not-among (first ∷ keys) marks key are none = elim (eqb_tells first key) [
  | inl same ↦ absurd (none (subst (λ (k : ℕ). slice_get marks k ≡ Some true) same.1 are.0))
  | inr apart ↦ ap (λ (b : Bool). b || is_among key keys) apart.0
      ∙ not-among keys (set marks first false) key are.1 (λ there. none (sym (get-set_other marks first key false apart.1) ∙ there))
]

apart-from : (keys : List ℕ) (marks : List Bool) (key : ℕ) → AreMarked keys marks → slice_get marks key ≢ Some true → AllByRecursion (λ other. nat_eq key other ≡ false) keys
apart-from [] marks key are none = tt
apart-from (first ∷ keys) marks key are none = elim (eqb_tells first key) [
  | inl same ↦ absurd (none (subst (λ (k : ℕ). slice_get marks k ≡ Some true) same.1 are.0))
  | inr apart ↦ (
    ne_eqb key first (λ same. apart.1 (sym same)),
    apart-from keys (set marks first false) key are.1 (λ there. none (sym (get-set_other marks first key false apart.1) ∙ there)),
  )
]

-- each key is there once
pub each-once : (keys : List ℕ) (marks : List Bool) → AreMarked keys marks → IsDistinct nat_eq keys
unfolding IsDistinct
each-once [] marks are = tt
each-once (key ∷ keys) marks are =
    let unmarked : slice_get (set marks key false) key ≡ Some false = get-set marks key true false are.0 in
    (apart-from keys (set marks key false) key are.1 (λ there. absurd (cc)), each-once keys (set marks key false) are.1)

-- a key that is not there leaves nothing behind
pub nothing-removed : (keys : List ℕ) (marks : List Bool) (key : ℕ) → AreMarked keys marks → slice_get marks key ≢ Some true → keys ≡ without key keys
nothing-removed [] marks key are none = refl
nothing-removed (first ∷ keys) marks key are none = elim (eqb_tells first key) [
  | inl same ↦ absurd (none (subst (λ (k : ℕ). slice_get marks k ≡ Some true) same.1 are.0))
  | inr apart ↦ ap (λ (later : List ℕ). first ∷ later)
      (nothing-removed keys (set marks first false) key are.1 (λ there. none (sym (get-set_other marks first key false apart.1) ∙ there)))
      ∙ sym (ap (λ (b : Bool). cond (not b) (first ∷ without key keys) (without key keys)) apart.0)
]

has-room : (marks : List Bool) (key : ℕ) (is : Bool) → slice_get marks key ≡ Some is → key < length marks
has-room [] key is there = absurd (cc)
has-room (mark ∷ marks) zero is there = omega arith
has-room (mark ∷ marks) (suc key) is there = omega (arith, has-room marks key is there)

has-no-room : (marks : List Bool) (key : ℕ) → slice_get marks key ≡ None → length marks ≤ key
has-no-room [] key none = omega arith
has-no-room (mark ∷ marks) zero none = absurd (cc)
has-no-room (mark ∷ marks) (suc key) none = omega (arith, has-no-room marks key none)

pub is-added : (keys : List ℕ) (marks : List Bool) (key : ℕ) → AreMarked keys marks → slice_get marks key ≡ Some false
    → keys ++ key ∷ [] ≡ added key (record { keys = keys; room = length marks })
is-added keys marks key are there =
    let apart : slice_get marks key ≢ Some true = λ is. absurd (cc) in
    sym (ap (λ (b : Bool). if b then keys else if nat_lt key (length marks) then keys ++ key ∷ [] else keys) (not-among keys marks key are apart)
    ∙ ap (λ (b : Bool). if b then keys ++ key ∷ [] else keys) (lt-ltb key (length marks) (has-room marks key false there)))

pub is-as-before : (keys : List ℕ) (marks : List Bool) (key : ℕ) → AreMarked keys marks → slice_get marks key ≢ Some false
    → keys ≡ added key (record { keys = keys; room = length marks })
is-as-before keys marks key are other = by_mark (slice_get marks key) refl where
  by_mark : (mark : Option Bool) → slice_get marks key ≡ mark → keys ≡ added key (record { keys = keys; room = length marks })
  by_mark (Some true) is =
      sym (ap (λ (b : Bool). if b then keys else if nat_lt key (length marks) then keys ++ key ∷ [] else keys) (is-among keys marks key are is))
  by_mark (Some false) is = absurd (other is)
  by_mark None is =
      let apart : slice_get marks key ≢ Some true = λ there. absurd (cc) in
      sym (ap (λ (b : Bool). if b then keys else if nat_lt key (length marks) then keys ++ key ∷ [] else keys) (not-among keys marks key are apart)
      ∙ ap (λ (b : Bool). if b then keys ++ key ∷ [] else keys) (le-ltb key (length marks) (has-no-room marks key is)))

-- ---- what becomes of the marks

added-marked : (keys : List ℕ) (marks : List Bool) (key : ℕ) → AreMarked keys marks → slice_get marks key ≡ Some false → AreMarked (keys ++ key ∷ []) (set marks key true)
added-marked [] marks key are there =
    (get-set marks key false true there, subst (All IsFalse) (sym (set-set marks key true false ∙ set-there marks key false there)) are)
added-marked (first ∷ keys) marks key are there = elim (eqb_tells first key) [
  | inl same ↦ let is : slice_get marks key ≡ Some true = subst (λ (k : ℕ). slice_get marks k ≡ Some true) same.1 are.0 in absurd (cc)
  | inr apart ↦ (
    get-set_other marks key first true (λ same. apart.1 (sym same)) ∙ are.0,
    subst (AreMarked (keys ++ key ∷ [])) (sym (set-set_other marks key first true false (λ same. apart.1 (sym same))))
        (added-marked keys (set marks first false) key are.1 (get-set_other marks first key false apart.1 ∙ there)),
  )
]

removed-marked : (keys : List ℕ) (marks : List Bool) (key : ℕ) → AreMarked keys marks → AreMarked (without key keys) (set marks key false)
removed-marked [] marks key are = All-set IsFalse marks key false refl are
removed-marked (first ∷ keys) marks key are = elim (eqb_tells first key) [
  | inl same ↦ by_test true same.0
      (subst (AreMarked (without key keys)) (set-set marks key false false)
      (subst (λ (k : ℕ). AreMarked (without key keys) (set (set marks k false) key false)) same.1 (removed-marked keys (set marks first false) key are.1)))
  | inr apart ↦ by_test false apart.0 (
    get-set_other marks key first false (λ same. apart.1 (sym same)) ∙ are.0,
    subst (AreMarked (without key keys)) (set-set_other marks first key false false apart.1) (removed-marked keys (set marks first false) key are.1),
  )
] where
  by_test : (is : Bool) → (first == key) ≡ is → AreMarked (cond (not is) (first ∷ without key keys) (without key keys)) (set marks key false)
      → AreMarked (without key (first ∷ keys)) (set marks key false)
  by_test is test are = subst (λ (b : Bool). AreMarked (cond (not b) (first ∷ without key keys) (without key keys)) (set marks key false)) (sym test) are

grown-marked : (keys : List ℕ) (marks : List Bool) → AreMarked keys marks → AreMarked keys (marks ++ false ∷ [])
grown-marked [] marks are = All-push IsFalse marks false are refl
grown-marked (first ∷ keys) marks are = (
  get-push marks (false ∷ []) first true are.0,
  subst (AreMarked keys) (sym (set-push marks (false ∷ []) first true false are.0)) (grown-marked keys (set marks first false) are.1),
)

-- ---- what is kept

pub added-kept : (keys new : List ℕ) (marks : List Bool) (key capacity room : ℕ) → IsKept keys marks capacity → slice_get marks key ≡ Some false
    → new ≡ keys ++ key ∷ [] → capacity ≤ room → IsKept new (set marks key true) room
added-kept keys new marks key capacity room kept there is more = record {
  marked = subst (λ (them : List ℕ). AreMarked them (set marks key true)) (sym is) (added-marked keys marks key kept.marked there);
  room = omega (arith, length-set marks key true, kept.room, more);
}

pub removed-kept : (keys new : List ℕ) (marks : List Bool) (key capacity room : ℕ) → IsKept keys marks capacity
    → new ≡ without key keys → capacity ≤ room → IsKept new (set marks key false) room
removed-kept keys new marks key capacity room kept is more = record {
  marked = subst (λ (them : List ℕ). AreMarked them (set marks key false)) (sym is) (removed-marked keys marks key kept.marked);
  room = omega (arith, length-set marks key false, kept.room, more);
}

pub grown-kept : (keys new : List ℕ) (marks more : List Bool) (capacity room : ℕ) → IsKept keys marks capacity
    → new ≡ keys → more ≡ marks ++ false ∷ [] → length marks + 1 ≤ room → IsKept new more room
grown-kept keys new marks more capacity room kept is grown enough = record {
  marked = subst (λ (them : List ℕ). AreMarked them more) (sym is) (subst (AreMarked keys) (sym grown) (grown-marked keys marks kept.marked));
  room = omega (arith, ap length grown, length-append marks (false ∷ []), enough);
}

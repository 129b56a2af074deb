-- Parts of a list, by the places of their elements.
use Rattle.std.proofs.Common.{◌≡◌, ℕ, ◌+◌, ◌-◌, ◌<◌, ◌≤◌, List, [], ◌++◌, length, take, drop, get_or, min, inl, inr, refl, sym, ap, ◌∙◌, arith}
use Rattle.std.proofs.lemmas.Bool.{cases_lt}
use Rattle.std.proofs.lemmas.List.{same_lists, length-append, length-take, length-drop, get_or_append_left, get_or-append_right, get_or-take, get_or-drop}

-- the bytes stand in the whole from there on
pub record At (full : List ℕ) (from : ℕ) (bytes : List ℕ) : Type 0 where
  pub within : from + length bytes ≤ length full
  pub each : (k d : ℕ) → k < length bytes → get_or bytes k d ≡ get_or full (from + k) d

-- both have so many bytes, and the same
pub record Same (full other : List ℕ) (count : ℕ) : Type 0 where
  pub here : count ≤ length full
  pub there : count ≤ length other
  pub each : (k d : ℕ) → k < count → get_or full k d ≡ get_or other k d

-- ---- what they are

pub of_part : (full : List ℕ) (from : ℕ) (bytes : List ℕ) → from + length bytes ≤ length full → bytes ≡ take (length bytes) (drop from full) → At full from bytes
of_part full from bytes within are = record {
  within = within;
  each = λ k d below. ap (λ (t : List ℕ). get_or t k d) are ∙ get_or-take (length bytes) (drop from full) k d below ∙ get_or-drop from full k d;
}

pub of_front : (full bytes : List ℕ) (count : ℕ) → count ≤ length full → take count full ≡ bytes → At full 0 bytes
of_front full bytes count within are =
    let len : length bytes ≡ count = sym (ap (λ (t : List ℕ). length t) are) ∙ length-take count full ∙ omega (arith, within) in
    record {
      within = omega (arith, len, within);
      each = λ k d below. ap (λ (t : List ℕ). get_or t k d) (sym are) ∙ get_or-take count full k d (omega (arith, below, len)) ∙ ap (λ (n : ℕ). get_or full n d) (omega arith);
    }

pub is_front : (full bytes : List ℕ) (count : ℕ) → At full 0 bytes → count ≡ length bytes → take count full ≡ bytes
is_front full bytes count at is =
    let within = at.within in
    same_lists _ _ (omega (arith, length-take count full, is, within)) (λ k d below.
    let inside : k < length bytes = omega (arith, length-take count full, is, within, below) in
    get_or-take count full k d (omega (arith, is, inside)) ∙ ap (λ (n : ℕ). get_or full n d) (omega arith) ∙ sym (at.each k d inside))

pub of_shared : (full other : List ℕ) (count : ℕ) → count ≤ length full → count ≤ length other → take count full ≡ take count other → Same full other count
of_shared full other count here there same = record {
  here = here;
  there = there;
  each = λ k d below. sym (get_or-take count full k d below) ∙ ap (λ (t : List ℕ). get_or t k d) same ∙ get_or-take count other k d below;
}

pub same_self : (full : List ℕ) (count : ℕ) → count ≤ length full → Same full full count
same_self full count within = record { here = within; there = within; each = λ k d below. refl }

pub same_less : (full other : List ℕ) (count less : ℕ) → Same full other count → less ≤ count → Same full other less
same_less full other count less same le =
    let (here, there) : (count ≤ length full) × (count ≤ length other) = (same.here, same.there) in
    record { here = omega (arith, here, le); there = omega (arith, there, le); each = λ k d below. same.each k d (omega (arith, below, le)) }

-- ---- parts of parts

pub nothing : (full : List ℕ) (from : ℕ) → from ≤ length full → At full from []
nothing full from within = record { within = omega (arith, within); each = λ k d below. absurd (omega (arith, below)) }

pub front : (full : List ℕ) (from : ℕ) (a b : List ℕ) → At full from (a ++ b) → At full from a
front full from a b at =
    let within = at.within in
    record {
      within = omega (arith, within, length-append a b);
      each = λ k d below. sym (get_or_append_left a b d k below) ∙ at.each k d (omega (arith, below, length-append a b));
    }

pub back : (full : List ℕ) (from : ℕ) (a b : List ℕ) → At full from (a ++ b) → At full (from + length a) b
back full from a b at =
    let within = at.within in
    record {
      within = omega (arith, within, length-append a b);
      each = λ k d below.
          ap (λ (n : ℕ). get_or b n d) (omega arith) ∙ sym (get_or-append_right a b (length a) (length a + k) d refl (omega arith))
          ∙ at.each (length a + k) d (omega (arith, below, length-append a b)) ∙ ap (λ (n : ℕ). get_or full n d) (omega arith);
    }

pub joined : (full : List ℕ) (from next : ℕ) (a b : List ℕ) → At full from a → At full next b → next ≡ from + length a → At full from (a ++ b)
joined full from next a b one two is =
    let (first, second) : (from + length a ≤ length full) × (next + length b ≤ length full) = (one.within, two.within) in
    record {
      within = omega (arith, second, is, length-append a b);
      each = λ k d below. elim (cases_lt k (length a)) as (λ _. get_or (a ++ b) k d ≡ get_or full (from + k) d) [
        | inl here ↦ get_or_append_left a b d k here ∙ one.each k d here
        | inr behind ↦
            get_or-append_right a b (length a) k d refl behind ∙ two.each (k - length a) d (omega (arith, below, behind, length-append a b))
            ∙ ap (λ (n : ℕ). get_or full n d) (omega (arith, behind, is))
      ];
    }

-- the first ones, where another list has the same
pub first_of : (full other : List ℕ) (count from : ℕ) (bytes : List ℕ) → Same full other count → At other from bytes → from ≤ count → At full from (take (count - from) bytes)
first_of full other count from bytes same at le =
    let (here, within) : (count ≤ length full) × (from + length bytes ≤ length other) = (same.here, at.within) in
    record {
      within = omega (arith, here, within, le, length-take (count - from) bytes);
      each = λ k d below.
          let inside : (k < count - from) × (k < length bytes) = (omega (arith, below, length-take (count - from) bytes), omega (arith, below, length-take (count - from) bytes)) in
          get_or-take (count - from) bytes k d inside.0 ∙ at.each k d inside.1 ∙ sym (same.each (from + k) d (omega (arith, inside.0)));
    }

-- all but the first ones
pub without : (full : List ℕ) (from count : ℕ) (bytes : List ℕ) → At full from bytes → count ≤ length bytes → At full (from + count) (drop count bytes)
without full from count bytes at le =
    let within = at.within in
    record {
      within = omega (arith, within, le, length-drop count bytes);
      each = λ k d below.
          get_or-drop count bytes k d ∙ at.each (count + k) d (omega (arith, below, length-drop count bytes)) ∙ ap (λ (n : ℕ). get_or full n d) (omega arith);
    }

-- where so many were received, they are what stands behind the first offset
pub is_back : (full : List ℕ) (first end : ℕ) (bytes : List ℕ) → At full first bytes → end ≡ first + length bytes → bytes ≡ drop first (take end full)
is_back full first end bytes at is =
    let within = at.within in
    same_lists _ _ (omega (arith, length-drop first (take end full), length-take end full, is, within)) (λ k d below.
    at.each k d below ∙ sym (get_or-take end full (first + k) d (omega (arith, is, below))) ∙ sym (get_or-drop first (take end full) k d))

pub of_back : (full : List ℕ) (first end : ℕ) (bytes : List ℕ) → end ≤ length full → end ≡ first + length bytes → bytes ≡ drop first (take end full) → At full first bytes
of_back full first end bytes within is are = record {
  within = omega (arith, within, is);
  each = λ k d below.
      ap (λ (t : List ℕ). get_or t k d) are ∙ get_or-drop first (take end full) k d ∙ get_or-take end full (first + k) d (omega (arith, is, below));
}

-- where another list has all of them
pub all_of : (full other : List ℕ) (count from : ℕ) (bytes : List ℕ) → Same full other count → At other from bytes → from + length bytes ≤ count → At full from bytes
all_of full other count from bytes same at le =
    let here = same.here in
    record {
      within = omega (arith, here, le);
      each = λ k d below. at.each k d below ∙ sym (same.each (from + k) d (omega (arith, below, le)));
    }

-- those before a place, which may be in front of all
pub cut_at : (full other : List ℕ) (place first : ℕ) (bytes : List ℕ) → Same full other place → At other first bytes → At full (min first place) (take (place - first) bytes)
cut_at full other place first bytes same at =
    let here = same.here in
    record {
      within = omega (arith, here, length-take (place - first) bytes);
      each = λ k d below.
          let inside : (k < place - first) × (k < length bytes) = (omega (arith, below, length-take (place - first) bytes), omega (arith, below, length-take (place - first) bytes)) in
          get_or-take (place - first) bytes k d inside.0 ∙ at.each k d inside.1 ∙ sym (same.each (first + k) d (omega (arith, inside.0)))
          ∙ ap (λ (n : ℕ). get_or full n d) (omega (arith, inside.0));
    }

-- those from a place on, which may be behind all
pub from_place : (full : List ℕ) (place from : ℕ) (bytes : List ℕ) → At full from bytes → from ≤ place → place ≤ length full → At full place (drop (place - from) bytes)
from_place full place from bytes at le within =
    let all = at.within in
    record {
      within = omega (arith, all, le, within, length-drop (place - from) bytes);
      each = λ k d below.
          get_or-drop (place - from) bytes k d ∙ at.each (place - from + k) d (omega (arith, below, length-drop (place - from) bytes))
          ∙ ap (λ (n : ℕ). get_or full n d) (omega (arith, le));
    }

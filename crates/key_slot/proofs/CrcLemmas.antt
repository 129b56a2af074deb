-- The CRC16 of a key that goes on for one more byte.
use Rattle.std.proofs.Common.{◌≡◌, refl, sym, ap, ap₂, ◌∙◌, ℕ, ◌+◌, ◌-◌, ◌*◌, ◌/◌, ◌%◌, ◌^◌, ◌<◌, Bool, false, List, [], ◌∷◌, ◌++◌, length, take, drop, replicate, flat_map, bit_xor, arith, append_assoc, length-append, take-append-drop, length-take, length-drop, mul-one, mod-eq_of_lt, subst}
use Rattle.std.proofs.lemmas.Nat.{xor_comm, shr_high, mod_low}
use Rattle.std.proofs.lemmas.Grind.{flat_map-append}
use Rattle.key_slot.specs.Crc16.{added_to_front, after_steps, remainder_of, bits, number_of, crc}
use Rattle.key_slot.proofs.DivisionLemmas.{length-added, added-append, added-behind, added-to_zeros, length-after_steps, after_steps-append, after_steps-behind, after_steps-add}
use Rattle.key_slot.proofs.NumberLemmas.{length-bits, number_of-lt, number_of-append, number_of-added, bits-number_of, number_of-bits}

abbrev zeros : ℕ → List Bool
zeros n = replicate n false

-- a longer dividend is the shorter one with the new bits added behind it
longer : (p b : List Bool) → 8 ≡ length b → (p ++ b) ++ zeros 16 ≡ added_to_front (zeros (length p) ++ b) ((p ++ zeros 16) ++ zeros 8)
longer p b e =
    append_assoc p b (zeros 16)
    ∙ ap (λ s. p ++ s) (ap (λ s. s ++ zeros 16) (sym (added-to_zeros 8 b e)) ∙ sym (added-append b (zeros 8) (zeros 16) (omega arith)))
    ∙ sym (added-behind (length p) p b (zeros 24) refl)
    ∙ ap (λ s. added_to_front (zeros (length p) ++ b) s) (sym (append_assoc p (zeros 16) (zeros 8)))

-- what the steps through p leave of it
through : (p b high low : List Bool) → 8 ≡ length b → 8 ≡ length high → after_steps (length p) (p ++ zeros 16) ≡ high ++ low
    → after_steps (length p) ((p ++ b) ++ zeros 16) ≡ added_to_front b high ++ (low ++ zeros 8)
through p b high low eb eh r =
    ap (after_steps (length p)) (longer p b eb)
    ∙ after_steps-behind (length p) b ((p ++ zeros 16) ++ zeros 8) (omega (arith, length-append (p ++ zeros 16) (zeros 8), length-append p (zeros 16)))
    ∙ ap (λ s. added_to_front b s)
    (after_steps-append (length p) (p ++ zeros 16) (zeros 8) (omega (arith, length-append p (zeros 16))) ∙ ap (λ s. s ++ zeros 8) r ∙ append_assoc high low (zeros 8))
    ∙ added-append b high (low ++ zeros 8) (omega arith)

-- eight more steps
eight : (x low : List Bool) → 8 ≡ length x → 8 ≡ length low → after_steps 8 (x ++ (low ++ zeros 8)) ≡ added_to_front low (after_steps 8 (x ++ zeros 16))
eight x low ex el =
    ap (after_steps 8)
    (ap (λ s. x ++ s) (ap (λ s. s ++ zeros 8) (sym (added-to_zeros 8 low el)) ∙ sym (added-append low (zeros 8) (zeros 8) (omega arith)))
    ∙ sym (added-behind 8 x low (zeros 16) ex))
    ∙ after_steps-behind 8 low (x ++ zeros 16) (omega (arith, length-append x (zeros 16)))

-- as many steps as there are bits before the 16 zeros
remainder_of-as_steps : (p : List Bool) → remainder_of (p ++ zeros 16) ≡ after_steps (length p) (p ++ zeros 16)
remainder_of-as_steps p =
    let count : length (p ++ zeros 16) - 16 ≡ length p = omega (arith, length-append p (zeros 16)) in
    ap (λ k. after_steps k (p ++ zeros 16)) count

-- eight bits more, in numbers
remainder_of-push : (p b high low : List Bool) → 8 ≡ length b → 8 ≡ length high → 8 ≡ length low → remainder_of (p ++ zeros 16) ≡ high ++ low
    → number_of (remainder_of ((p ++ b) ++ zeros 16)) ≡ bit_xor (number_of low * 256) (number_of (remainder_of (added_to_front b high ++ zeros 16)))
remainder_of-push p b high low eb eh el r =
    let x : List Bool = added_to_front b high in
    let ex : 8 ≡ length x = eh ∙ sym (length-added b high) in
    let r' : after_steps (length p) (p ++ zeros 16) ≡ high ++ low = sym (remainder_of-as_steps p) ∙ r in
    let rest : List Bool = after_steps 8 (x ++ zeros 16) in
    let wide : length low + 8 ≡ length rest = omega (arith, length-after_steps 8 (x ++ zeros 16), length-append x (zeros 16)) in
    ap number_of
    (remainder_of-as_steps (p ++ b)
    ∙ ap (λ k. after_steps k ((p ++ b) ++ zeros 16)) (length-append p b ∙ ap (λ (k : ℕ). length p + k) (sym eb))
    ∙ after_steps-add (length p) 8 ((p ++ b) ++ zeros 16)
    ∙ ap (after_steps 8) (through p b high low eb eh r')
    ∙ eight x low ex el)
    ∙ number_of-added 8 low rest wide
    ∙ ap (λ s. bit_xor (number_of low * 256) (number_of s)) (sym (remainder_of-as_steps x ∙ ap (λ k. after_steps k (x ++ zeros 16)) (sym ex)))

-- the byte whose bits are those sums
sum-bits : (b : ℕ) (high : List Bool) → b < 256 → 8 ≡ length high → bits 8 (bit_xor (number_of high) b) ≡ added_to_front (bits 8 b) high
sum-bits b high h eh =
    let x : List Bool = added_to_front (bits 8 b) high in
    let same : number_of x ≡ bit_xor (number_of high) b =
    number_of-added 0 (bits 8 b) high (omega (arith, length-bits 8 b))
    ∙ ap (λ (k : ℕ). bit_xor k (number_of high)) (mul-one (number_of (bits 8 b)) ∙ number_of-bits 8 b ∙ mod-eq_of_lt h)
    ∙ xor_comm b (number_of high) in
    ap (bits 8) (sym same) ∙ ap (λ k. bits k (number_of x)) (eh ∙ sym (length-added (bits 8 b) high)) ∙ bits-number_of x

crc-lt-16 : (key : List ℕ) → 16 ≡ length (remainder_of (flat_map (bits 8) key ++ zeros 16))
crc-lt-16 key =
    let p : List Bool = flat_map (bits 8) key in
    omega (arith, length-after_steps (length (p ++ zeros 16) - 16) (p ++ zeros 16), length-append p (zeros 16))

-- a byte more, as the table's loop takes it
pub crc-push : (key : List ℕ) (b : ℕ) → b < 256 → crc (key ++ b ∷ []) ≡ bit_xor (crc key % 256 * 256) (crc (bit_xor (crc key / 256) b ∷ []))
unfolding crc
crc-push key b h =
    let p : List Bool = flat_map (bits 8) key in
    let r : List Bool = remainder_of (p ++ zeros 16) in
    let high : List Bool = take 8 r in
    let low : List Bool = drop 8 r in
    let er : 16 ≡ length r = crc-lt-16 key in
    let eh : 8 ≡ length high = omega (arith, length-take 8 r) in
    let el : 8 ≡ length low = omega (arith, length-drop 8 r) in
    let whole : r ≡ high ++ low = sym (take-append-drop 8 r) in
    let number : number_of r ≡ number_of high * 2 ^ 8 + number_of low =
    ap number_of whole ∙ number_of-append high low ∙ ap (λ (k : ℕ). number_of high * 2 ^ k + number_of low) (sym el) in
    let small : number_of low < 2 ^ 8 = subst (λ (k : ℕ). number_of low < 2 ^ k) (sym el) (number_of-lt low) in
    let top : number_of r / 256 ≡ number_of high = ap (λ (n : ℕ). n / 2 ^ 8) number ∙ shr_high (number_of high) 8 (number_of low) small in
    let rest : number_of r % 256 ≡ number_of low = ap (λ (n : ℕ). n % 2 ^ 8) number ∙ mod_low (number_of high) 8 (number_of low) small in
    ap (λ s. number_of (remainder_of (s ++ zeros 16))) (flat_map-append (bits 8) key (b ∷ []))
    ∙ remainder_of-push p (bits 8 b) high low refl eh el whole
    ∙ ap₂ bit_xor
    (ap (λ (n : ℕ). n * 256) (sym rest))
    (ap (λ s. number_of (remainder_of (s ++ zeros 16))) (sym (sum-bits b high h eh) ∙ ap (λ n. bits 8 (bit_xor n b)) (sym top)))

-- The bytes that a ring of pages keeps.
use Rattle.std.proofs.Common.{◌≡◌, ℕ, ◌+◌, ◌-◌, ◌≤◌, min, List, ◌++◌, length, take, drop, sym, ap, ◌∙◌, subst, arith, length-drop}
use Rattle.std.proofs.lemmas.List.{append_assoc, take_rest, take-append-drop}
use Rattle.circular_buffer.specs.Buffer.{Buffer, buffer, keep_last}
use Rattle.repl_stream.proofs.KeptLemmas.{keep_last-more, keep_last-take, keep_last-twice, take_front}
use Rattle.repl_stream.specs.Pages.{bytes_in, bytes_of}
use Rattle.repl_stream.specs.declared.pages.Pages.{Pages}

-- what is kept where bytes came
pub ring_filled : (start middle end : Pages) (kept capacity new : ℕ) (more : List ℕ) (ring : Buffer ℕ)
    → buffer (keep_last kept (bytes_of start)) capacity ≡ ring → keep_last kept (bytes_of middle) ≡ keep_last kept (bytes_of start)
    → kept ≤ length (bytes_of middle) → kept ≤ capacity → new ≡ min (kept + length more) capacity
    → end.full ≡ middle.full → end.last.items ≡ middle.last.items ++ more
    → buffer (keep_last new (bytes_of end)) capacity ≡ buffer (keep_last ring.capacity (ring.items ++ more)) ring.capacity
ring_filled start middle end kept capacity new more ring view same there within is full last =
    let bytes : bytes_of end ≡ bytes_of middle ++ more = rw (full, last) (sym (append_assoc (bytes_in middle.full.items) middle.last.items more)) in
    subst (λ (r : Buffer ℕ). buffer (keep_last new (bytes_of end)) capacity ≡ buffer (keep_last r.capacity (r.items ++ more)) r.capacity) view
    (ap (λ (t : List ℕ). buffer t capacity)
    (ap (λ (t : List ℕ). keep_last new t) bytes
    ∙ keep_last-more capacity kept new (bytes_of middle) more there within is
    ∙ ap (λ (t : List ℕ). keep_last capacity (t ++ more)) same))

-- what is kept where the last bytes went
pub ring_cut : (start middle end : Pages) (kept capacity count : ℕ) (ring : Buffer ℕ)
    → buffer (keep_last kept (bytes_of start)) capacity ≡ ring → bytes_of middle ≡ bytes_of start
    → kept ≤ length (bytes_of middle) → count ≤ kept → count ≤ length middle.last.items
    → end.full ≡ middle.full → end.last.items ≡ take (length middle.last.items - count) middle.last.items
    → buffer (keep_last (kept - count) (bytes_of end)) capacity ≡ buffer (take (kept - count) ring.items) ring.capacity
ring_cut start middle end kept capacity count ring view same there most few full last =
    let bytes : bytes_of end ≡ take (length (bytes_of middle) - count) (bytes_of middle) = rw (full, last) (take_front (bytes_in middle.full.items) middle.last.items count few) in
    subst (λ (r : Buffer ℕ). buffer (keep_last (kept - count) (bytes_of end)) capacity ≡ buffer (take (kept - count) r.items) r.capacity) view
    (ap (λ (t : List ℕ). buffer t capacity)
    (ap (λ (t : List ℕ). keep_last (kept - count) t) bytes
    ∙ keep_last-take count kept (bytes_of middle) most there
    ∙ ap (λ (t : List ℕ). take (kept - count) (keep_last kept t)) same))

-- the bytes that are still to come stand behind those that are there
pub still_comes : (count : ℕ) (old new : Buffer ℕ) (rest : List ℕ)
    → new ≡ buffer (keep_last old.capacity (old.items ++ take count rest)) old.capacity
    → keep_last new.capacity (new.items ++ take (length rest - count) (drop count rest)) ≡ keep_last old.capacity (old.items ++ rest)
still_comes count old new rest is =
    ap (λ (r : Buffer ℕ). keep_last r.capacity (r.items ++ take (length rest - count) (drop count rest))) is
    ∙ keep_last-twice old.capacity old.items (take count rest) (take (length rest - count) (drop count rest))
    ∙ ap (λ (t : List ℕ). keep_last old.capacity (old.items ++ t))
    (ap (λ (t : List ℕ). take count rest ++ t) (take_rest rest count) ∙ take-append-drop count rest)

-- there are as many bytes as are kept
pub length_kept : (pages : Pages) (kept capacity : ℕ) (ring : Buffer ℕ) → buffer (keep_last kept (bytes_of pages)) capacity ≡ ring
    → kept ≤ length (bytes_of pages) → length ring.items ≡ kept
length_kept pages kept capacity ring is there =
    sym (ap (λ (r : Buffer ℕ). length r.items) is) ∙ length-drop (length (bytes_of pages) - kept) (bytes_of pages) ∙ omega arith

-- What is put behind a stream that keeps none of it.
use Rattle.std.proofs.Common.{◌≡◌, ◌≤◌, ◌+◌, ◌-◌, ℕ, List, [], ◌++◌, length, drop, length-append, refl, sym, ap, ap₂, ◌∙◌, arith}
use Rattle.std.proofs.lemmas.List.{drop_all}
use Rattle.bus.specs.Stream.{Held, StreamView, Writes, begun, end_of, with_appended}
use Rattle.bus.specs.declared.stream_id.StreamId.{StreamId}

-- all bytes are given up, and the end moves
all_given_up : (bytes : List ℕ) (held : Held) → begun held.id (end_of held + length bytes) ≡ with_appended (length held.bytes + length bytes) bytes held
all_given_up bytes held =
    ap₂ (λ (first : ℕ) (left : List ℕ). record { id = held.id; first = first; bytes = left }) (omega arith)
    (sym (drop_all (length held.bytes + length bytes) (held.bytes ++ bytes) (omega (arith, length-append held.bytes bytes))))

pub passed : (kept : ℕ) (bytes : List ℕ) (old new : StreamView) → kept ≡ 0 → new ≡ record old { held = begun old.held.id (end_of old.held + length bytes); offset = old.offset + length bytes }
    → Writes kept bytes old new
passed kept bytes old new none is = record {
  dropped = length old.held.bytes + length bytes;
  within = omega (arith, none);
  stream = is ∙ ap (λ (held : Held). record old { held = held; offset = old.offset + length bytes }) (all_given_up bytes old.held);
}

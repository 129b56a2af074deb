-- Bytes in pages, of which the last ones are kept.
use Rattle.std.specs.Prelude.{◌≡◌, ℕ, ◌-◌, ◌*◌, ◌≤◌, min, List, ◌++◌, length, vec_capacity, [], ◌∷◌, drop, slice_get, IfSome}
use Rattle.std.specs.List.{All, flat_map}
use Rattle.std.specs.declared.vec.Vec.{Vec}
use Rattle.std.specs.declared.alloc.Global.{Global}
use Rattle.circular_buffer.specs.Buffer.{keep_last, buffer}
use Rattle.repl_stream.specs.declared.pages.TheConstants.{PAGES}
use Rattle.repl_stream.specs.declared.pages.Pages.{Pages}

-- the bytes in pages, one after another
abbrev pub bytes_in : List (Vec ℕ Global) → List ℕ
bytes_in pages = flat_map (λ page. page.items) pages

abbrev pub bytes_of : Pages → List ℕ
bytes_of pages = bytes_in pages.full.items ++ pages.last.items

-- a page has a block of that many bytes, and no more bytes
abbrev pub IsPage : ℕ → Vec ℕ Global → Type 0
IsPage len page = (length page.items ≤ len) × (len ≤ vec_capacity page)

-- That many of the last bytes lie in the pages, and stay there while pages are cleared and filled anew: the n pages before the
-- last one are full, or have all of these bytes that the last one hasn't.
pub record Keeps (pages : Pages) (kept : ℕ) : Type 0 where
  pub count : (length pages.full.items ≡ PAGES) × (pages.full.capacity ≡ PAGES)
  pub each : All (IsPage pages.len) pages.full.items
  pub last : IsPage pages.len pages.last
  pub stays : (n : ℕ) → n ≤ PAGES → min (kept - length pages.last.items) (n * pages.len) ≤ length (bytes_in (keep_last n pages.full.items))
  pub within : kept ≤ length (bytes_of pages)

-- ---- The pages before and after a call.

-- what lay there lies there still
abbrev pub KeepsOn : Pages → Pages → Type 0
KeepsOn old new = (kept : ℕ) → kept ≤ PAGES * old.len → Keeps old kept → Keeps new kept

-- and is the same
abbrev pub KeepsSame : Pages → Pages → Type 0
KeepsSame old new = (kept : ℕ) → kept ≤ PAGES * old.len → Keeps old kept → keep_last kept (bytes_of new) ≡ keep_last kept (bytes_of old)

-- the first page is gone, and the one that was filled stands behind the others
abbrev pub TurnsFull : Pages → Pages → Type 0
TurnsFull old new = new.full ≡ buffer (drop 1 old.full.items ++ old.last ∷ []) old.full.capacity

-- the page that is filled now has the block of the first one
abbrev pub TakesBlock : Pages → Pages → Type 0
TakesBlock old new = IfSome (slice_get old.full.items 0) (λ page. vec_capacity new.last ≡ vec_capacity page)

-- the first page is empty, and has the block of the one that was filled
abbrev pub PutsEmpty : Pages → Pages → Type 0
PutsEmpty old new = IfSome (slice_get new.full.items 0) (λ page. (page.items ≡ []) × (vec_capacity page ≡ vec_capacity old.last))

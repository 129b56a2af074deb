-- The bytes in pages.
use Rattle.std.proofs.Common.{◌≡◌, ℕ, ◌+◌, ◌-◌, ◌<◌, ◌≤◌, List, [], ◌∷◌, ◌++◌, length, take, drop, vec_capacity, Vec, Global, sym, ap, ◌∙◌, subst, arith, length-append}
use Rattle.std.proofs.lemmas.List.{length_push, append-nil, drop-append-le, take_all, take_more}
use Rattle.std.proofs.lemmas.List.Concat.{flat_map-append}
use Rattle.std.proofs.lemmas.List.Elements.{All-push}
use Rattle.std.proofs.lemmas.Option.{get_or_from_slice_get}
use Rattle.std.specs.List.{All}
use Rattle.std.specs.Prelude.{Some, slice_get}
use Rattle.circular_buffer.specs.Buffer.{Buffer, buffer, keep_last}
use Rattle.repl_stream.proofs.KeptLemmas.{keep_last-few, keep_last-split, take-twice}
use Rattle.repl_stream.specs.Pages.{bytes_in, bytes_of, IsPage}
use Rattle.repl_stream.specs.declared.pages.Pages.{Pages}

-- one more empty page
pub one_more_page : (len : ℕ) (old new : Buffer (Vec ℕ Global)) (page : Vec ℕ Global)
    → new ≡ buffer (keep_last old.capacity (old.items ++ page ∷ [])) old.capacity → length old.items < old.capacity
    → All (IsPage len) old.items → page.items ≡ [] → len ≤ vec_capacity page
    → (new.capacity ≡ old.capacity) × (length new.items ≡ length old.items + 1) × All (IsPage len) new.items
one_more_page len old new page is few each empty block =
    let items : new.items ≡ old.items ++ page ∷ [] = ap (λ (b : Buffer (Vec ℕ Global)). b.items) is
    ∙ keep_last-few old.capacity (old.items ++ page ∷ []) (omega (arith, length_push old.items page)) in (
      ap (λ (b : Buffer (Vec ℕ Global)). b.capacity) is,
      ap length items ∙ length_push old.items page,
      subst (λ (pages : List (Vec ℕ Global)). All (IsPage len) pages) (sym items)
          (All-push (IsPage len) old.items page each (rw empty (omega arith), block)),
    )

-- the bytes with those of one page more
pub push : (pages : List (Vec ℕ Global)) (page : Vec ℕ Global) → bytes_in (pages ++ page ∷ []) ≡ bytes_in pages ++ page.items
push pages page = flat_map-append (λ (p : Vec ℕ Global). p.items) pages (page ∷ []) ∙ ap (λ (t : List ℕ). bytes_in pages ++ t) (append-nil page.items)

-- the bytes of the last pages, with one page more behind them
pub length_push_in : (pages : List (Vec ℕ Global)) (page : Vec ℕ Global) (n : ℕ) → n ≤ length pages
    → length (bytes_in (drop n (pages ++ page ∷ []))) ≡ length (bytes_in (drop n pages)) + length page.items
length_push_in pages page n there =
    ap (λ (t : List (Vec ℕ Global)). length (bytes_in t)) (drop-append-le n pages (page ∷ []) there)
    ∙ ap (λ (t : List ℕ). length t) (push (drop n pages) page)
    ∙ length-append (bytes_in (drop n pages)) page.items

-- a part of two runs, of which the second is put behind the first
parted : (most last n : ℕ) (old middle new front slice page : List ℕ) → n ≡ last - length page → slice ≡ page
    → middle ≡ take most (old ++ keep_last n front) → new ≡ take most (middle ++ keep_last last slice)
    → new ≡ take most (old ++ keep_last last (front ++ page))
parted most last n old middle new front slice page before same first second =
    second
    ∙ ap (λ (t : List ℕ). take most (t ++ keep_last last slice)) first
    ∙ take-twice most old (keep_last n front) (keep_last last slice)
    ∙ ap (λ (t : List ℕ). take most (old ++ t))
    (ap (λ (k : ℕ). keep_last k front ++ keep_last last slice) before
    ∙ ap (λ (t : List ℕ). keep_last (last - length page) front ++ keep_last last t) same
    ∙ sym (keep_last-split last front page))

-- the first pages with the last of them apart
last_page : (pages : List (Vec ℕ Global)) (count : ℕ) (page : Vec ℕ Global) → 0 < count → count ≤ length pages → slice_get pages (count - 1) ≡ Some page
    → bytes_in (take count pages) ≡ bytes_in (take (count - 1) pages) ++ page.items
last_page pages count page some there is =
    let one : count ≡ count - 1 + 1 = omega arith in
    ap (λ (k : ℕ). bytes_in (take k pages)) one
    ∙ ap (λ (t : List (Vec ℕ Global)). bytes_in t) (take_more pages (count - 1) page (omega arith))
    ∙ ap (λ (p : Vec ℕ Global). bytes_in (take (count - 1) pages ++ p ∷ [])) (get_or_from_slice_get pages (count - 1) page page is)
    ∙ push (take (count - 1) pages) page

-- with one page more
pub parted_more : (most last n count : ℕ) (old middle new slice : List ℕ) (pages : List (Vec ℕ Global)) (page : Vec ℕ Global)
    → 0 < count → count ≤ length pages → slice_get pages (count - 1) ≡ Some page
    → n ≡ last - length page.items → slice ≡ page.items
    → middle ≡ take most (old ++ keep_last n (bytes_in (take (count - 1) pages))) → new ≡ take most (middle ++ keep_last last slice)
    → new ≡ take most (old ++ keep_last last (bytes_in (take count pages)))
parted_more most last n count old middle new slice pages page some there is before same first second =
    parted most last n old middle new (bytes_in (take (count - 1) pages)) slice page.items before same first second
    ∙ ap (λ (t : List ℕ). take most (old ++ keep_last last t)) (sym (last_page pages count page some there is))

-- with the last page, where there was nothing before
pub parted_whole : (most last n : ℕ) (pages : Pages) (old middle new slice string : List ℕ) → length pages.full.items ≡ 8 → old ≡ []
    → n ≡ last - length pages.last.items → slice ≡ pages.last.items
    → middle ≡ take most (old ++ keep_last n (bytes_in (take 8 pages.full.items))) → new ≡ take most (middle ++ keep_last last slice)
    → string ≡ new
    → string ≡ take most (keep_last last (bytes_of pages))
parted_whole most last n pages old middle new slice string eight none before same first second all =
    all ∙ parted most last n old middle new (bytes_in pages.full.items) slice pages.last.items before same
    (first ∙ ap (λ (t : List (Vec ℕ Global)). take most (old ++ keep_last n (bytes_in t))) (take_all 8 pages.full.items (omega arith))) second
    ∙ ap (λ (t : List ℕ). take most (t ++ keep_last last (bytes_of pages))) none

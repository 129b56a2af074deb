-- What pages keep while they are filled, cut and turned.
use Rattle.std.proofs.Common.{◌≡◌, ℕ, ◌+◌, ◌-◌, ◌*◌, ◌<◌, ◌≤◌, min, List, [], ◌∷◌, ◌++◌, length, take, drop, vec_capacity, Vec, Global, zero, suc, ◌⊎◌, inl, inr, refl, sym, ap, ◌∙◌, subst, arith, length-append, length-take}
use Rattle.std.proofs.lemmas.List.{length_push, append-nil, append_assoc, drop_all, take_all, take_more}
use Rattle.std.proofs.lemmas.List.Elements.{All-push, All-head, All-tail, All-cons, All-take, All-get_or}
use Rattle.std.proofs.lemmas.Option.{slice_get_within, get_or_from_slice_get}
use Rattle.std.proofs.lemmas.Bool.{cases_lt}
use Rattle.std.specs.List.{All}
use Rattle.std.specs.Prelude.{IfSome, Some, slice_get}
use Rattle.circular_buffer.specs.Buffer.{Buffer, buffer, keep_last, last_item}
use Rattle.repl_stream.proofs.KeptLemmas.{keep_last-behind}
use Rattle.repl_stream.proofs.PageLemmas.{length_push_in, push}
use Rattle.repl_stream.specs.Pages.{bytes_in, bytes_of, IsPage, Keeps}
use Rattle.repl_stream.specs.declared.pages.Pages.{Pages}

-- with bytes in the last page
pub filled : (old new : Pages) (kept more count : ℕ) → Keeps old kept → new.full ≡ old.full → new.len ≡ old.len
    → vec_capacity old.last ≤ vec_capacity new.last → length new.last.items ≡ length old.last.items + count
    → length new.last.items ≤ old.len → more ≤ kept + count → Keeps new more
filled old new kept more count keeps full len block bytes fits few =
    let each : All (IsPage new.len) new.full.items = rw (len, full) keeps.each in
    record {
      count = rw full keeps.count;
      each = each;
      last = (omega arith, omega (arith, keeps.last.1));
      stays = λ n most. rw (full, len) (omega (arith, keeps.stays n most));
      within = rw full (omega (arith, keeps.within, length-append (bytes_in old.full.items) old.last.items, length-append (bytes_in old.full.items) new.last.items));
    }

-- without bytes at the end of the last page
pub cut : (old new : Pages) (kept count : ℕ) → Keeps old kept → count ≤ length old.last.items → count ≤ kept
    → new.full ≡ old.full → new.len ≡ old.len → vec_capacity new.last ≡ vec_capacity old.last
    → new.last.items ≡ take (length old.last.items - count) old.last.items → Keeps new (kept - count)
cut old new kept count keeps there most full len block items =
    let fewer : length new.last.items ≡ length old.last.items - count
    = ap (λ (t : List ℕ). length t) items ∙ length-take (length old.last.items - count) old.last.items ∙ omega arith in
    let each : All (IsPage new.len) new.full.items = rw (len, full) keeps.each in
    record {
      count = rw full keeps.count;
      each = each;
      last = (omega (arith, keeps.last.0), omega (arith, keeps.last.1));
      stays = λ n few. rw (full, len) (omega (arith, keeps.stays n few));
      within = rw full (omega (arith, keeps.within, length-append (bytes_in old.full.items) old.last.items, length-append (bytes_in old.full.items) new.last.items));
    }

-- a list that has an item has a first one
some_first : {X : Type 0} (xs : List X) → 0 < length xs → (x : X) × ((rest : List X) × (xs ≡ x ∷ rest))
some_first [] some = absurd (omega arith)
some_first (x ∷ xs) some = (x, (xs, refl))

-- the last pages, counted from the first of eight
stays_of : (pages : Pages) (kept : ℕ) → Keeps pages kept → (n : ℕ) → n ≤ 8
    → min (kept - length pages.last.items) (n * pages.len) ≤ length (bytes_in (drop (8 - n) pages.full.items))
stays_of pages kept keeps n most =
    subst (λ (k : ℕ). min (kept - length pages.last.items) (n * pages.len) ≤ length (bytes_in (drop (k - n) pages.full.items))) keeps.count.0 (keeps.stays n most)

-- the same the other way round
as_last : (pages : Pages) (bound n : ℕ) → length pages.full.items ≡ 8 → bound ≤ length (bytes_in (drop (8 - n) pages.full.items))
    → bound ≤ length (bytes_in (keep_last n pages.full.items))
as_last pages bound n eight within = subst (λ (k : ℕ). bound ≤ length (bytes_in (drop (k - n) pages.full.items))) (sym eight) within

-- what the last pages have, where the first one has gone and a full one has come
turned_stays : (first : Vec ℕ Global) (others : List (Vec ℕ Global)) (last : Vec ℕ Global) (len kept : ℕ) → length others ≡ 7 → length last.items ≡ len
    → ((m : ℕ) → m ≤ 8 → min (kept - length last.items) (m * len) ≤ length (bytes_in (drop (8 - m) (first ∷ others))))
    → (n : ℕ) → n ≤ 8 → min kept (n * len) ≤ length (bytes_in (drop (8 - n) (others ++ last ∷ [])))
turned_stays first others last len kept seven full stays zero most = omega arith
turned_stays first others last len kept seven full stays (suc m) most =
    let one : 8 - m ≡ suc (7 - m) = omega arith in
    let two : 8 - suc m ≡ 7 - m = omega arith in
    let there : 7 - m ≤ length others = omega arith in
    let before = ap (λ (k : ℕ). length (bytes_in (drop k (first ∷ others)))) one in
    let after = ap (λ (k : ℕ). length (bytes_in (drop k (others ++ last ∷ [])))) two ∙ length_push_in others last (7 - m) there in
    omega (arith, stays m (omega arith), before, after)

-- what stands behind the first page
turned_bytes : (first : Vec ℕ Global) (others : List (Vec ℕ Global)) (last : Vec ℕ Global) (kept : ℕ)
    → kept ≤ length (bytes_in (others ++ last ∷ []))
    → keep_last kept (bytes_in (others ++ last ∷ []) ++ []) ≡ keep_last kept (bytes_in (first ∷ others) ++ last.items)
turned_bytes first others last kept there =
    let pushed = push others last in
    ap (λ (t : List ℕ). keep_last kept t) (append-nil (bytes_in (others ++ last ∷ [])) ∙ pushed)
    ∙ sym (ap (λ (t : List ℕ). keep_last kept t) (append_assoc first.items (bytes_in others) last.items)
    ∙ keep_last-behind kept first.items (bytes_in others ++ last.items) (omega (arith, there, ap (λ (t : List ℕ). length t) pushed)))

-- the same of pages of which the first is named
turned_from : (old new : Pages) (kept : ℕ) (first : Vec ℕ Global) (others : List (Vec ℕ Global)) → old.full.items ≡ first ∷ others
    → Keeps old kept → kept ≤ 8 * old.len → old.len ≤ length old.last.items
    → new.full ≡ buffer (drop 1 old.full.items ++ old.last ∷ []) old.full.capacity → new.last.items ≡ []
    → IfSome (slice_get old.full.items 0) (λ page. vec_capacity new.last ≡ vec_capacity page) → new.len ≡ old.len
    → Keeps new kept × (keep_last kept (bytes_of new) ≡ keep_last kept (bytes_of old))
turned_from old new kept first others is keeps few fills full empty block len =
    let eight : length (first ∷ others) ≡ 8 = rw is at keeps.count.0 in
    let each : All (IsPage old.len) (first ∷ others) = rw is at keeps.each in
    let is_full : length old.last.items ≡ old.len = omega (arith, keeps.last.0) in
    let items : new.full.items ≡ others ++ old.last ∷ [] = ap (λ (b : Buffer (Vec ℕ Global)). b.items) full ∙ ap (λ (t : List (Vec ℕ Global)). drop 1 t ++ old.last ∷ []) is in
    let still_eight : length new.full.items ≡ 8 = ap (λ (t : List (Vec ℕ Global)). length t) items ∙ (length_push others old.last ∙ omega arith) in
    let stays = turned_stays first others old.last old.len kept (omega arith) is_full
    (λ m most. subst (λ (t : List (Vec ℕ Global)). min (kept - length old.last.items) (m * old.len) ≤ length (bytes_in (drop (8 - m) t))) is (stays_of old kept keeps m most)) in
    let there : kept ≤ length (bytes_in (others ++ old.last ∷ [])) = omega (arith, stays 8 (omega arith)) in
    let capacity : vec_capacity new.last ≡ vec_capacity first = subst (λ (t : List (Vec ℕ Global)). IfSome (slice_get t 0) (λ page. vec_capacity new.last ≡ vec_capacity page)) is block in (
      record {
        count = (still_eight, ap (λ (b : Buffer (Vec ℕ Global)). b.capacity) full ∙ keeps.count.1);
        each = rw (items, len) (All-push (IsPage old.len) others old.last (All-tail (IsPage old.len) first others each) keeps.last);
        last = (rw empty (omega arith), omega (arith, capacity, (All-head (IsPage old.len) first others each).1));
        stays = λ n most. as_last new (min (kept - length new.last.items) (n * new.len)) n still_eight (rw (empty, items, len) (omega (arith, stays n most)));
        within = rw (empty, items) (omega (arith, there, length-append (bytes_in (others ++ old.last ∷ [])) []));
      },
      rw (empty, items, is) (turned_bytes first others old.last kept there),
    )

-- a page that turns takes no byte with it that is kept
pub turned : (old new : Pages) (kept : ℕ) → Keeps old kept → kept ≤ 8 * old.len → old.len ≤ length old.last.items
    → new.full ≡ buffer (drop 1 old.full.items ++ old.last ∷ []) old.full.capacity → new.last.items ≡ []
    → IfSome (slice_get old.full.items 0) (λ page. vec_capacity new.last ≡ vec_capacity page) → new.len ≡ old.len
    → Keeps new kept × (keep_last kept (bytes_of new) ≡ keep_last kept (bytes_of old))
turned old new kept keeps =
    let found = some_first old.full.items (omega (arith, keeps.count.0)) in
    turned_from old new kept found.0 found.1.0 found.1.1 keeps

-- a list that has a last item is those before it, and it
some_last : {X : Type 0} (xs : List X) (x : X) → last_item xs ≡ Some x → xs ≡ take (length xs - 1) xs ++ x ∷ []
some_last xs x is =
    let within = slice_get_within xs (length xs - 1) x is in
    sym (take_all (length xs - 1 + 1) xs (omega arith)) ∙ take_more xs (length xs - 1) x within
    ∙ ap (λ y. take (length xs - 1) xs ++ y ∷ []) (get_or_from_slice_get xs (length xs - 1) x x is)

-- the page before an empty one has bytes, if any are kept
pub has_bytes : (pages : Pages) (kept : ℕ) (last : Vec ℕ Global) → 0 < kept → 0 < pages.len → Keeps pages kept → pages.last.items ≡ []
    → last_item pages.full.items ≡ Some last → 0 < length last.items
has_bytes pages kept last some room keeps bare is =
    let front : List (Vec ℕ Global) = take (length pages.full.items - 1) pages.full.items in
    let seven : length front ≡ 7 = length-take (length pages.full.items - 1) pages.full.items ∙ omega (arith, keeps.count.0) in
    let alone = ap (λ (t : List (Vec ℕ Global)). length (bytes_in (drop 7 t))) (some_last pages.full.items last is) ∙ length_push_in front last 7 (omega arith) in
    let nothing : length (bytes_in (drop 7 front)) ≡ 0 = ap (λ (t : List (Vec ℕ Global)). length (bytes_in t)) (drop_all 7 front (omega arith)) in
    omega (arith, stays_of pages kept keeps 1 (omega arith), alone, nothing, ap (λ (t : List ℕ). length t) bare)

-- what the last pages have, where an empty one has come in front and the last one has been taken
back_stays : (empty : Vec ℕ Global) (others : List (Vec ℕ Global)) (last : Vec ℕ Global) (len kept : ℕ) → length others ≡ 7 → length last.items ≤ len
    → kept ≤ length (bytes_in (others ++ last ∷ []))
    → ((m : ℕ) → m ≤ 8 → min kept (m * len) ≤ length (bytes_in (drop (8 - m) (others ++ last ∷ []))))
    → (n : ℕ) → n ≤ 8 → min (kept - length last.items) (n * len) ≤ length (bytes_in (drop (8 - n) (empty ∷ others)))
back_stays empty others last len kept seven fits within stays n most =
    let split : (n < 8) ⊎ (8 ≤ n) = cases_lt n 8 in
    elim split [
      | inl below ↦
          (let one : 8 - n ≡ suc (7 - n) = omega arith in
          let two : 8 - (n + 1) ≡ 7 - n = omega arith in
          let there : 7 - n ≤ length others = omega arith in
          let before = ap (λ (k : ℕ). length (bytes_in (drop k (empty ∷ others)))) one in
          let after = ap (λ (k : ℕ). length (bytes_in (drop k (others ++ last ∷ [])))) two ∙ length_push_in others last (7 - n) there in
          omega (arith, stays (n + 1) (omega arith), before, after))
      | inr all ↦
          (let one : 8 - n ≡ 0 = omega arith in
          let before = ap (λ (k : ℕ). length (bytes_in (drop k (empty ∷ others)))) one ∙ length-append empty.items (bytes_in others) in
          let pushed = ap (λ (t : List ℕ). length t) (push others last) ∙ length-append (bytes_in others) last.items in
          omega (arith, before, pushed, within))
    ]

-- the same bytes lie in the pages, one of which is empty
same_back : (old new : Pages) (empty : Vec ℕ Global) (others : List (Vec ℕ Global)) → new.full.items ≡ empty ∷ others → empty.items ≡ []
    → old.full.items ≡ others ++ new.last ∷ [] → old.last.items ≡ [] → bytes_of new ≡ bytes_of old
same_back old new empty others is none was bare =
    rw (is, was, bare, none, append-nil) (sym (push others new.last))

-- a page that is taken back takes no byte with it
pub same_turned_back : (old new : Pages) → old.last.items ≡ [] → last_item old.full.items ≡ Some new.last
    → IfSome (slice_get new.full.items 0) (λ page. (page.items ≡ []) × (vec_capacity page ≡ vec_capacity old.last))
    → drop 1 new.full.items ≡ take (length old.full.items - 1) old.full.items → 0 < length new.full.items → bytes_of new ≡ bytes_of old
same_turned_back old new bare last block rest some =
    let found = some_first new.full.items some in
    let is = found.1.1 in
    let none = (subst (λ (t : List (Vec ℕ Global)). IfSome (slice_get t 0) (λ page. (page.items ≡ []) × (vec_capacity page ≡ vec_capacity old.last))) is block).0 in
    let front = ap (λ (t : List (Vec ℕ Global)). drop 1 t) (sym is) ∙ rest in
    same_back old new found.0 found.1.0 is none
    (some_last old.full.items new.last last ∙ ap (λ (t : List (Vec ℕ Global)). t ++ new.last ∷ []) (sym front)) bare

-- the same of pages of which the first is named
turned_back_from : (old new : Pages) (kept : ℕ) (empty : Vec ℕ Global) (others : List (Vec ℕ Global)) → new.full.items ≡ empty ∷ others
    → Keeps old kept → old.last.items ≡ [] → last_item old.full.items ≡ Some new.last
    → IfSome (slice_get new.full.items 0) (λ page. (page.items ≡ []) × (vec_capacity page ≡ vec_capacity old.last))
    → drop 1 new.full.items ≡ take (length old.full.items - 1) old.full.items → length new.full.items ≡ length old.full.items
    → new.full.capacity ≡ old.full.capacity → new.len ≡ old.len
    → Keeps new kept
turned_back_from old new kept empty others is keeps bare last block rest count capacity len =
    let first : (empty.items ≡ []) × (vec_capacity empty ≡ vec_capacity old.last)
    = subst (λ (t : List (Vec ℕ Global)). IfSome (slice_get t 0) (λ page. (page.items ≡ []) × (vec_capacity page ≡ vec_capacity old.last))) is block in
    let front : others ≡ take (length old.full.items - 1) old.full.items = ap (λ (t : List (Vec ℕ Global)). drop 1 t) (sym is) ∙ rest in
    let was : old.full.items ≡ others ++ new.last ∷ [] = some_last old.full.items new.last last ∙ ap (λ (t : List (Vec ℕ Global)). t ++ new.last ∷ []) (sym front) in
    let seven : length others ≡ 7 = omega (arith, ap (λ (t : List (Vec ℕ Global)). length t) was, length_push others new.last, keeps.count.0) in
    let each : All (IsPage old.len) others = subst (λ (t : List (Vec ℕ Global)). All (IsPage old.len) t) (sym front) (All-take (IsPage old.len) (length old.full.items - 1) old.full.items keeps.each) in
    let page : IsPage old.len new.last = subst (IsPage old.len) (get_or_from_slice_get old.full.items (length old.full.items - 1) new.last new.last last)
    (All-get_or (IsPage old.len) old.full.items (length old.full.items - 1) new.last (omega (arith, keeps.count.0)) keeps.each) in
    let same = same_back old new empty others is first.0 was bare in
    let no_more = ap (λ (t : List ℕ). length t) bare in
    let within : kept ≤ length (bytes_in (others ++ new.last ∷ [])) = subst (λ (t : List (Vec ℕ Global)). kept ≤ length (bytes_in t)) was
    (omega (arith, keeps.within, no_more, length-append (bytes_in old.full.items) old.last.items)) in
    let stays = back_stays empty others new.last old.len kept seven page.0 within
    (λ m most. subst (λ (t : List (Vec ℕ Global)). min kept (m * old.len) ≤ length (bytes_in (drop (8 - m) t))) was (omega (arith, stays_of old kept keeps m most, no_more))) in
    record {
      count = (count ∙ keeps.count.0, capacity ∙ keeps.count.1);
      each = rw (is, len) (All-cons (IsPage old.len) empty others (rw first.0 (omega arith), omega (arith, first.1, keeps.last.1)) each);
      last = rw len page;
      stays = λ n most. as_last new (min (kept - length new.last.items) (n * new.len)) n (count ∙ keeps.count.0) (rw (is, len) (stays n most));
      within = rw same keeps.within;
    }

-- what was kept is kept where a page is taken back
pub turned_back : (old new : Pages) (kept : ℕ) → Keeps old kept → old.last.items ≡ [] → last_item old.full.items ≡ Some new.last
    → IfSome (slice_get new.full.items 0) (λ page. (page.items ≡ []) × (vec_capacity page ≡ vec_capacity old.last))
    → drop 1 new.full.items ≡ take (length old.full.items - 1) old.full.items → length new.full.items ≡ length old.full.items
    → new.full.capacity ≡ old.full.capacity → new.len ≡ old.len
    → Keeps new kept
turned_back old new kept keeps bare last block rest count =
    let found = some_first new.full.items (omega (arith, count, keeps.count.0)) in
    turned_back_from old new kept found.0 found.1.0 found.1.1 keeps bare last block rest count

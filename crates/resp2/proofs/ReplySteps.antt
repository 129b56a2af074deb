-- The steps of a reader of replies: what the elements that were taken say of those to come.
use Rattle.std.proofs.Common.{◌≡◌, ℕ, zero, suc, ◌+◌, ◌-◌, ◌<◌, ◌==◌, true, false, List, [], ◌∷◌, ◌++◌, length, refl, sym, ap, subst, ◌∙◌, append_assoc, append-nil, arith}
use Rattle.std.specs.List.{flat_map}
use Rattle.std.proofs.lemmas.Bool.{eqb-true}
use Rattle.std.proofs.lemmas.List.{length-append}
use Rattle.resp_values.specs.declared.array.Element.{Element}
use Rattle.resp_values.specs.declared.array.Element.TheVariants as element
use Rattle.resp_header.specs.declared.fault.Fault.TheVariants.{Protocol}
use Rattle.resp2.specs.declared.reply_reader.TheConstants.{MOST_DEPTH}
use Rattle.resp_header.specs.Reading.{Seen, Wants, Bad, Found, and_then, number_at, header_at}
use Rattle.resp2.specs.ReplyReading.{as_found, times, leaf_at, reply_at, most_number}
use Rattle.resp2.specs.ReplyProgress.{begins_array, backwards, rest_in, to_come}

-- ---- one reading behind another

abbrev pub joined : List (List Element) → List Element
joined parts = flat_map (λ part. part) parts

-- these elements, and then the others
abbrev pub behind : List Element → Seen (List Element) → Seen (List Element)
behind elements seen = as_found (λ others. elements ++ others) seen

pub behind_none : (seen : Seen (List Element)) → behind [] seen ≡ seen
behind_none Wants = refl
behind_none (Bad fault) = refl
behind_none (Found others rest) = refl

pub behind_both : (elements others : List Element) (seen : Seen (List Element)) → behind elements (behind others seen) ≡ behind (elements ++ others) seen
behind_both elements others Wants = refl
behind_both elements others (Bad fault) = refl
behind_both elements others (Found last rest) = ap (λ (all : List Element). Found all rest) (sym (append_assoc elements others last))

-- ---- one reply more

module _ (depth : ℕ) (ns : List ℕ) where
  -- what comes behind so many replies
  abbrev after : List (List Element) → List ℕ → Seen (List Element)
  after parts rest = behind (joined parts) (rest_in (suc depth) ns rest)

  one_first : (elements : List Element) (seen : Seen (List (List Element)))
      → and_then (as_found (λ parts. elements ∷ parts) seen) after ≡ behind elements (and_then seen after)
  one_first elements Wants = refl
  one_first elements (Bad fault) = refl
  one_first elements (Found parts rest) = sym (behind_both elements (joined parts) (rest_in (suc depth) ns rest))

  one_seen : (m : ℕ) (seen : Seen (List Element))
      → and_then (and_then seen (λ elements rest. as_found (λ parts. elements ∷ parts) (times (reply_at depth) m rest))) after
      ≡ and_then seen (λ elements rest. behind elements (rest_in depth (m ∷ ns) rest))
  one_seen m Wants = refl
  one_seen m (Bad fault) = refl
  one_seen m (Found elements rest) = one_first elements (times (reply_at depth) m rest)

  -- of replies to come, the first is read
  pub one_more : (m : ℕ) (bytes : List ℕ) → rest_in depth (suc m ∷ ns) bytes ≡ and_then (reply_at depth bytes) (λ elements rest. behind elements (rest_in depth (m ∷ ns) rest))
  one_more m bytes = one_seen m (reply_at depth bytes)

  -- no reply is to come in this array
  pub array_ends : (bytes : List ℕ) → rest_in depth (0 ∷ ns) bytes ≡ rest_in (suc depth) ns bytes
  array_ends bytes = behind_none (rest_in (suc depth) ns bytes)

-- ---- elements

bytes_of_array : (b : ℕ) (bs : List ℕ) → b == 42 ≡ true → leaf_at (b ∷ bs) ≡ Bad Protocol
bytes_of_array b bs is = ap (λ (c : ℕ). leaf_at (c ∷ bs)) (eqb-true b 42 is)

-- a reply that doesn't begin as an array is none
pub reads_leaf : (depth : ℕ) (bytes : List ℕ) → begins_array bytes ≡ false → reply_at depth bytes ≡ leaf_at bytes
reads_leaf zero bytes is = refl
reads_leaf (suc depth) [] is = refl
reads_leaf (suc depth) (b ∷ bs) is = rw is refl

-- one that does is an array, where one may still nest
pub reads_array : (depth : ℕ) (bytes : List ℕ) → begins_array bytes ≡ true
    → reply_at (suc depth) bytes ≡ and_then (header_at 42 Protocol 0 most_number bytes) (λ n rest. behind (element.Array n ∷ []) (as_found joined (times (reply_at depth) n rest)))
reads_array depth [] is = absurd cc
reads_array depth (b ∷ bs) is = rw is (by_count (number_at Protocol 0 most_number bs))
  where
    by_parts : (n : ℕ) (seen : Seen (List (List Element))) → as_found (λ parts. element.Array n ∷ joined parts) seen ≡ behind (element.Array n ∷ []) (as_found joined seen)
    by_parts n Wants = refl
    by_parts n (Bad fault) = refl
    by_parts n (Found parts rest) = refl

    by_count : (seen : Seen ℕ)
        → and_then seen (λ n rest. as_found (λ parts. element.Array n ∷ joined parts) (times (reply_at depth) n rest))
        ≡ and_then seen (λ n rest. behind (element.Array n ∷ []) (as_found joined (times (reply_at depth) n rest)))
    by_count Wants = refl
    by_count (Bad fault) = refl
    by_count (Found n rest) = by_parts n (times (reply_at depth) n rest)

-- where none may, its mark is bad
pub too_deep : (bytes : List ℕ) → begins_array bytes ≡ true → reply_at 0 bytes ≡ Bad Protocol
too_deep [] is = absurd cc
too_deep (b ∷ bs) is = bytes_of_array b bs is

-- ---- what is to come

abbrev pub most_inner : ℕ
most_inner = MOST_DEPTH - 1

-- the next element is no array
pub leaf_next : (left : ℕ) (outer : List ℕ) (bytes : List ℕ) (seen : Seen (List Element)) → 0 < left → begins_array bytes ≡ false → leaf_at bytes ≡ seen
    → to_come left outer bytes ≡ and_then seen (λ elements rest. behind elements (to_come (left - 1) outer rest))
leaf_next zero outer bytes seen some is read = absurd (omega arith)
leaf_next (suc left) outer bytes seen some is read =
    let depth : ℕ = most_inner - length outer in
    let less : left ≡ suc left - 1 = omega arith in
    subst (λ (k : ℕ). to_come (suc left) outer bytes ≡ and_then seen (λ elements rest. behind elements (to_come k outer rest))) less
    (one_more depth (backwards outer) left bytes
    ∙ ap (λ (s : Seen (List Element)). and_then s (λ elements rest. behind elements (rest_in depth (left ∷ backwards outer) rest))) (reads_leaf depth bytes is ∙ read))

backwards-push : (ns : List ℕ) (n : ℕ) → backwards (ns ++ n ∷ []) ≡ n ∷ backwards ns
backwards-push [] n = refl
backwards-push (m ∷ ns) n = ap (λ (t : List ℕ). t ++ m ∷ []) (backwards-push ns n)

-- the next element is the header of an array
inner_first : (depth n m : ℕ) (ns : List ℕ) (seen : Seen (List (List Element)))
    → and_then (behind (element.Array n ∷ []) (as_found joined seen)) (λ elements rest. behind elements (rest_in (suc depth) (m ∷ ns) rest))
    ≡ behind (element.Array n ∷ []) (and_then seen (after depth (m ∷ ns)))
inner_first depth n m ns Wants = refl
inner_first depth n m ns (Bad fault) = refl
inner_first depth n m ns (Found parts rest) = sym (behind_both (element.Array n ∷ []) (joined parts) (rest_in (suc depth) (m ∷ ns) rest))

array_in : (depth m : ℕ) (ns bytes : List ℕ) → begins_array bytes ≡ true
    → rest_in (suc depth) (suc m ∷ ns) bytes ≡ and_then (header_at 42 Protocol 0 most_number bytes) (λ n rest. behind (element.Array n ∷ []) (rest_in depth (n ∷ m ∷ ns) rest))
array_in depth m ns bytes is =
    one_more (suc depth) ns m bytes
    ∙ ap (λ (s : Seen (List Element)). and_then s (λ elements rest. behind elements (rest_in (suc depth) (m ∷ ns) rest))) (reads_array depth bytes is)
    ∙ by_header (header_at 42 Protocol 0 most_number bytes)
  where
    by_header : (seen : Seen ℕ)
        → and_then (and_then seen (λ n rest. behind (element.Array n ∷ []) (as_found joined (times (reply_at depth) n rest)))) (λ elements rest. behind elements (rest_in (suc depth) (m ∷ ns) rest))
        ≡ and_then seen (λ n rest. behind (element.Array n ∷ []) (rest_in depth (n ∷ m ∷ ns) rest))
    by_header Wants = refl
    by_header (Bad fault) = refl
    by_header (Found n rest) = inner_first depth n m ns (times (reply_at depth) n rest)

pub array_next : (left : ℕ) (outer : List ℕ) (bytes : List ℕ) → 0 < left → length outer + 1 < MOST_DEPTH → begins_array bytes ≡ true
    → to_come left outer bytes ≡ and_then (header_at 42 Protocol 0 most_number bytes) (λ n rest. behind (element.Array n ∷ []) (to_come n (outer ++ (left - 1) ∷ []) rest))
array_next zero outer bytes some shallow is = absurd (omega arith)
array_next (suc left) outer bytes some shallow is =
    let grown : List ℕ = outer ++ left ∷ [] in
    let long : length grown ≡ length outer + 1 = length-append outer (left ∷ []) in
    let depth : ℕ = most_inner - length grown in
    let deeper : most_inner - length outer ≡ suc depth = omega (arith, long) in
    let less : left ≡ suc left - 1 = omega arith in
    subst (λ (k : ℕ). to_come (suc left) outer bytes ≡ and_then (header_at 42 Protocol 0 most_number bytes) (λ n rest. behind (element.Array n ∷ []) (to_come n (outer ++ k ∷ []) rest))) less
    (ap (λ (d : ℕ). rest_in d (suc left ∷ backwards outer) bytes) deeper
    ∙ array_in depth left (backwards outer) bytes is
    ∙ ap (λ (ns : List ℕ). and_then (header_at 42 Protocol 0 most_number bytes) (λ n rest. behind (element.Array n ∷ []) (rest_in depth (n ∷ ns) rest))) (sym (backwards-push outer left)))

-- the next element may be no array, and is one
pub deep_next : (left : ℕ) (outer : List ℕ) (bytes : List ℕ) → 0 < left → length outer + 1 ≡ MOST_DEPTH → begins_array bytes ≡ true → to_come left outer bytes ≡ Bad Protocol
deep_next zero outer bytes some deep is = absurd (omega arith)
deep_next (suc left) outer bytes some deep is =
    let none : most_inner - length outer ≡ 0 = omega (arith, deep) in
    ap (λ (d : ℕ). rest_in d (suc left ∷ backwards outer) bytes) none
    ∙ one_more 0 (backwards outer) left bytes
    ∙ ap (λ (s : Seen (List Element)). and_then s (λ elements rest. behind elements (rest_in 0 (left ∷ backwards outer) rest))) (too_deep bytes is)

-- an array ends, and the one around it goes on
pub array_over : (outer : List ℕ) (left : ℕ) (bytes : List ℕ) → length (outer ++ left ∷ []) < MOST_DEPTH → to_come 0 (outer ++ left ∷ []) bytes ≡ to_come left outer bytes
array_over outer left bytes shallow =
    let grown : List ℕ = outer ++ left ∷ [] in
    let long : length grown ≡ length outer + 1 = length-append outer (left ∷ []) in
    let deeper : suc (most_inner - length grown) ≡ most_inner - length outer = omega (arith, long) in
    array_ends (most_inner - length grown) (backwards grown) bytes
    ∙ ap (λ (ns : List ℕ). rest_in (suc (most_inner - length grown)) ns bytes) (backwards-push outer left)
    ∙ ap (λ (d : ℕ). rest_in d (left ∷ backwards outer) bytes) deeper

-- all arrays ended
pub all_over : (bytes : List ℕ) → to_come 0 [] bytes ≡ Found [] bytes
all_over bytes = refl

-- the reply is an array, and its header is read
pub array_begins : (bytes : List ℕ) → begins_array bytes ≡ true
    → reply_at MOST_DEPTH bytes ≡ and_then (header_at 42 Protocol 0 most_number bytes) (λ n rest. behind (element.Array n ∷ []) (to_come n [] rest))
array_begins bytes is = reads_array most_inner bytes is ∙ by_header (header_at 42 Protocol 0 most_number bytes)
  where
    by_parts : (seen : Seen (List (List Element))) → as_found joined seen ≡ and_then seen (after most_inner [])
    by_parts Wants = refl
    by_parts (Bad fault) = refl
    by_parts (Found parts rest) = ap (λ (all : List Element). Found all rest) (sym (append-nil (joined parts)))

    by_header : (seen : Seen ℕ)
        → and_then seen (λ n rest. behind (element.Array n ∷ []) (as_found joined (times (reply_at most_inner) n rest)))
        ≡ and_then seen (λ n rest. behind (element.Array n ∷ []) (to_come n [] rest))
    by_header Wants = refl
    by_header (Bad fault) = refl
    by_header (Found n rest) = ap (behind (element.Array n ∷ [])) (by_parts (times (reply_at most_inner) n rest))

-- Places among the open connections.
use Rattle.std.proofs.Common.{◌≡◌, ◌+◌, ◌++◌, ◌∷◌, ◌<◌, ◌≤◌, ◌==◌, ℕ, zero, suc, Bool, true, false, cond, not, ltb, List, [], map, remove, take, drop, set, get_or, length, Option, Some, None, is_some, IsTrue, IsFalse, inl, inr, refl, ap, sym, subst, ◌∙◌, arith}
use Rattle.std.specs.List.{position_or_len}
use Rattle.std.proofs.lemmas.Bool.{cases_lt, lt-ltb, le-ltb, ne_eqb}
use Rattle.std.specs.Prelude.{option_map, option_to_list, slice_get}
use Rattle.std.proofs.lemmas.List.{map-append, map-set, take-map, drop-map, length-map}
use Rattle.std.proofs.lemmas.Option.{slice_get-get_or, slice_get-map}
use Rattle.std.proofs.Math.Seq.{map-set_same}
use Rattle.redirection.specs.Address.{Place}
use Rattle.smart_client.specs.Pool.{Pool, closed, is_lost, is_same, place_in, turned_to, unused, with_new, without_place}
use Rattle.smart_client.specs.Wires.{Brings, Channel, Uses, Wires, at_place, left_by, wires_without}
use Rattle.smart_client.specs.declared.action.Event.{Event}
use Rattle.cluster_config.proofs.PlaceLemmas.{position-le}

-- the first element whose image passes is where the first image passes
position-map : {A B : Type 0} (passes : B → Bool) (f : A → B) (xs : List A) → position_or_len passes (map f xs) ≡ position_or_len (λ x. passes (f x)) xs
position-map passes f [] = refl
position-map passes f (x ∷ xs) = ap (λ (n : ℕ). cond (not (passes (f x))) (1 + n) 0) (position-map passes f xs)

pub map-remove : {A B : Type 0} (f : A → B) (xs : List A) (n : ℕ) → map f (remove xs n) ≡ remove (map f xs) n
map-remove {B = B} f xs n =
    map-append f (take n xs) (drop (suc n) xs)
    ∙ ap (λ (front : List B). front ++ map f (drop (suc n) xs)) (sym (take-map f n xs))
    ∙ ap (λ (back : List B). take n (map f xs) ++ back) (sym (drop-map f (suc n) xs))

never : {n : ℕ} → n < n → ⊥
never lt = omega (arith, lt)

is_true : true ≡ false → ⊥
is_true same = cc

is_false : IsTrue false → ⊥
is_false so = cc

pub is_without : {A B : Type 0} (f : A → B) (old new : List A) (place : ℕ) (used : Option ℕ) → used ≡ Some place → new ≡ remove old place
    → map f new ≡ without_place (map f old) used
is_without f old new place used is then = rw is (rw then (map-remove f old place))

-- what was taken out of its place stands behind those that were closed before
pub is_gone : {A : Type 0} (f : A → Channel) (items : List A) (gone : A) (place : ℕ) (used : Option ℕ) (others closed : List A) → used ≡ Some place → place < length items → gone ≡ get_or items place gone
    → closed ≡ others ++ gone ∷ [] → map f closed ≡ map f others ++ at_place (map f items) used
is_gone {A = A} f items gone place used others closed is lt there pushed =
    ap (λ (xs : List A). map f xs) pushed ∙ map-append f others (gone ∷ [])
    ∙ ap (λ (found : Option Channel). map f others ++ option_to_list found) (sym (slice_get-map f items place ∙ ap (option_map f) (slice_get-get_or items place gone lt ∙ ap Some (sym there))))
    ∙ ap (λ (o : Option ℕ). map f others ++ at_place (map f items) o) (sym is)

-- ---- the connection in use takes a request

-- what was put at a place is there
pub set_there : {A : Type 0} (xs : List A) (n : ℕ) (old new : A) → slice_get xs n ≡ Some old → slice_get (set xs n new) n ≡ Some new
set_there [] n old new there = cc
set_there (x ∷ xs) zero old new there = refl
set_there (x ∷ xs) (suc n) old new there = set_there xs n old new there

module _ {A : Type 0} (channel_of : A → Channel) (items : List A) (place : ℕ) (item before : A) (used : Option ℕ) (words : List (List ℕ)) (event : Event) (closed_before : List Channel) (failures : ℕ) where
  abbrev wires : List A → List Channel → Wires
  wires of closed = record { channels = map channel_of of; closed = closed; failures = failures }

  takes : (new : Wires) → used ≡ Some place → place < length items → get_or items place before ≡ before → Brings words (channel_of before) event (channel_of item)
      → new ≡ left_by event place (wires (set items place item) closed_before) → Uses words event used (wires items closed_before) new
  takes new is lt same brings then = rw is (record {
    before = channel_of before;
    after = channel_of item;
    there = slice_get-map channel_of items place ∙ ap (option_map channel_of) (slice_get-get_or items place before lt ∙ ap Some same);
    brings = brings;
    left = then ∙ ap (λ (channels : List Channel). left_by event place (record { channels = channels; closed = closed_before; failures = failures })) (map-set channel_of items place item);
  })

  pub stays : used ≡ Some place → place < length items → get_or items place before ≡ before → Brings words (channel_of before) event (channel_of item)
      → false ≡ is_lost event → Uses words event used (wires items closed_before) (wires (set items place item) closed_before)
  stays is lt same brings kept =
      takes _ is lt same brings (ap (λ (lost : Bool). cond lost (wires_without (Some place) (wires (set items place item) closed_before)) (wires (set items place item) closed_before)) kept)

  pub leaves : (new closed : List Channel) → used ≡ Some place → place < length items → get_or items place before ≡ before → Brings words (channel_of before) event (channel_of item)
      → new ≡ without_place (map channel_of (set items place item)) used → closed ≡ closed_before ++ at_place (map channel_of (set items place item)) used → true ≡ is_lost event
      → Uses words event used (wires items closed_before) (record { channels = new; closed = closed; failures = failures })
  leaves new closed is lt same brings then gone lost =
      takes _ is lt same brings
      (ap (λ (channels : List Channel). record { channels = channels; closed = closed; failures = failures }) then
      ∙ ap (λ (others : List Channel). record { channels = without_place (map channel_of (set items place item)) used; closed = others; failures = failures }) gone
      ∙ ap (λ (o : Option ℕ). wires_without o (wires (set items place item) closed_before)) is
      ∙ ap (λ (lost : Bool). cond lost (wires_without (Some place) (wires (set items place item) closed_before)) (wires (set items place item) closed_before)) lost)

module _ {A : Type 0} (address_of : A → Place) where
  abbrev pub pool_as : List A → Option ℕ → Pool
  pool_as items used = record { addresses = map address_of items; used = used }

  pub is_closed : (old new : List A) (place : ℕ) (used : Option ℕ) → used ≡ Some place → new ≡ remove old place → pool_as new None ≡ closed (pool_as old used)
  is_closed old new place used is then = rw is (rw then (ap (λ (addresses : List Place). record { addresses = addresses; used = None }) (map-remove address_of old place)))

  -- a connection that leads where it led before is the same to clauses
  pub same_pool : (items : List A) (place : ℕ) (item before : A) (used : Option ℕ) → address_of item ≡ address_of (get_or items place before) → pool_as (set items place item) used ≡ pool_as items used
  same_pool items place item before used same = ap (λ (addresses : List Place). record { addresses = addresses; used = used }) (map-set_same address_of items place item before same)

  module _ (items : List A) (address : Place) (used : Option ℕ) where
    abbrev place : ℕ
    place = position_or_len (λ item. is_same address (address_of item)) items

    there : place_in (map address_of items) address ≡ place
    there = position-map (is_same address) address_of items

    module _ (found : Option ℕ) (is : found ≡ cond (ltb place (length items)) (Some place) None) where
      found_there : place < length items → found ≡ Some place
      found_there lt = is ∙ ap (λ (b : Bool). cond b (Some place) None) (lt-ltb place (length items) lt)

      found_none : length items ≤ place → found ≡ None
      found_none le = is ∙ ap (λ (b : Bool). cond b (Some place) None) (le-ltb place (length items) le)

      apart : place < length items → (place_in (map address_of items) address == length (map address_of items)) ≡ false
      apart lt = ne_eqb _ _ (λ same. never (subst (λ (n : ℕ). n < length items) (sym there ∙ same ∙ length-map items address_of) lt))

      behind : length items ≤ place → place ≡ length items
      behind le = omega (arith, le, position-le (λ item. is_same address (address_of item)) items)

      pub turns_to : IsTrue (is_some found) → pool_as items found ≡ turned_to address (pool_as items used)
      turns_to some =
          elim (cases_lt place (length items)) [
            | inl lt ↦
                ap (λ (o : Option ℕ). pool_as items o) (found_there lt ∙ ap (λ (n : ℕ). Some n) (sym there))
                ∙ sym (ap (λ (b : Bool). cond b (with_new (pool_as items used) address) (pool_as items (Some (place_in (map address_of items) address)))) (apart lt))
            | inr le ↦ absurd (is_false (subst (λ (o : Option ℕ). IsTrue (is_some o)) (found_none le) some))
          ]

      pub turns_apart : IsTrue (is_some found) → (place_in (map address_of items) address == length (map address_of items)) ≡ false
      turns_apart some =
          elim (cases_lt place (length items)) [
            | inl lt ↦ apart lt
            | inr le ↦ absurd (is_false (subst (λ (o : Option ℕ). IsTrue (is_some o)) (found_none le) some))
          ]

      pub turns_to_none : IsFalse (is_some found) → (pool_as items found ≡ unused (pool_as items used)) × (place_in (map address_of items) address ≡ length (map address_of items))
      turns_to_none none =
          elim (cases_lt place (length items)) [
            | inl lt ↦ absurd (is_true (subst (λ (o : Option ℕ). IsFalse (is_some o)) (found_there lt) none))
            | inr le ↦ (ap (λ (o : Option ℕ). pool_as items o) (found_none le), there ∙ behind le ∙ sym (length-map items address_of))
          ]

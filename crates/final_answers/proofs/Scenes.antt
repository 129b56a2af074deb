-- The book of a world: each step writes what became of the calls of its clients.
use Rattle.std.proofs.Common.{◌<◌, insert, not, ◌≡◌, ◌≢◌, ◌+◌, ◌≤◌, ◌∙◌, ◌==◌, ◌∷◌, ℕ, zero, suc, Bool, true, false, cond, List, [], Option, None, Some, is_none, refl, sym, ap, subst, arith}
use Rattle.std.proofs.lemmas.Bool.{eq-eqb}
use Rattle.std.specs.List.{AllByRecursion}
use Rattle.std.specs.Prelude.{slice_get, slice_set}
use Rattle.world.specs.Clients.{ClientView}
use Rattle.final_answers.specs.Book.{Book, IsRight, Line}
use Rattle.final_answers.proofs.Booking.{IsBooked}
use Rattle.final_answers.proofs.Tallies.{Touches, is_waiting, tally}
use Rattle.final_answers.proofs.Booking.{booked_elsewhere}
use Rattle.std.proofs.lemmas.Bool.{and_parts, leb-true, leb-false, ne_eqb}
use Rattle.std.specs.List.{position_or_len}
use Rattle.std.specs.Prelude.{nat_le}
use Rattle.cluster_config.specs.Config.{ClusterConfig}
use Rattle.single_keyspace.proofs.Seen.{no_some, same_some}
use Rattle.world.specs.Asking.{KeepsRule}
use Rattle.world.specs.Clients.{begun_at, client_at, if_numbered, new_client, place_of, with_client}
use Rattle.world.specs.View.{SceneView}
use Rattle.final_answers.proofs.FollowingAll.{AllFollowWell}
use Rattle.final_answers.proofs.Tallies.{owned, tally-none, touched_tally}

-- ---- clients by rising number

abbrev IsBelow : ClientView → ClientView → Type 0
IsBelow client other = client.number < other.number

abbrev pub Rise : List ClientView → Type 0
Rise [] = Unit {0}
Rise (client ∷ clients) = AllByRecursion (IsBelow client) clients × Rise clients

abbrev pub IsNoneOf : ℕ → List ClientView → Type 0
IsNoneOf number [] = Unit {0}
IsNoneOf number (client ∷ clients) = (client.number ≢ number) × IsNoneOf number clients

abbrev pub AllBooked : Book → List ClientView → Type 0
AllBooked book clients = AllByRecursion (IsBooked book) clients

-- what is booked in a world
pub record Stands (scene : SceneView) (book : Book) : Type 0 where
  pub rule : KeepsRule scene
  pub well : AllFollowWell scene
  pub rise : Rise scene.clients
  pub booked : AllBooked book scene.clients
  pub owners : (number : ℕ) → IsNoneOf number scene.clients → tally (owned number) book ≡ 0
  pub right : AllByRecursion IsRight book

pub below_all : (client : ClientView) (clients : List ClientView) → AllByRecursion (IsBelow client) clients → IsNoneOf client.number clients
below_all client [] below = tt
below_all client (other ∷ clients) below = ((λ same. omega (arith, below.0, same)), below_all client clients below.1)

-- ---- lines of the others

pub others_booked : (number : ℕ) (old new : Book) → Touches number old new → (clients : List ClientView) → IsNoneOf number clients → AllBooked old clients → AllBooked new clients
others_booked number old new touches [] none all = tt
others_booked number old new touches (client ∷ clients) none all =
    (booked_elsewhere number old new client touches none.0 all.0, others_booked number old new touches clients none.1 all.1)

pub owner_apart : (number : ℕ) (old new : Book) → Touches number old new → (other : ℕ) → number ≢ other → tally (owned other) new ≡ tally (owned other) old
owner_apart number old new touches other apart =
    touched_tally number old new touches (owned other) (λ (line : Line) (own : line.client ≡ number). ne_eqb line.client other (λ (same : line.client ≡ other). apart (sym own ∙ same)))

-- ---- one client's step

module _ (client after : ClientView) (number_is : after.number ≡ client.number) where
  below_after : (one : ClientView) (clients : List ClientView) (place : ℕ) → slice_get clients place ≡ Some client → AllByRecursion (IsBelow one) clients → AllByRecursion (IsBelow one) (slice_set clients place after)
  below_after one [] place is below = tt
  below_after one (other ∷ clients) zero is below =
      let same : other.number ≡ client.number = ap (λ (c : ClientView). c.number) (same_some refl is) in
      (omega (arith, below.0, same, number_is), below.1)
  below_after one (other ∷ clients) (suc place) is below = (below.0, below_after one clients place is below.1)

  after_below : (clients : List ClientView) → AllByRecursion (IsBelow client) clients → AllByRecursion (IsBelow after) clients
  after_below [] below = tt
  after_below (other ∷ clients) below = (omega (arith, below.0, number_is), after_below clients below.1)

  pub rise_after : (clients : List ClientView) (place : ℕ) → slice_get clients place ≡ Some client → Rise clients → Rise (slice_set clients place after)
  rise_after [] place is rise = tt
  rise_after (first ∷ clients) zero is rise = (after_below clients (subst (λ (c : ClientView). AllByRecursion (IsBelow c) clients) (same_some refl is) rise.0), rise.1)
  rise_after (first ∷ clients) (suc place) is rise = (below_after first clients place is rise.0, rise_after clients place is rise.1)

  pub none_before : (number : ℕ) (clients : List ClientView) (place : ℕ) → slice_get clients place ≡ Some client → IsNoneOf number (slice_set clients place after) → IsNoneOf number clients × (client.number ≢ number)
  none_before number [] place is none = absurd (no_some refl is)
  none_before number (first ∷ clients) zero is none =
      let same : first.number ≡ client.number = ap (λ (c : ClientView). c.number) (same_some refl is) in
      (((λ it. none.0 (number_is ∙ sym same ∙ it)), none.1), λ it. none.0 (number_is ∙ it))
  none_before number (first ∷ clients) (suc place) is none =
      let rest = none_before number clients place is none.1 in
      ((none.0, rest.0), rest.1)

  pub all_after : (old new : Book) → Touches client.number old new → IsBooked new after → (clients : List ClientView) (place : ℕ) → slice_get clients place ≡ Some client → Rise clients → AllBooked old clients
      → AllBooked new (slice_set clients place after)
  all_after old new touches booked [] place is rise all = tt
  all_after old new touches booked (first ∷ clients) zero is rise all =
      let below : AllByRecursion (IsBelow client) clients = subst (λ (c : ClientView). AllByRecursion (IsBelow c) clients) (same_some refl is) rise.0 in
      (booked, others_booked client.number old new touches clients (below_all client clients below) all.1)
  all_after old new touches booked (first ∷ clients) (suc place) is rise all =
      let apart : first.number ≢ client.number = λ same. let below = below_at first clients place is rise.0 in omega (arith, below, same) in
      (booked_elsewhere client.number old new first touches apart all.0, all_after old new touches booked clients place is rise.1 all.1)
    where
      below_at : (one : ClientView) (clients : List ClientView) (place : ℕ) → slice_get clients place ≡ Some client → AllByRecursion (IsBelow one) clients → IsBelow one client
      below_at one [] place is below = absurd (no_some refl is)
      below_at one (other ∷ clients) zero is below = subst (IsBelow one) (same_some refl is) below.0
      below_at one (other ∷ clients) (suc place) is below = below_at one clients place is below.1

-- ---- a client that begins

module _ (config : ClusterConfig) (number : ℕ) where
  -- if it isn't there yet
  pub record Begun (book : Book) (clients : List ClientView) : Type 0 where
    pub rise : Rise clients
    pub booked : AllBooked book clients
    pub none : (other : ℕ) → IsNoneOf other clients → tally (owned other) book ≡ 0

  waiting_owned : (line : Line) → is_waiting number line ≡ true → owned number line ≡ true
  waiting_owned line is = (and_parts (line.client == number) (is_none line.answer) is).0

  new_booked : (book : Book) → tally (owned number) book ≡ 0 → IsBooked book (new_client config number)
  new_booked book none = record {
    calls = tally-none (is_waiting number) (owned number) book waiting_owned none;
    late = λ words plain. omega arith;
  }

  -- it takes its place behind those with lower numbers
  abbrev inserted : List ClientView → List ClientView
  inserted clients = insert clients (place_of number clients) (new_client config number)

  below_new : (one : ClientView) (clients : List ClientView) (place : ℕ) → one.number < number → AllByRecursion (IsBelow one) clients → AllByRecursion (IsBelow one) (insert clients place (new_client config number))
  below_new one clients zero below all = (below, all)
  below_new one [] (suc place) below all = (below, tt)
  below_new one (other ∷ clients) (suc place) below all = (all.0, below_new one clients place below all.1)

  new_below : (first : ClientView) (clients : List ClientView) → number < first.number → AllByRecursion (IsBelow first) clients → AllByRecursion (IsBelow (new_client config number)) clients
  new_below first [] below all = tt
  new_below first (other ∷ clients) below all = (omega (arith, below, all.0), new_below first clients below all.1)

  none_missing : (other : ℕ) (clients : List ClientView) (place : ℕ) → IsNoneOf other (insert clients place (new_client config number)) → IsNoneOf other clients
  none_missing other clients zero none = none.1
  none_missing other [] (suc place) none = tt
  none_missing other (client ∷ clients) (suc place) none = (none.0, none_missing other clients place none.1)

  all_inserted : (book : Book) (clients : List ClientView) (place : ℕ) → IsBooked book (new_client config number) → AllBooked book clients → AllBooked book (insert clients place (new_client config number))
  all_inserted book clients zero new all = (new, all)
  all_inserted book [] (suc place) new all = (new, tt)
  all_inserted book (client ∷ clients) (suc place) new all = (all.0, all_inserted book clients place new all.1)

  -- by the first client whose number isn't below
  abbrev Placed : List ClientView → Type 0
  Placed clients = IsNoneOf number clients × Rise (inserted clients)

  place_if : (first : ClientView) (clients : List ClientView) (reached : Bool) → nat_le number first.number ≡ reached → position_or_len (λ (client : ClientView). nat_le number client.number) (first ∷ clients) ≡ cond reached zero (suc (place_of number clients))
  place_if first clients true is = ap (λ (b : Bool). cond (not b) (1 + place_of number clients) 0) is
  place_if first clients false is = ap (λ (b : Bool). cond (not b) (1 + place_of number clients) 0) is ∙ more
    where
      more : 1 + place_of number clients ≡ suc (place_of number clients)
      more = omega arith

  no_lower : (first : ClientView) (others : List ClientView) → AllByRecursion (IsBelow first) others → number < first.number → IsNoneOf number others
  no_lower first [] all below = tt
  no_lower first (other ∷ others) all below = ((λ same. omega (arith, below, all.0, same)), no_lower first others all.1 below)

  placed : (clients : List ClientView) → Rise clients → client_at number clients ≡ None → Placed clients
  placed [] rise none = (tt, (tt, tt))
  placed (first ∷ clients) rise none = by_reach (placed clients rise.1) (nat_le number first.number) refl
    where
      by_reach : (client_at number clients ≡ None → Placed clients) → (reached : Bool) → nat_le number first.number ≡ reached → Placed (first ∷ clients)
      by_reach further true is =
          let at = place_if first clients true is in
          let found : if_numbered number (Some first) ≡ None = ap (λ (place : ℕ). if_numbered number (slice_get (first ∷ clients) place)) (sym at) ∙ none in
          let apart : first.number ≢ number = λ same. no_some found (ap (λ (b : Bool). cond b (Some first) None) (eq-eqb first.number number same)) in
          let reached : number ≤ first.number = leb-true number first.number is in
          let below : number < first.number = omega (arith, apart, reached) in (
            (apart, no_lower first clients rise.0 below),
            subst (λ (place : ℕ). Rise (insert (first ∷ clients) place (new_client config number))) (sym at) ((below, new_below first clients below rise.0), (rise.0, rise.1)),
          )
      by_reach further false is =
          let at = place_if first clients false is in
          let lower : first.number < number = leb-false number first.number is in
          let rest : Placed clients = further (ap (λ (place : ℕ). if_numbered number (slice_get (first ∷ clients) place)) (sym at) ∙ none) in (
            ((λ same. omega (arith, lower, same)), rest.0),
            subst (λ (place : ℕ). Rise (insert (first ∷ clients) place (new_client config number))) (sym at) (below_new first clients (place_of number clients) lower rise.0, rest.1),
          )

  pub begins_in : (book : Book) (clients : List ClientView) → Rise clients → AllBooked book clients → ((other : ℕ) → IsNoneOf other clients → tally (owned other) book ≡ 0) → Begun book (with_client config number clients)
  begins_in book clients rise booked none = by_found (client_at number clients) refl
    where
      by_found : (found : Option ClientView) → client_at number clients ≡ found → Begun book (begun_at config number clients found)
      by_found (Some client) is = record { rise = rise; booked = booked; none = none }
      by_found None is =
          let at = placed clients rise is in
          record {
            rise = at.1;
            booked = all_inserted book clients (place_of number clients) (new_booked book (none number at.0)) booked;
            none = λ other missing. none other (none_missing other clients (place_of number clients) missing);
          }

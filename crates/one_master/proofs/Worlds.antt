-- The law of elections, along a run.
use Rattle.std.proofs.Common.{◌≡◌, ◌≢◌, ◌⊎◌, ℕ, List, [], ◌∷◌, map, true, false, Option, Some, None, Contains, refl, sym, ap, subst, ◌∙◌, inl, inr, arith}
use Rattle.std.proofs.lemmas.Bool.{both_ways, cases_eq}
use Rattle.std.proofs.lemmas.List.Elements.{Contains-append_right, Contains-get_or}
use Rattle.std.proofs.lemmas.List.Kept.{AllPairs-cons}
use Rattle.std.specs.List.{AllPairs, cons_option}
use Rattle.std.specs.Prelude.{option_map, slice_get, slice_index_or, slice_set}
use Rattle.bus.specs.declared.bodies.ElectionBody.TheVariants.{Grant}
use Rattle.bus.specs.declared.message.Body.TheVariants.{Election}
use Rattle.bus.specs.declared.message.Message.{Message}
use Rattle.cluster_config.specs.Config.{ClusterConfig}
use Rattle.node_step.specs.Outcome.{Outcome, silent, stamped}
use Rattle.node_step.specs.State.{NodeState, is_replica}
use Rattle.node_step.specs.declared.outputs.Outputs.{Outputs}
use Rattle.node_step.specs.declared.promotion.Promotion.{Promotion}
use Rattle.world_run.proofs.Behind.{behind, sent_ahead, sent_behind}
use Rattle.world_run.proofs.Lists.{contains_first, contains_more, contains_nothing, first_found_or_more}
use Rattle.world_run.proofs.Nodes.{first_node, no_some, same_some, set_apart, set_here}
use Rattle.world_run.specs.Ballots.{is_elected, is_vote, was_cast}
use Rattle.world_run.specs.Law.{OneMasterAnEpoch}
use Rattle.world_run.specs.Promotions.{Promoted, promoted_in, promotion_at, promotions}
use Rattle.world_run.specs.Run.{Deed, Entry, Goes, Leads, WorldStep, first_nodes, sent_by, sent_in}
use Rattle.world_run.specs.Run.Deed.{Made, Skipped}
use Rattle.one_master.proofs.Casting.{cast_now, elected_more, elects_one, sent_more}
use Rattle.one_master.proofs.Counting.{any_cases, any_of_more}
use Rattle.one_master.proofs.Events.{event_leaves, nothing_leaves}
use Rattle.one_master.specs.Stands.{NodeStands, Stands, StepStands}

-- two promotions are of two epochs
abbrev AreApart : Promoted → Promoted → Type 0
AreApart promoted next = promoted.promotion.epoch ≢ next.promotion.epoch

-- the promotion of an entry is one of its node
pub record IsOfEntry (entry : Entry) (promoted : Promoted) : Type 0 where
  pub node : promoted.node ≡ entry.node
  pub promotion : promoted_in entry.deed ≡ Some promoted.promotion

of_entry : (entry : Entry) (promoted : Promoted) → promotion_at entry ≡ Some promoted → IsOfEntry entry promoted
of_entry entry promoted is = by_promotion (promoted_in entry.deed) refl is
  where
    by_promotion : (o : Option Promotion) → promoted_in entry.deed ≡ o → option_map (λ promotion. record { node = entry.node; promotion = promotion }) o ≡ Some promoted → IsOfEntry entry promoted
    by_promotion None none is = absurd (no_some refl is)
    by_promotion (Some promotion) some is =
        let same : (record { node = entry.node; promotion = promotion }) ≡ promoted = same_some refl is in
        record { node = sym (ap (λ (p : Promoted). p.node) same); promotion = some ∙ ap (λ (p : Promoted). Some p.promotion) same }

module _ (voters : List ℕ) (past : List Entry) (nodes : List NodeState) (stands : Stands voters past nodes) where
  -- ---- a step

  module _ (n : ℕ) (before : NodeState) (there : slice_get nodes n ≡ Some before) (entry : Entry) (at_node : entry.node ≡ n) (ticket : ℕ) (outcome : Outcome)
      (sends : sent_in entry.deed ≡ map (stamped outcome.state.number ticket outcome.state.current_epoch) outcome.sent) (promotes : promoted_in entry.deed ≡ outcome.promoted)
      (step : StepStands voters (sent_by past) n before.voter.last_vote (is_replica before) outcome) where
    abbrev new : List NodeState
    new = slice_set nodes n outcome.state

    -- a vote is of this step, or was cast before
    cast_now_or_before : (voter epoch candidate : ℕ) → was_cast (sent_by (entry ∷ past)) voter epoch candidate ≡ true
        → ((voter ≡ n) × Contains outcome.sent (candidate, Election (Grant epoch))) ⊎ (was_cast (sent_by past) voter epoch candidate ≡ true)
    cast_now_or_before voter epoch candidate cast =
        elim (any_cases (is_vote voter epoch candidate) (sent_in entry.deed) (sent_by past) cast) [
          | inl now ↦
              let here = cast_now outcome.state.number ticket outcome.state.current_epoch outcome.sent voter epoch candidate (subst (λ (l : List Message). was_cast l voter epoch candidate ≡ true) sends now) in
              inl (here.by ∙ step.number, here.among)
          | inr before ↦ inr before
        ]

    more : (message : Message) → Contains (sent_by past) message → Contains (sent_by (entry ∷ past)) message
    more message among = Contains-append_right (sent_in entry.deed) (sent_by past) message among

    node_after : NodeStands voters (sent_by (entry ∷ past)) n outcome.state
    node_after = record {
      number = step.number;
      voters_are = step.voters_are;
      voted = λ epoch candidate cast.
          elim (cast_now_or_before n epoch candidate cast) [
            | inl now ↦ (step.votes candidate epoch now.1).remembered
            | inr earlier ↦ let known = (stands.each n before there).voted epoch candidate earlier in omega (arith, known, step.rises)
          ];
      counted = sent_more (sent_by past) (sent_by (entry ∷ past)) n outcome.state.candidate.election more step.counted;
    }

    other_after : (m : ℕ) (node : NodeState) → m ≢ n → NodeStands voters (sent_by past) m node → NodeStands voters (sent_by (entry ∷ past)) m node
    other_after m node apart was = record {
      number = was.number;
      voters_are = was.voters_are;
      voted = λ epoch candidate cast.
          elim (cast_now_or_before m epoch candidate cast) [
            | inl now ↦ absurd (apart now.0)
            | inr earlier ↦ was.voted epoch candidate earlier
          ];
      counted = sent_more (sent_by past) (sent_by (entry ∷ past)) m node.candidate.election more was.counted;
    }

    each_after : (m : ℕ) (node : NodeState) → slice_get new m ≡ Some node → NodeStands voters (sent_by (entry ∷ past)) m node
    each_after m node is =
        elim (cases_eq m n) [
          | inl same ↦
              let node_is : outcome.state ≡ node = same_some (set_here nodes n before outcome.state there) (ap (slice_get new) (sym same) ∙ is) in
              subst (λ (k : ℕ). NodeStands voters (sent_by (entry ∷ past)) k node) (sym same) (subst (NodeStands voters (sent_by (entry ∷ past)) n) node_is node_after)
          | inr apart ↦ other_after m node apart (stands.each m node (sym (set_apart nodes n outcome.state m apart) ∙ is))
        ]

    votes_after : (voter epoch candidate other : ℕ) → was_cast (sent_by (entry ∷ past)) voter epoch candidate ≡ true → was_cast (sent_by (entry ∷ past)) voter epoch other ≡ true → candidate ≡ other
    votes_after voter epoch candidate other one two =
        elim (cast_now_or_before voter epoch candidate one) [
          | inl now ↦
              elim (cast_now_or_before voter epoch other two) [
                | inl also ↦ (step.votes candidate epoch now.1).alone other also.1
                | inr earlier ↦ absurd (not_before epoch candidate other now.1 (subst (λ (v : ℕ). was_cast (sent_by past) v epoch other ≡ true) now.0 earlier))
              ]
          | inr earlier ↦
              elim (cast_now_or_before voter epoch other two) [
                | inl now ↦ absurd (not_before epoch other candidate now.1 (subst (λ (v : ℕ). was_cast (sent_by past) v epoch candidate ≡ true) now.0 earlier))
                | inr also ↦ stands.votes voter epoch candidate other earlier also
              ]
        ]
      where
        not_before : (epoch candidate other : ℕ) → Contains outcome.sent (candidate, Election (Grant epoch)) → was_cast (sent_by past) n epoch other ≡ true → ⊥
        not_before epoch candidate other now earlier =
            let later = (step.votes candidate epoch now).later in
            let known = (stands.each n before there).voted epoch other earlier in
            omega (arith, later, known)

    -- a promotion of this entry
    module _ (promoted : Promoted) (is : promotion_at entry ≡ Some promoted) where
      abbrev made : IsOfEntry entry promoted
      made = of_entry entry promoted is

      abbrev won : outcome.promoted ≡ Some promoted.promotion
      won = sym promotes ∙ made.promotion

      elected_now : is_elected voters (sent_by past) promoted.promotion.epoch promoted.node ≡ true
      elected_now =
          subst (λ (m : ℕ). is_elected voters (sent_by past) promoted.promotion.epoch m ≡ true) (sym (made.node ∙ at_node)) (step.promoted promoted.promotion won).elected

      -- none of its epoch was before: that would be one of the same node, which was a master then
      apart_now : (earlier : Promoted) → Contains (promotions past) earlier → AreApart promoted earlier
      apart_now earlier among same =
          let both : is_elected voters (sent_by past) promoted.promotion.epoch earlier.node ≡ true =
          subst (λ (e : ℕ). is_elected voters (sent_by past) e earlier.node ≡ true) (sym same) (stands.elected earlier among) in
          let one : promoted.node ≡ earlier.node = elects_one voters (sent_by past) stands.votes promoted.promotion.epoch promoted.node earlier.node elected_now both in
          let its_node : slice_get nodes earlier.node ≡ Some before = ap (slice_get nodes) (sym one ∙ made.node ∙ at_node) ∙ there in
          both_ways (is_replica before) (stands.masters earlier among before its_node) (step.promoted promoted.promotion won).was

    masters_after : (promoted : Promoted) → Contains (promotions (entry ∷ past)) promoted → (node : NodeState) → slice_get new promoted.node ≡ Some node → is_replica node ≡ false
    masters_after promoted among node is =
        elim (cases_eq promoted.node n) [
          | inl same ↦
              let node_is : outcome.state ≡ node = same_some (set_here nodes n before outcome.state there) (ap (slice_get new) (sym same) ∙ is) in
              subst (λ (s : NodeState). is_replica s ≡ false) node_is
              (elim (first_found_or_more promotion_at entry past promoted among) [
                | inl now ↦ (step.promoted promoted.promotion (won promoted now)).is
                | inr earlier ↦ step.stays (stands.masters promoted earlier before (ap (slice_get nodes) same ∙ there))
              ])
          | inr apart ↦
              elim (first_found_or_more promotion_at entry past promoted among) [
                | inl now ↦ absurd (apart ((of_entry entry promoted now).node ∙ at_node))
                | inr earlier ↦ stands.masters promoted earlier node (sym (set_apart nodes n outcome.state promoted.node apart) ∙ is)
              ]
        ]

    elected_after : (promoted : Promoted) → Contains (promotions (entry ∷ past)) promoted → is_elected voters (sent_by (entry ∷ past)) promoted.promotion.epoch promoted.node ≡ true
    elected_after promoted among =
        elected_more voters (sent_by past) (sent_by (entry ∷ past)) promoted.promotion.epoch promoted.node more
        (elim (first_found_or_more promotion_at entry past promoted among) [
          | inl now ↦ elected_now promoted now
          | inr earlier ↦ stands.elected promoted earlier
        ])

    pub stands_after : Stands voters (entry ∷ past) new
    stands_after = record { each = each_after; masters = masters_after; votes = votes_after; elected = elected_after }

  -- what an entry leaves
  pub record EntryStands (entry : Entry) (after : List NodeState) : Type 0 where
    pub world : Stands voters (entry ∷ past) after
    pub apart : (promoted : Promoted) → promotion_at entry ≡ Some promoted → (earlier : Promoted) → Contains (promotions past) earlier → AreApart promoted earlier

  pub entry_stands : (entry : Entry) (after : List NodeState) → WorldStep past nodes entry after → EntryStands entry after
  entry_stands entry after world =
      subst (EntryStands entry) (sym world.is) (by_deed entry.deed refl world.leads)
    where
      node : NodeStands voters (sent_by past) entry.node world.before
      node = stands.each entry.node world.before world.was

      with_outcome : (ticket : ℕ) (outcome : Outcome) → sent_in entry.deed ≡ map (stamped outcome.state.number ticket outcome.state.current_epoch) outcome.sent → promoted_in entry.deed ≡ outcome.promoted
          → StepStands voters (sent_by past) entry.node world.before.voter.last_vote (is_replica world.before) outcome → EntryStands entry (slice_set nodes entry.node outcome.state)
      with_outcome ticket outcome sends promotes step = record {
        world = stands_after entry.node world.before world.was entry refl ticket outcome sends promotes step;
        apart = apart_now entry.node world.before world.was entry refl ticket outcome sends promotes step;
      }

      by_deed : (deed : Deed) → entry.deed ≡ deed → Leads past entry.ticket world.before deed world.after → EntryStands entry (slice_set nodes entry.node world.after)
      by_deed Skipped skipped same =
          subst (λ (s : NodeState). EntryStands entry (slice_set nodes entry.node s)) (sym same)
          (with_outcome 0 (silent world.before) (ap sent_in skipped) (ap promoted_in skipped) (nothing_leaves voters past entry.node world.before node))
      by_deed (Made event outputs) made (happens, stepped) =
          subst (λ (s : NodeState). EntryStands entry (slice_set nodes entry.node s)) (sym stepped.state)
          (with_outcome entry.ticket stepped.outcome
          (ap sent_in made ∙ ap (λ (o : Outputs). o.sent) stepped.outputs_are) (ap promoted_in made ∙ ap (λ (o : Outputs). o.promoted) stepped.outputs_are)
          (event_leaves voters past entry.node world.before node event stepped.outcome happens stepped.may_come))

-- ---- runs

found_first : (entry : Entry) (entries : List Entry) (promoted : Promoted) → promotion_at entry ≡ Some promoted → Contains (promotions (entry ∷ entries)) promoted
found_first entry entries promoted is = subst (λ (o : Option Promoted). Contains (cons_option o (promotions entries)) promoted) (sym is) (contains_first promoted (promotions entries))

found_more : (entry : Entry) (entries : List Entry) (promoted : Promoted) → Contains (promotions entries) promoted → Contains (promotions (entry ∷ entries)) promoted
found_more entry entries promoted among = by_first (promotion_at entry)
  where
    by_first : (o : Option Promoted) → Contains (cons_option o (promotions entries)) promoted
    by_first None = among
    by_first (Some first) = contains_more first promoted (promotions entries) among

promoted_behind : (past entries : List Entry) (promoted : Promoted) → Contains (promotions entries) promoted ⊎ Contains (promotions past) promoted → Contains (promotions (behind past entries)) promoted
promoted_behind past [] promoted (inl none) = absurd (contains_nothing promoted none)
promoted_behind past [] promoted (inr earlier) = earlier
promoted_behind past (entry ∷ entries) promoted (inr earlier) = promoted_behind (entry ∷ past) entries promoted (inr (found_more entry past promoted earlier))
promoted_behind past (entry ∷ entries) promoted (inl among) =
    promoted_behind (entry ∷ past) entries promoted
    (elim (first_found_or_more promotion_at entry entries promoted among) [
      | inl now ↦ inr (found_first entry past promoted now)
      | inr later ↦ inl later
    ])

-- at the end of a run
run_stands : (voters : List ℕ) (past : List Entry) (nodes : List NodeState) → Stands voters past nodes → (entries : List Entry) (last : List NodeState) → Goes past nodes entries last → Stands voters (behind past entries) last
run_stands voters past nodes stands [] last goes = subst (Stands voters past) (sym goes) stands
run_stands voters past nodes stands (entry ∷ entries) last goes =
    run_stands voters (entry ∷ past) goes.0 (entry_stands voters past nodes stands entry goes.0 goes.1).world entries last goes.2

-- promotions are apart from each other, and from those of the past
record PromotionsAreApart (past entries : List Entry) : Type 0 where
  here : AllPairs AreApart (promotions entries)
  before : (promoted : Promoted) → Contains (promotions entries) promoted → (earlier : Promoted) → Contains (promotions past) earlier → AreApart promoted earlier

one_more_apart : (past : List Entry) (entry : Entry) (entries : List Entry)
    → ((promoted : Promoted) → promotion_at entry ≡ Some promoted → (earlier : Promoted) → Contains (promotions past) earlier → AreApart promoted earlier)
    → PromotionsAreApart (entry ∷ past) entries → PromotionsAreApart past (entry ∷ entries)
one_more_apart past entry entries now rest = record {
  here = by_first (promotion_at entry) refl;
  before = λ promoted among earlier old.
      elim (first_found_or_more promotion_at entry entries promoted among) [
        | inl first ↦ now promoted first earlier old
        | inr later ↦ rest.before promoted later earlier (found_more entry past earlier old)
      ];
}
  where
    by_first : (o : Option Promoted) → promotion_at entry ≡ o → AllPairs AreApart (cons_option o (promotions entries))
    by_first None is = rest.here
    by_first (Some first) is =
        AllPairs-cons AreApart first (promotions entries)
        (λ k default below same.
        rest.before (slice_index_or (promotions entries) k default) (Contains-get_or (promotions entries) k default below) first (found_first entry past first is) (sym same))
        rest.here

runs_apart : (voters : List ℕ) (past : List Entry) (nodes : List NodeState) → Stands voters past nodes → (entries : List Entry) (last : List NodeState) → Goes past nodes entries last → PromotionsAreApart past entries
runs_apart voters past nodes stands [] last goes = record { here = λ i j default less within. absurd (omega (arith, within)); before = λ promoted among. absurd (contains_nothing promoted among) }
runs_apart voters past nodes stands (entry ∷ entries) last goes =
    let step = entry_stands voters past nodes stands entry goes.0 goes.1 in
    one_more_apart past entry entries step.apart (runs_apart voters (entry ∷ past) goes.0 step.world entries last goes.2)

-- nobody has voted at the start
first_stands : (config : ClusterConfig) → Stands config.voters [] (first_nodes config)
first_stands config = record {
  each = λ n node is.
      elim (first_node config n) [
        | inl there ↦
            subst (NodeStands config.voters [] n) (same_some there.1 is)
            (record { number = refl; voters_are = refl; voted = λ epoch candidate cast. absurd (both_ways false refl cast); counted = tt })
        | inr missing ↦ absurd (no_some missing is)
      ];
  masters = λ promoted among. absurd (contains_nothing promoted among);
  votes = λ voter epoch candidate other one. absurd (both_ways false refl one);
  elected = λ promoted among. absurd (contains_nothing promoted among);
}

pub law : OneMasterAnEpoch
law config entries run =
    let first = first_stands config in
    let last = run_stands config.voters [] (first_nodes config) first entries run.last run.goes in
    let apart = runs_apart config.voters [] (first_nodes config) first entries run.last run.goes in
    let all : List Message = sent_by (behind [] entries) in
    let known : (message : Message) → Contains (sent_by entries) message → Contains all message = λ message among. sent_behind [] entries message (inl among) in
    let none_else : (message : Message) → Contains all message → Contains (sent_by entries) message = λ message among.
    elim (sent_ahead [] entries message among) [
      | inl later ↦ later
      | inr nothing ↦ absurd (contains_nothing message nothing)
    ] in
    let votes : (voter epoch candidate other : ℕ) → was_cast (sent_by entries) voter epoch candidate ≡ true → was_cast (sent_by entries) voter epoch other ≡ true → candidate ≡ other =
    λ voter epoch candidate other one two.
    last.votes voter epoch candidate other (any_of_more (is_vote voter epoch candidate) (sent_by entries) all known one) (any_of_more (is_vote voter epoch other) (sent_by entries) all known two) in
    record {
      votes = votes;
      elects = elects_one config.voters (sent_by entries) votes;
      elected = λ promoted among.
          elected_more config.voters all (sent_by entries) promoted.promotion.epoch promoted.node none_else (last.elected promoted (promoted_behind [] entries promoted (inl among)));
      apart = apart.here;
    }

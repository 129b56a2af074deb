use Rattle.std.proofs.Common.{◌∙◌, ap, ap₂, rules, List, ℕ, map}
use Rattle.config_text.specs.Faults.{number_of}
use Rattle.config_text.specs.Reading.{node_of}
use Rattle.config_text.specs.declared.form.Draft.{Draft}
use Rattle.config_text.specs.declared.form.NodeDraft.{NodeDraft}
use Rattle.config_text.proofs.BuildLemmas.{all_known_in, all_sound, cluster_of, faultless}
use Rattle.config_text.proofs.building.config_of.Goals as goal

pub overflow_cast-draft-inside : goal.overflow_cast-draft-inside
overflow_cast-draft-inside c =
    let within = (faultless c.args.draft.now c.requires).tick_ms in
    search rules

pub overflow_cast-draft-inside-2 : goal.overflow_cast-draft-inside-2
overflow_cast-draft-inside-2 c =
    let within = (faultless c.args.draft.now c.requires).node_timeout in
    search rules

pub overflow_cast-draft-inside-3 : goal.overflow_cast-draft-inside-3
overflow_cast-draft-inside-3 c =
    let within = (faultless c.args.draft.now c.requires).backlog in
    search rules

pub nodes_of-requires-clause-few : goal.nodes_of-requires-clause-few
nodes_of-requires-clause-few c =
    let nodes = c.as_slice-drafts.ensures.value ∙ ap (λ (d : Draft). d.nodes) c.draft.view_is in
    rw nodes (faultless c.args.draft.now c.requires).most

pub nodes_of-requires-clause-sound : goal.nodes_of-requires-clause-sound
nodes_of-requires-clause-sound c =
    let nodes = c.as_slice-drafts.ensures.value ∙ ap (λ (d : Draft). d.nodes) c.draft.view_is in
    rw nodes (all_sound c.args.draft.now (faultless c.args.draft.now c.requires))

pub voters_of-requires-clause-few : goal.voters_of-requires-clause-few
voters_of-requires-clause-few c =
    let nodes = c.as_slice-drafts.ensures.value ∙ ap (λ (d : Draft). d.nodes) c.draft.view_is in
    rw nodes (faultless c.args.draft.now c.requires).most

pub voters_of-requires-clause-known : goal.voters_of-requires-clause-known
voters_of-requires-clause-known c =
    let nodes = c.as_slice-drafts.ensures.value ∙ ap (λ (d : Draft). d.nodes) c.draft.view_is in
    let voters = c.as_slice.ensures.value ∙ ap (λ (d : Draft). d.voters) c.draft.view_is in
    all_known_in c.args.draft.now (faultless c.args.draft.now c.requires) _ _ nodes voters

pub new-requires : goal.new-requires
new-requires c =
    let nodes = c.as_slice-drafts.ensures.value ∙ ap (λ (d : Draft). d.nodes) c.draft.view_is in
    let voters = c.as_slice.ensures.value ∙ ap (λ (d : Draft). d.voters) c.draft.view_is in
    cluster_of c.args.draft.now (faultless c.args.draft.now c.requires) _ _ _ _ _ (search rules) (search rules) (search rules)
    (c.in_ok-nodes.ensures.nodes ∙ ap (λ (nodes : List NodeDraft). map (node_of nodes) nodes) nodes)
    (c.in_ok-voters.ensures ∙ ap₂ (λ (nodes : List NodeDraft) (voters : List (List ℕ)). map (number_of nodes) voters) nodes voters)
    c.in_ok-nodes.ensures.hosts

use Rattle.std.proofs.Common.{◌++◌, ◌∷◌, [], length, sym, ap, ◌∙◌, subst}
use Rattle.link_ends.specs.Ends.{AllArrived, AreWired}
use Rattle.link_ends.proofs.TogetherLemmas.{all_arrived, last_across, others_wired, own_link, some_end}
use Rattle.link_ends.proofs.comparing.compare_last.Goals as goal

pub take_last-requires : goal.take_last-requires
take_last-requires g c = some_end c.args.others.now c.args.last c.requires

pub compare_to_itself-requires : goal.compare_to_itself-requires
compare_to_itself-requires g c = own_link _ _ _ _ c.requires c.take_last.ensures

pub compare_each-requires : goal.compare_each-requires
compare_each-requires g c = last_across _ _ _ c.take_last.result c.requires (c.take_last.ensures ∙ ap (λ row. row ++ c.take_last.result ∷ []) (sym c.into_vec.ensures))

pub returns-clause-wired : goal.returns-clause-wired
returns-clause-wired g c = subst (AreWired (length c.args.others.now)) (sym c.compare_each.ensures.shorter) (others_wired _ _ _ _ c.requires c.take_last.ensures)

pub returns-clause-arrived : goal.returns-clause-arrived
returns-clause-arrived g c rest =
    all_arrived _ _ c.into_vec.result.items _ c.requires (c.take_last.ensures ∙ ap (λ row. row ++ c.take_last.result ∷ []) (sym c.into_vec.ensures))
    c.compare_to_itself.ensures c.compare_each.ensures.arrived (subst (AllArrived (length c.args.others.now)) c.compare_each.ensures.shorter rest)
